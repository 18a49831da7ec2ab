use Rattle.std.proofs.Common.{arith, ◌+◌, ◌-◌, ◌/◌, ◌≡◌}
use Rattle.words.proofs.Bits.{either_read}
use Rattle.tableau.specs.Layout.{row_size, row_at}
use Rattle.opening.proofs.in_two.Goals as goal

pub returns : goal.returns
returns c =
    let a = c.args in
    let e : row_at a.r + (a.v.number - 1) / 64 + row_size ≡ row_at (a.r + 1) + (a.v.number - 1) / 64 = omega arith in
    rw (c.place-w.ensures.0, c.place-w.ensures.1, e) (either_read a.work.now (row_at a.r) (row_at (a.r + 1)) (a.v.number - 1))
