use Rattle.std.proofs.Common.{arith, ◌*◌, ◌+◌, ◌-◌, ◌≡◌}
use Rattle.tableau.proofs.Runs.{chain_span}
use Rattle.exchange.specs.Steps.{RowCleared}
use Rattle.opening.proofs.clear_rows.Goals as goal

pub loop-i-preserved : goal.loop-i-preserved
loop-i-preserved c =
    let a = c.args in
    let l = c.loop-i in
    let e : 2 * l.i + 2 ≡ 2 * (l.i + 1) = omega arith in
    rw e at (chain_span (RowCleared a.k (a.v.number - 1)) (2 * l.i) 2 _ _ _ l.auto.work l.invariant c.clear_two.ensures)
