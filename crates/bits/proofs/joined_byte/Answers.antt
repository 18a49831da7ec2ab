use Rattle.std.proofs.Common.{ap, arith, ℕ, ◌*◌, ◌+◌, ◌<◌, ◌^◌, ◌∙◌}
use Rattle.bits.proofs.Masks.{joined}
use Rattle.bits.proofs.joined_byte.Goals as goal

pub returns : goal.returns
returns c =
    let a = c.args in
    let h : c.from.result < 2 ^ 8 = omega arith in
    joined a.v 56 8 (omega arith) (omega arith) h ∙ ap (λ (x : ℕ). a.v * 2 ^ 8 + x) c.from.ensures
