use Rattle.std.proofs.Common.{ap, arith, ℕ, ◌*◌, ◌+◌, ◌-◌, ◌/◌, ◌<◌, ◌^◌, ◌∙◌}
use Rattle.bits.proofs.Masks.{head_calc}
use Rattle.bits.proofs.headed.Goals as goal

pub returns : goal.returns
returns c =
    let a = c.args in
    let y = c.from in
    let h : y.result < 2 ^ 8 = omega arith in
    rw c.raised.ensures
    (head_calc y.result a.off a.v h (omega arith) (omega arith) ∙ ap (λ (n : ℕ). n / 2 ^ (8 - a.off) * 2 ^ (64 - a.off) + a.v / 2 ^ a.off) y.ensures)
