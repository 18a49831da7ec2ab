use Rattle.std.proofs.Common.{ap, arith, ℕ, ◌%◌, ◌*◌, ◌+◌, ◌-◌, ◌/◌, ◌<◌, ◌^◌, ◌∙◌}
use Rattle.bits.proofs.Masks.{patch_lt, patch_calc}
use Rattle.bits.proofs.patched.Goals as goal

pub overflow_cast-result : goal.overflow_cast-result
overflow_cast-result c =
    let a = c.args in
    let h : c.from-w.result < 2 ^ 8 = omega arith in
    record { fits = rw (patch_calc c.from-w.result a.p a.off a.t h (omega arith) (omega arith)) (patch_lt c.from-w.result a.p a.off a.t h (omega arith) (omega arith)) }

pub returns : goal.returns
returns c =
    let a = c.args in
    patch_calc c.from-w.result a.p a.off a.t (omega arith) (omega arith) (omega arith)
    ∙ ap (λ (w : ℕ). (w / 2 ^ (8 - a.off) * 2 ^ a.t + a.p) * 2 ^ (8 - a.off - a.t) + w % 2 ^ (8 - a.off - a.t)) c.from-w.ensures
