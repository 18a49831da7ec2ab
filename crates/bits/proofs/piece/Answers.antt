use Rattle.std.proofs.Common.{ap, arith, ℕ, ◌%◌, ◌-◌, ◌/◌, ◌^◌, ◌∙◌}
use Rattle.bits.proofs.Masks.{mask}
use Rattle.bits.proofs.piece.Goals as goal

pub returns : goal.returns
returns c =
    let a = c.args in
    mask (c.from.result / 2 ^ (8 - a.off - a.t)) a.t (omega arith)
    ∙ ap (λ (x : ℕ). x / 2 ^ (8 - a.off - a.t) % 2 ^ a.t) c.from.ensures
