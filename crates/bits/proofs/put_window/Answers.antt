use Rattle.std.proofs.Common.{ap, arith, get_or, ℕ, ◌%◌, ◌*◌, ◌+◌, ◌-◌, ◌/◌, ◌^◌, ◌∙◌}
use Rattle.bits.proofs.Masks.{mask}
use Rattle.bits.proofs.Windows.{window_put}
use Rattle.bits.proofs.put_window.Goals as goal

pub returns : goal.returns
returns c =
    let a = c.args in
    let w = c.put_word in
    let x = c.headed-x in
    let y = get_or w.new.s (a.q + 8) 0 in
    window_put a.s.now a.q a.off a.v (omega arith) (omega arith) (omega arith) w.new.s x.result c.patched-last.result w.auto.s x.ensures w.ensures
    (c.patched-last.ensures ∙ ap (λ (p : ℕ). (y / 2 ^ (8 - 0) * 2 ^ a.off + p) * 2 ^ (8 - 0 - a.off) + y % 2 ^ (8 - 0 - a.off)) (mask a.v a.off (omega arith)))
