use Rattle.std.proofs.Common.{ap₂, arith, get_or, mod-lt, pow_pos, refl, rules, sym, ℕ, ◌%◌, ◌*◌, ◌+◌, ◌-◌, ◌/◌, ◌<◌, ◌^◌, ◌∙◌}
use Rattle.bits.proofs.Masks.{joined}
use Rattle.format.proofs.Bytes.{length-bits_of, field_step}
use Rattle.format.proofs.Values.{field_lt}
use Rattle.format.specs.Bits.{bits_of, value_of}
use Rattle.cursor.proofs.Cursor.field_bytes.Goals as goal

pub loop-done-init : goal.loop-done-init
unfolding value_of
loop-done-init c = (search rules, refl)

pub loop-done-preserved : goal.loop-done-preserved
loop-done-preserved c =
    let a = c.args in
    let l = c.loop-done in
    let t = c.min-t.result in
    let i = a.self.at + l.done in
    let hp : c.piece-p.result < 2 ^ t = rw c.piece-p.ensures (mod-lt (get_or a.s.now (i / 8) 0 / 2 ^ (8 - i % 8 - t)) (pow_pos t)) in
    let hv : l.value < 2 ^ l.done = rw l.invariant.1 (field_lt l.done a.self.at (bits_of a.s.now) (rw length-bits_of (omega arith))) in (
      search rules,
      joined l.value l.done t hv (omega arith) hp
          ∙ ap₂ (λ (x y : ℕ). x * 2 ^ t + y) l.invariant.1 c.piece-p.ensures
          ∙ sym (field_step a.s.now a.self.at l.done t (omega arith) (omega arith)),
    )
