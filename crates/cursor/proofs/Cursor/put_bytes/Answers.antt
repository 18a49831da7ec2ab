use Rattle.std.proofs.Common.{ap, arith, get_or, length-set, refl, rules, ℕ, ◌%◌, ◌*◌, ◌+◌, ◌-◌, ◌/◌, ◌^◌, ◌∙◌, ◌≡◌}
use Rattle.bits.proofs.Masks.{mask}
use Rattle.format.proofs.Bytes.{length-bits_of}
use Rattle.format.proofs.Puts.{put_at-none, put_step}
use Rattle.format.specs.Bits.{bits_n, bits_of}
use Rattle.cursor.proofs.Cursor.put_bytes.Goals as goal

pub loop-done-init : goal.loop-done-init
unfolding bits_n
loop-done-init c = (search rules, refl, put_at-none (bits_of c.args.s.now) c.args.self.at)

pub loop-done-preserved : goal.loop-done-preserved
loop-done-preserved c =
    let a = c.args in
    let l = c.loop-done in
    let t = c.min-t.result in
    let i = a.self.at + l.done in
    let y = get_or l.s (i / 8) 0 in
    let n = a.count - l.done - t in
    let e : c.patched-x.result ≡ (y / 2 ^ (8 - i % 8) * 2 ^ t + a.value / 2 ^ n % 2 ^ t) * 2 ^ (8 - i % 8 - t) + y % 2 ^ (8 - i % 8 - t) =
    c.patched-x.ensures ∙ ap (λ (p : ℕ). (y / 2 ^ (8 - i % 8) * 2 ^ t + p) * 2 ^ (8 - i % 8 - t) + y % 2 ^ (8 - i % 8 - t)) (mask (a.value / 2 ^ n) t (omega arith)) in (
      search rules,
      length-set l.s (i / 8) c.patched-x.result ∙ l.invariant.1,
      put_step (bits_of a.s.now) l.s a.self.at a.count l.done t a.value (rw length-bits_of (omega arith)) (omega arith) (omega arith) (omega arith) l.invariant.2 c.patched-x.result e,
    )
