use Rattle.std.proofs.Common.{ap, arith, div-one, length-set, refl, ℕ, ◌*◌, ◌+◌, ◌-◌, ◌/◌, ◌^◌, ◌∙◌, ◌≡◌}
use Rattle.format.proofs.Bytes.{length-bits_of}
use Rattle.format.proofs.Puts.{put_at-none, word_put_step}
use Rattle.format.specs.Bits.{bits_n, bits_of, put_at}
use Rattle.bits.proofs.put_word.Goals as goal

pub loop-i-init : goal.loop-i-init
unfolding bits_n
loop-i-init c = (refl, put_at-none (bits_of c.args.s.now) (8 * c.args.q))

pub loop-i-preserved : goal.loop-i-preserved
loop-i-preserved c =
    let a = c.args in
    let l = c.loop-i in (
      length-set l.s (a.q + l.i) c.low_byte.result ∙ l.invariant.0,
      word_put_step (bits_of a.s.now) l.s a.q l.i a.v c.low_byte.result (omega (arith, length-bits_of a.s.now)) (omega arith) (omega arith) l.invariant.1 c.low_byte.ensures,
    )

pub returns : goal.returns
returns c =
    let a = c.args in
    let l = c.loop-i in
    let e : l.i ≡ 8 = omega arith in
    l.invariant.1
    ∙ ap (λ (k : ℕ). put_at (bits_of a.s.now) (8 * a.q) (bits_n (8 * k) (a.v / 2 ^ (64 - 8 * k)))) e
    ∙ ap (λ (x : ℕ). put_at (bits_of a.s.now) (8 * a.q) (bits_n 64 x)) (div-one a.v)
