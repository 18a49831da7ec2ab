use Rattle.std.proofs.Common.{ap, arith, drop, get_or, refl, sym, take, ℕ, ◌*◌, ◌+◌, ◌^◌, ◌∙◌, ◌≡◌}
use Rattle.bits.proofs.Windows.{word_room}
use Rattle.format.proofs.Bytes.{word_step}
use Rattle.format.specs.Bits.{bits_of, value_of}
use Rattle.bits.proofs.word.Goals as goal

pub loop-i-init : goal.loop-i-init
unfolding value_of
loop-i-init c = refl

pub joined_byte-v-requires : goal.joined_byte-v-requires
joined_byte-v-requires c =
    let a = c.args in
    let l = c.loop-i in
    rw l.invariant (word_room a.s.now a.q l.i (omega arith) (omega arith))

pub loop-i-preserved : goal.loop-i-preserved
loop-i-preserved c =
    let a = c.args in
    let l = c.loop-i in
    let b = get_or a.s.now (a.q + l.i) 0 in
    c.joined_byte-v.ensures
    ∙ ap (λ (x : ℕ). x * 2 ^ 8 + b) l.invariant
    ∙ sym (word_step a.s.now a.q l.i (omega arith) (c.shared_slice_known-in-loop-i-1.given (a.q + l.i)).fits)

pub returns : goal.returns
returns c =
    let a = c.args in
    let l = c.loop-i in
    let e : 8 * l.i ≡ 64 = omega arith in
    l.invariant ∙ ap (λ (k : ℕ). value_of (take k (drop (8 * a.q) (bits_of a.s.now)))) e
