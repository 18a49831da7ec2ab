use Rattle.std.proofs.Common.{ap, arith, drop, inl, inr, length-set, refl, rules, set, take, ◌/◌, ◌∙◌, ◌≡◌}
use lib.Bits.{and_mask}
use Rattle.format.proofs.Bytes.{length-bits_of}
use Rattle.format.proofs.Rows.{front, words_read, row_read}
use Rattle.format.specs.Bits.{bits_of}
use Rattle.format.specs.Sheet.{words_of}
use Rattle.sheet.proofs.row_at.Goals as goal
use Rattle.sheet.proofs.row_at.Goals.{then-k-lt8, else-k-lt8}

pub loop-w-init : goal.loop-w-init
unfolding words_of
loop-w-init c = (search rules, search rules, refl)

pub loop-w-preserved : goal.loop-w-preserved
loop-w-preserved c =
    let a = c.args in
    let l = c.loop-w in
    let f = c.field-f in (
      length-set l.words l.w f.result.value ∙ l.invariant.0,
      omega (arith, f.ensures.1),
      words_read (bits_of a.s.now) a.at.at a.shape.n l.w l.c.at f.result.value l.words (omega arith) (rw length-bits_of (omega arith)) (omega arith) (omega arith) f.ensures.0 l.invariant.2,
    )

pub returns : goal.returns
returns c =
    let f = c.field-last in
    let l = c.loop-w in
    let a = c.args in
    let k : l.w ≡ a.shape.n / 64 = omega arith in (
      row_read (bits_of a.s.now) a.at.at a.shape.n (a.shape.n / 64) l.c.at f.result.value l.words (omega arith) (rw length-bits_of (omega arith)) refl (omega arith) f.ensures.0
          (l.invariant.2 ∙ ap (front (take a.shape.n (drop a.at.at (bits_of a.s.now)))) k) _ _
          (elim c.if-k-lt8.branch [ then-k-lt8 z ↦ inl (z.if-k-lt8.true, z.words-is ∙ ap (set l.words (a.shape.n / 64)) z.raised.ensures) | else-k-lt8 z ↦ inr (z.if-k-lt8.false, z.words-is) ]) (omega (arith, and_mask f.result.value 1)),
      omega (arith, f.ensures.1),
    )
