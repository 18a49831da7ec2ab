use Rattle.std.proofs.Common.{rules, ℕ, arith, sym, ap, ◌∙◌, slice_index_or, length-set}
use Rattle.std.specs.Int.Bits.{bit_xor}
use Rattle.words.specs.Words.{xor_words}
use Rattle.words.proofs.Bits.{length_xor, word_xor}
use Rattle.words.proofs.Fills.{fill_more, fill_done, agree_here, agree_rest}
use Rattle.words.proofs.sum.Goals as goal

pub loop-i-preserved : goal.loop-i-preserved
loop-i-preserved g c =
    let l = c.loop-i in
    let a = c.args.a in
    let b = c.args.b in (
      simp length-set l.invariant.0,
      fill_more (xor_words a b) l.out l.i _
          (word_xor a b l.i ∙ ap (λ (y : ℕ). bit_xor y (slice_index_or b l.i 0)) (sym (agree_here l.out a l.i l.invariant.2)))
          (omega (arith, length_xor a b (search rules))) (omega arith) l.invariant.1,
      agree_rest l.out a l.i _ l.invariant.2,
    )

pub returns : goal.returns
returns g c =
    let l = c.loop-i in
    fill_done (xor_words c.args.a c.args.b) l.out l.i (omega (arith, length_xor c.args.a c.args.b (search rules))) (omega arith) l.invariant.1
