use Rattle.std.proofs.Common.{arith, rules, sym, ◌∙◌, ◌≡◌, ℕ, slice_index_or, Fits, w64}
use Rattle.words.proofs.Parity.{meet, count_none, count_more, eqb_par, words_sum}
use Rattle.words.proofs.odd.Goals as goal
use Rattle.words.proofs.odd.Goals.{Start}

fits : (c : Start) (i : ℕ) → Fits w64 (slice_index_or c.args.row i 0)
fits c i = search rules

pub loop-i-init : goal.loop-i-init
loop-i-init c = count_none _ _ _

pub loop-i-preserved : goal.loop-i-preserved
unfolding meet
loop-i-preserved c =
    let l = c.loop-i in
    count_more 8 c.args.row c.args.truth l.ones l.i l.invariant (omega arith) c.loop-i-test.element_fits.fits

pub returns : goal.returns
returns c =
    let l = c.loop-i in
    let e : l.i ≡ 8 = omega arith in
    eqb_par l.ones ∙ (rw e at l.invariant.sum) ∙ sym (words_sum 8 c.args.row c.args.truth (λ w h. (fits (goal.at.returns c).Start w).fits))
