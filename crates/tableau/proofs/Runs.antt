-- LOOPS THAT WRITE A RUN OF WORDS, and steps one after another.
--   run_none, run_more      nothing written yet; one word more
--   slice_at                words read from an equal place
--   slice_bit, slice_sum    the bits of words that were read, and the sum of the bits that two such lists share
--   chain_more              one step more
--   chain_span              a chain of a steps, then a span of j steps from a on, is a chain of a + j steps
--   span_two                two steps
--   chain_idle              a chain goes on over steps that change nothing
-- Assumes nothing.
use mathlib.Core.Path.{◌≡◌, refl, ap, ap₂, ◌∙◌}
use mathlib.Core.List.{List}
use mathlib.Core.Bool.{◌&&◌}
use mathlib.Core.Logic.{◌⊎◌, inl, inr}
use Prim.Native.Nat.{ℕ, zero, suc, ◌+◌, ◌*◌, ◌/◌, ◌<◌, ◌≤◌}
use native.Mathlib.Nat.{not-suc-le-zero, zero-add}
use native.Mathlib.Numerals.{add-one}
use native.Mathlib.Omega.{arith}
use lib.ListN.{length, get_or, set, length-set}
use lib.Seq.{get_or-set_same, get_or-set_other}
use Rattle.gf2.specs.Field.{xsum}
use Rattle.gf2.proofs.Sums.{sum_cong}
use Rattle.linear.proofs.Exchange.{at_or_not}
use Rattle.words.specs.Words.{bit_at}
use Rattle.words.proofs.Bits.{bit_same}
use Rattle.tableau.specs.Buffer.{Run, Slice, Chain, Span}

pub run_none : (off : ℕ) (want : ℕ → ℕ) (ws : List ℕ) → Run off 0 want ws ws
run_none off want ws = record { len = refl; done = λ i l. absurd (not-suc-le-zero l); rest = λ i h. refl }

pub run_more : (off j : ℕ) (want : ℕ → ℕ) (ws w : List ℕ) (x : ℕ) → Run off j want ws w → off + j < length ws → x ≡ want j → Run off (j + 1) want ws (set w (off + j) x)
run_more off j want ws w x r l e =
    record {
      len = length-set w (off + j) x ∙ r.len;
      done = at_or_not (j + 1) j (λ i. get_or (set w (off + j) x) (off + i) 0 ≡ want i) (get_or-set_same w (off + j) x 0 (omega (arith, r.len)) ∙ e)
          (λ i h d. get_or-set_other w (off + j) (off + i) x 0 (λ (z : off + i ≡ off + j). d (omega arith)) ∙ r.done i (omega arith));
      rest = rest;
    }
  where
    rest : (i : ℕ) → (i < off) ⊎ (off + (j + 1) ≤ i) → get_or (set w (off + j) x) i 0 ≡ get_or ws i 0
    rest i (inl h) = get_or-set_other w (off + j) i x 0 (λ (z : i ≡ off + j). absurd (omega arith)) ∙ r.rest i (inl h)
    rest i (inr h) = get_or-set_other w (off + j) i x 0 (λ (z : i ≡ off + j). absurd (omega arith)) ∙ r.rest i (inr (omega arith))

pub slice_bit : (k at : ℕ) (ws r : List ℕ) → Slice k ws at r → (i : ℕ) → i < k * 64 → bit_at r 0 i ≡ bit_at ws at i
slice_bit k at ws r h i l = bit_same ws r at 0 i (ap (λ (x : ℕ). get_or r x 0) (zero-add (i / 64)) ∙ h.word (i / 64) (omega arith))

pub slice_at : (k a b : ℕ) (ws r : List ℕ) → Slice k ws a r → a ≡ b → Slice k ws b r
slice_at k a b ws r h e = rw e at h

pub slice_sum : (k a b : ℕ) (ws x y : List ℕ) → Slice k ws a x → Slice k ws b y → xsum (k * 64) (λ i. bit_at x 0 i && bit_at y 0 i) ≡ xsum (k * 64) (λ i. bit_at ws a i && bit_at ws b i)
slice_sum k a b ws x y f g = sum_cong (k * 64) _ _ (λ i l. ap₂ ◌&&◌ (slice_bit k a ws x f i l) (slice_bit k b ws y g i l))

pub chain_more : (Step : ℕ → List ℕ → List ℕ → Type 0) (r : ℕ) (ws v w : List ℕ) → length v ≡ length ws → Chain Step r ws v → Step r v w → Chain Step (r + 1) ws w
chain_more Step r ws v w e h s = rw (add-one r) (v, e, h, s)

pub chain_span : (Step : ℕ → List ℕ → List ℕ → Type 0) (a j : ℕ) (zs ws w : List ℕ) → length ws ≡ length zs → Chain Step a zs ws → Span Step a j ws w → Chain Step (a + j) zs w
chain_span Step a zero zs ws w e c s = let n : a + 0 ≡ a = omega arith in rw n (rw s c)
chain_span Step a (suc j) zs ws w e c (v, f, s, t) = let n : a + suc j ≡ suc (a + j) = omega arith in rw n (v, f ∙ e, chain_span Step a j zs ws v e c s, t)

pub span_two : (Step : ℕ → List ℕ → List ℕ → Type 0) (a : ℕ) (ws v w : List ℕ) → length v ≡ length ws → Step a ws v → Step (a + 1) v w → Span Step a 2 ws w
span_two Step a ws v w e s t = let n : a + 0 ≡ a = omega arith in (v, e, (ws, refl, refl, rw n s), t)

pub chain_idle : (Step : ℕ → List ℕ → List ℕ → Type 0) (a n : ℕ) (ws w : List ℕ) → length w ≡ length ws → ((r : ℕ) → a ≤ r → r < a + n → Step r w w) → Chain Step a ws w → Chain Step (a + n) ws w
chain_idle Step a zero ws w e h c = let m : a + 0 ≡ a = omega arith in rw m c
chain_idle Step a (suc n) ws w e h c =
    let m : a + suc n ≡ suc (a + n) = omega arith in
    rw m (w, e, chain_idle Step a n ws w e (λ r f g. h r f (omega arith)) c, h (a + n) (omega arith) (omega arith))
