-- THE SUM OF A ROW IS THE PARITY OF A COUNT OF ONES (document 01, "The row sheet"), over any number of words.
--   sum_append, sum_blocks, sum_back   sums cut in two, cut in blocks, from the other end, and turned round
--   par                                          whether a number is odd
--   meet a b w                                   how many ones word w of a and word w of b share
--   words_sum                                    the sum of the bits that two lists of words share, by these counts
--   Counted, count_none, count_more              what a loop over the words has counted
--   rows_sum                                     the sum of a row that one list of words reads as, under the assignment that another reads as
-- Assumes nothing.
use mathlib.Core.Path.{◌≡◌, refl, sym, ap, ap₂, ◌∙◌}
use mathlib.Core.Bool.{Bool, true, false, not, ◌&&◌}
use mathlib.Core.List.{List}
use Prim.Native.Nat.{ℕ, zero, suc, ◌+◌, ◌*◌, ◌-◌, ◌/◌, ◌%◌, ◌^◌, ◌<◌, ◌≤◌}
use native.Mathlib.Nat.{not-suc-le-zero, zero-lt-suc, mod-lt, suc-add, zero-add, add_comm, suc-mul, zero-mul, lt_of_le_of_lt, sub-zero, suc-sub-suc, div-one}
use native.Mathlib.Numerals.{add-one}
use native.Mathlib.Decide.{dec_lt}
use native.Mathlib.Omega.{arith}
use lib.Arith.{lt-one}
use lib.Dec.{eqb}
use lib.Bits.{bit_and, and_le_l}
use lib.Count.{ones, ones_in, ones_step, ones-le}
use lib.ListN.{get_or}
use Rattle.gf2.specs.Field.{◌⊕◌, xsum}
use Rattle.gf2.specs.Rows.{Row, Assignment, row_sum}
use Rattle.gf2.proofs.Field.{xor_false, xor_comm, xor_assoc}
use Rattle.gf2.proofs.Sums.{sum_last, sum_cong, sum_false}
use Rattle.words.specs.Words.{digit, bit_of, bit_at}
use Rattle.words.proofs.Bits.{bit-and, bit_half, bit_front}

pub sum_append : (m n : ℕ) (f : ℕ → Bool) → xsum (m + n) f ≡ xsum m f ⊕ xsum n (λ i. f (m + i))
unfolding xsum
sum_append zero n f = simp zero-add
sum_append (suc m) n f =
    simp suc-add
    (ap (λ (x : Bool). f 0 ⊕ x) (sum_append m n (λ i. f (suc i)))
    ∙ sym (xor_assoc (f 0) (xsum m (λ i. f (suc i))) (xsum n (λ i. f (suc (m + i))))))

pub sum_blocks : (k b : ℕ) (f : ℕ → Bool) → xsum (k * b) f ≡ xsum k (λ w. xsum b (λ j. f (w * b + j)))
unfolding xsum
sum_blocks zero b f = rw zero-mul
sum_blocks (suc k) b f =
    rw (suc-mul k b, add_comm (k * b) b)
    (sum_append b (k * b) f
    ∙ ap₂ ◌⊕◌ (sum_cong b f (λ j. f (0 * b + j)) (λ j l. ap f (omega arith)))
    (sum_blocks k b (λ i. f (b + i)) ∙ sum_cong k (λ w. xsum b (λ j. f (b + (w * b + j)))) (λ w. xsum b (λ j. f (suc w * b + j))) (λ w l. sum_cong b (λ j. f (b + (w * b + j))) (λ j. f (suc w * b + j)) (λ j h. ap f (omega arith)))))

pub sum_back : (n : ℕ) (f : ℕ → Bool) → xsum (suc n) f ≡ xsum (suc n) (λ i. f (n - i))
unfolding xsum
sum_back zero f = refl
sum_back (suc n) f =
    sum_last (suc n) f ∙ xor_comm (xsum (suc n) f) (f (suc n))
    ∙ ap₂ ◌⊕◌ (ap f (sym (sub-zero (suc n)))) (sum_back n f ∙ sum_cong (suc n) (λ i. f (n - i)) (λ i. f (suc n - suc i)) (λ i l. ap f (sym (suc-sub-suc n i))))

-- ---- parity
unfoldable pub par : ℕ → Bool
par zero = false
par (suc n) = not (par n)

not_xor : (a b : Bool) → not a ⊕ b ≡ not (a ⊕ b)
not_xor true true = refl
not_xor true false = refl
not_xor false b = refl

par_add : (a b : ℕ) → par (a + b) ≡ par a ⊕ par b
unfolding par
par_add zero b = rw zero-add
par_add (suc a) b = rw suc-add (ap not (par_add a b) ∙ sym (not_xor (par a) (par b)))

par_digit : (m : ℕ) → m < 2 → par m ≡ digit m
unfolding par
par_digit zero h = refl
par_digit (suc zero) h = refl
par_digit (suc (suc m)) h = absurd (omega arith)

-- as the code tests it
pub eqb_par : (n : ℕ) → eqb (n % 2) 1 ≡ par n
unfolding par
eqb_par zero = refl
eqb_par (suc zero) = refl
eqb_par (suc (suc n)) =
    let e : suc (suc n) % 2 ≡ n % 2 = omega arith in
    rw e (eqb_par n ∙ sym (not_not (par n)))
  where
    not_not : (b : Bool) → not (not b) ≡ b
    not_not true = refl
    not_not false = refl

-- the sum of the bits of a word is the parity of its ones
bits_par : (k w : ℕ) → w < 2 ^ k → xsum k (bit_of w) ≡ par (ones w)
unfolding par ones ones_in xsum
bits_par zero w h = rw (lt-one h)
bits_par (suc k) w h =
    ap₂ ◌⊕◌ (ap (λ (x : ℕ). digit (x % 2)) (div-one w) ∙ sym (par_digit (w % 2) (mod-lt w (zero-lt-suc 1))))
    (sum_cong k _ _ (λ i l. bit_half w i) ∙ bits_par k (w / 2) (omega arith))
    ∙ sym (ap par (ones_step w) ∙ par_add (w % 2) (ones (w / 2)))

-- ---- the ones that two lists of words share
unfoldable pub meet : List ℕ → List ℕ → ℕ → ℕ
meet a b w = ones (bit_and (get_or a w 0) (get_or b w 0))

pub words_sum : (k : ℕ) (a b : List ℕ) → ((w : ℕ) → w < k → get_or a w 0 < 2 ^ 64) → xsum (k * 64) (λ i. bit_at a 0 i && bit_at b 0 i) ≡ xsum k (λ w. par (meet a b w))
unfolding meet
words_sum k a b h =
    sum_blocks k 64 (λ i. bit_at a 0 i && bit_at b 0 i)
    ∙ sum_cong k _ _ (λ w l.
    let x = bit_and (get_or a w 0) (get_or b w 0) in
    sum_cong 64 _ (λ j. bit_of x (63 - j)) (λ j m. ap₂ ◌&&◌ (bit_front a w j m) (bit_front b w j m) ∙ sym (bit-and (get_or a w 0) (get_or b w 0) (63 - j)))
    ∙ sym (sum_back 63 (bit_of x)) ∙ bits_par 64 x (lt_of_le_of_lt (and_le_l (get_or a w 0) (get_or b w 0)) (h w l)))

pub record Counted (k : ℕ) (a b : List ℕ) (n i : ℕ) : Type 0 where
  pub low : i ≤ k
  pub small : n ≤ 64 * i
  pub fits : (w : ℕ) → w < i → get_or a w 0 < 2 ^ 64
  pub sum : par n ≡ xsum i (λ w. par (meet a b w))

pub meet_le : (a b : List ℕ) (i : ℕ) → get_or a i 0 < 2 ^ 64 → meet a b i ≤ 64
unfolding meet
meet_le a b i h = ones-le 64 _ (lt_of_le_of_lt (and_le_l (get_or a i 0) (get_or b i 0)) h)

pub count_none : (k : ℕ) (a b : List ℕ) → Counted k a b 0 0
unfolding par xsum
count_none k a b = record { low = omega arith; small = omega arith; fits = λ w l. absurd (not-suc-le-zero l); sum = refl }

pub count_more : (k : ℕ) (a b : List ℕ) (n i : ℕ) → Counted k a b n i → i < k → get_or a i 0 < 2 ^ 64 → Counted k a b (n + meet a b i) (i + 1)
count_more k a b n i h l e =
    record {
      low = omega arith;
      small = omega (arith, meet_le a b i e);
      fits = λ w x. fits w x (dec_lt w i);
      sum = par_add n (meet a b i) ∙ rw (h.sum, add-one i) (sym (sum_last i (λ w. par (meet a b w))));
    }
  where
    fits : (w : ℕ) → w < i + 1 → Dec (w < i) → get_or a w 0 < 2 ^ 64
    fits w x (yes z) = h.fits w z
    fits w x (no z) = let q : w ≡ i = omega arith in rw q e

-- ---- words that read as a row, and as an assignment
-- columns past the last variable, all 0, add nothing
pub row_longer : (n d : ℕ) (c : Row) (a : Assignment) → ((v : ℕ) → n < v → c v ≡ false) → row_sum (n + d) c a ≡ row_sum n c a
unfolding row_sum
row_longer n d c a h =
    sum_append n d (λ i. c (suc i) && a (suc i))
    ∙ ap (λ (x : Bool). xsum n (λ i. c (suc i) && a (suc i)) ⊕ x)
    (sum_cong d _ (λ i. false) (λ i l. ap (λ (x : Bool). x && a (suc (n + i))) (h (suc (n + i)) (omega arith))) ∙ sum_false d)
    ∙ xor_false _

pub rows_sum : (n k : ℕ) (ws vs : List ℕ) (a b : ℕ) (c : Row) (t : Assignment) → n ≤ k → ((v : ℕ) → n < v → c v ≡ false)
    → ((i : ℕ) → i < k → bit_at ws a i ≡ c (suc i)) → ((i : ℕ) → i < k → bit_at vs b i ≡ t (suc i))
    → row_sum n c t ≡ xsum k (λ i. bit_at ws a i && bit_at vs b i)
unfolding row_sum
rows_sum n k ws vs a b c t l clean f g =
    let e : n + (k - n) ≡ k = omega arith in
    sym (row_longer n (k - n) c t clean)
    ∙ ap (λ (x : ℕ). row_sum x c t) e
    ∙ sum_cong k _ _ (λ i h. ap₂ ◌&&◌ (sym (f i h)) (sym (g i h)))
