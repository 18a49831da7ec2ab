-- THE BITS OF WORDS, over any number of words.
--   bit-xor, bit-and, bit-or        a bit of a word made by an operator
--   bit_without, bit_without_or     a bit of the ones of a that b has not, and that neither b nor c has
--   zero_bits, bits_zero            a word is 0 when its bits are, and only then
--   own_bit, own_lt                 the words that have one bit alone
--   word_xor, length_xor            the sum of words, word by word
--   bit_in, bit_same, bit_added     a bit by its word and its place there; words read elsewhere
--   bit_read, own_here, own_away    one bit as the code reads it, and as it makes it; either_read: one of two
--   bit_front                       a bit of the words at the front of a list
--   lowest_none, lowest_found       the lowest variable, as the count of leading zeros finds it
-- Assumes nothing.
use mathlib.Core.Path.{◌≡◌, refl, sym, ap, ap₂, ◌∙◌}
use mathlib.Core.Bool.{Bool, true, false, not, ◌&&◌, ◌||◌, cond, true≢false}
use mathlib.Core.Logic.{◌⊎◌, inl, inr, ◌≢◌}
use mathlib.Core.List.{List, [], ◌∷◌}
use Prim.Native.Nat.{ℕ, zero, suc, ◌+◌, ◌*◌, ◌-◌, ◌/◌, ◌%◌, ◌^◌, ◌<◌, ◌≤◌, suc-le-suc, max}
use native.Mathlib.Nat.{zero-lt-suc, mod-lt, div-one, zero-div, div-eq_of_lt, div-eq_of_lt-le, le_refl, lt_of_lt_of_le, le_of_eq, le-div_iff_mul-le, div-lt_iff_lt-mul, mul-div_cancel, mul-mod_left, mul_comm, one-mul, pow-suc, mod-eq_of_lt, suc_inj, zero-add}
use native.Mathlib.Numerals.{one-add}
use native.Mathlib.Decide.{dec_lt}
use native.Mathlib.Omega.{arith}
use Rattle.std.specs.Prelude.{None}
use lib.Arith.{lt-one}
use lib.Dec.{eqb}
use lib.Bits.{bit_and, bit_or, bit_xor, xor_shr, xor_mod, xor_zero_r, and_shr, and_mod, or_shr, or_step}
use lib.Count.{count_leading_zeros, leading_top}
use lib.ListN.{length, get_or}
use lib.Pow.{pow_pos, pow_mono, pow-lt, pow-add, shr-shr}
use borrow.Author.Tests.{eq-eqb, ne_eqb}
use Rattle.gf2.specs.Field.{◌⊕◌, same}
use Rattle.gf2.proofs.Sums.{same_dec, same_refl, same_ne}
use Rattle.words.specs.Words.{digit, bit_of, bit_at, xor_words, own_word, IsLowest, Lowest}

-- ---- a bit of a word made by an operator
digit_xor : (p q : ℕ) → p < 2 → q < 2 → digit (bit_xor p q) ≡ digit p ⊕ digit q
digit_xor zero zero h k = refl
digit_xor zero (suc zero) h k = refl
digit_xor (suc zero) zero h k = refl
digit_xor (suc zero) (suc zero) h k = refl
digit_xor zero (suc (suc q)) h k = absurd (omega arith)
digit_xor (suc zero) (suc (suc q)) h k = absurd (omega arith)
digit_xor (suc (suc p)) q h k = absurd (omega arith)

pub bit-xor : (a b j : ℕ) → bit_of (bit_xor a b) j ≡ bit_of a j ⊕ bit_of b j
bit-xor a b j = rw (xor_shr a b j, xor_mod (a / 2 ^ j) (b / 2 ^ j) 1) (digit_xor _ _ (mod-lt (a / 2 ^ j) (zero-lt-suc 1)) (mod-lt (b / 2 ^ j) (zero-lt-suc 1)))

digit_and : (p q : ℕ) → p < 2 → q < 2 → digit (bit_and p q) ≡ digit p && digit q
digit_and zero zero h k = refl
digit_and zero (suc zero) h k = refl
digit_and (suc zero) zero h k = refl
digit_and (suc zero) (suc zero) h k = refl
digit_and zero (suc (suc q)) h k = absurd (omega arith)
digit_and (suc zero) (suc (suc q)) h k = absurd (omega arith)
digit_and (suc (suc p)) q h k = absurd (omega arith)

pub bit-and : (a b j : ℕ) → bit_of (bit_and a b) j ≡ bit_of a j && bit_of b j
bit-and a b j = rw (and_shr a b j, and_mod (a / 2 ^ j) (b / 2 ^ j) 1) (digit_and _ _ (mod-lt (a / 2 ^ j) (zero-lt-suc 1)) (mod-lt (b / 2 ^ j) (zero-lt-suc 1)))

digit_or : (p q : ℕ) → p < 2 → q < 2 → digit (max p q) ≡ (digit p || digit q)
digit_or zero zero h k = refl
digit_or zero (suc zero) h k = refl
digit_or (suc zero) zero h k = refl
digit_or (suc zero) (suc zero) h k = refl
digit_or zero (suc (suc q)) h k = absurd (omega arith)
digit_or (suc zero) (suc (suc q)) h k = absurd (omega arith)
digit_or (suc (suc p)) q h k = absurd (omega arith)

or_low : (a b : ℕ) → bit_or a b % 2 ≡ max (a % 2) (b % 2)
or_low a b = omega (arith, or_step a b)

pub bit-or : (a b j : ℕ) → bit_of (bit_or a b) j ≡ (bit_of a j || bit_of b j)
bit-or a b j = rw (or_shr a b j, or_low (a / 2 ^ j) (b / 2 ^ j)) (digit_or _ _ (mod-lt (a / 2 ^ j) (zero-lt-suc 1)) (mod-lt (b / 2 ^ j) (zero-lt-suc 1)))

pub bit_without : (a b j : ℕ) → bit_of (bit_xor a (bit_and a b)) j ≡ bit_of a j && not (bit_of b j)
bit_without a b j = bit-xor a (bit_and a b) j ∙ ap (λ (x : Bool). bit_of a j ⊕ x) (bit-and a b j) ∙ go (bit_of a j) (bit_of b j)
  where
    go : (x y : Bool) → x ⊕ (x && y) ≡ x && not y
    go true true = refl
    go true false = refl
    go false y = refl

pub bit_without_or : (a b c j : ℕ) → bit_of (bit_xor a (bit_and a (bit_or b c))) j ≡ (bit_of a j && not (bit_of b j)) && not (bit_of c j)
bit_without_or a b c j = bit_without a (bit_or b c) j ∙ ap (λ (x : Bool). bit_of a j && not x) (bit-or b c j) ∙ go (bit_of a j) (bit_of b j) (bit_of c j)
  where
    go : (x y z : Bool) → x && not (y || z) ≡ (x && not y) && not z
    go true true z = refl
    go true false z = refl
    go false y z = refl

-- the bits above the lowest are those of the half
pub bit_half : (w i : ℕ) → bit_of w (suc i) ≡ bit_of (w / 2) i
bit_half w i = ap (λ (x : ℕ). digit (x % 2)) (ap (λ (m : ℕ). w / 2 ^ m) (sym (one-add i)) ∙ sym (shr-shr w 1 i))

digit_zero : (m : ℕ) → digit m ≡ false → m ≡ 0
digit_zero zero h = refl
digit_zero (suc m) h = absurd (true≢false h)

pub bits_zero : (k w : ℕ) → w < 2 ^ k → ((j : ℕ) → j < k → bit_of w j ≡ false) → w ≡ 0
bits_zero zero w l h = lt-one l
bits_zero (suc k) w l h =
    let r : w / 2 ≡ 0 = bits_zero k (w / 2) (omega arith) (λ j m. sym (bit_half w j) ∙ h (suc j) (suc-le-suc m)) in
    let b : w % 2 ≡ 0 = digit_zero (w % 2) (sym (ap (λ (x : ℕ). digit (x % 2)) (div-one w)) ∙ h 0 (zero-lt-suc k)) in
    omega arith

pub zero_bits : (j : ℕ) → bit_of 0 j ≡ false
zero_bits j = rw zero-div

-- ---- a power of two has one bit
pow_here : (k : ℕ) → 2 ^ k / 2 ^ k % 2 ≡ 1
pow_here k =
    let lo : 1 ≤ 2 ^ k / 2 ^ k = (le-div_iff_mul-le (pow_pos k)).1 (le_of_eq (one-mul (2 ^ k))) in
    let hi : 2 ^ k / 2 ^ k < 2 = (div-lt_iff_lt-mul (pow_pos k)).1 (lt_of_lt_of_le (pow-lt (le_refl (suc k))) (le_of_eq (pow-suc 2 k ∙ mul_comm (2 ^ k) 2))) in
    omega arith

pow_even : (j d : ℕ) → 2 ^ (suc d + j) / 2 ^ j % 2 ≡ 0
pow_even j d =
    ap (λ (x : ℕ). x / 2 ^ j % 2) (pow-add 2 (suc d) j)
    ∙ ap (λ (x : ℕ). x % 2) (mul-div_cancel (2 ^ suc d) (pow_pos j) ∙ pow-suc 2 d)
    ∙ mul-mod_left (2 ^ d) 2

pow_other : (k j : ℕ) → j ≢ k → 2 ^ k / 2 ^ j % 2 ≡ 0
pow_other k j n = go (dec_lt j k)
  where
    go : Dec (j < k) → 2 ^ k / 2 ^ j % 2 ≡ 0
    go (yes h) = let e : suc (k - suc j) + j ≡ k = omega arith in ap (λ (x : ℕ). 2 ^ x / 2 ^ j % 2) (sym e) ∙ pow_even j (k - suc j)
    go (no h) = let g : suc k ≤ j = omega arith in ap (λ (x : ℕ). x % 2) (div-eq_of_lt (lt_of_lt_of_le (pow-lt (le_refl (suc k))) (pow_mono g)))

pow_bit : (k j : ℕ) → bit_of (2 ^ k) j ≡ same k j
pow_bit k j = go (same_dec k j)
  where
    go : (k ≡ j) ⊎ (k ≢ j) → bit_of (2 ^ k) j ≡ same k j
    go (inl e) = rw e (ap digit (pow_here j) ∙ sym (same_refl j))
    go (inr d) = ap digit (pow_other k j (λ e. d (sym e))) ∙ sym (same_ne k j d)

pub own_bit : (p i : ℕ) → bit_of (own_word p (i / 64)) (63 - i % 64) ≡ same p i
unfolding own_word
own_bit p i = go (same_dec (p / 64) (i / 64))
  where
    in_word : p / 64 ≡ i / 64 → (63 - p % 64 ≡ 63 - i % 64) ⊎ (63 - p % 64 ≢ 63 - i % 64) → same (63 - p % 64) (63 - i % 64) ≡ same p i
    in_word e (inl h) = let z : p ≡ i = omega arith in rw z (same_refl (63 - i % 64) ∙ sym (same_refl i))
    in_word e (inr h) = same_ne (63 - p % 64) (63 - i % 64) h ∙ sym (same_ne p i (λ z. h (ap (λ (x : ℕ). 63 - x % 64) z)))

    go : (p / 64 ≡ i / 64) ⊎ (p / 64 ≢ i / 64) → bit_of (cond (eqb (p / 64) (i / 64)) (2 ^ (63 - p % 64)) 0) (63 - i % 64) ≡ same p i
    go (inl e) = rw (eq-eqb (p / 64) (i / 64) e) (pow_bit (63 - p % 64) (63 - i % 64) ∙ in_word e (same_dec (63 - p % 64) (63 - i % 64)))
    go (inr d) = rw (ne_eqb (p / 64) (i / 64) d) (zero_bits (63 - i % 64) ∙ sym (same_ne p i (λ z. d (ap (λ (x : ℕ). x / 64) z))))

pub own_lt : (p j : ℕ) → own_word p j < 2 ^ 64
unfolding own_word
own_lt p j = go (eqb (p / 64) j)
  where
    go : (b : Bool) → cond b (2 ^ (63 - p % 64)) 0 < 2 ^ 64
    go true = let h : 63 - p % 64 < 64 = omega arith in pow-lt h
    go false = pow_pos 64

-- ---- the sum of words
pub word_xor : (a b : List ℕ) (i : ℕ) → get_or (xor_words a b) i 0 ≡ bit_xor (get_or a i 0) (get_or b i 0)
word_xor [] b i = refl
word_xor (x ∷ a) [] i = sym (xor_zero_r (get_or (x ∷ a) i 0))
word_xor (x ∷ a) (y ∷ b) zero = refl
word_xor (x ∷ a) (y ∷ b) (suc i) = word_xor a b i

pub length_xor : (a b : List ℕ) → length a ≡ length b → length (xor_words a b) ≡ length a
length_xor [] b e = sym e
length_xor (x ∷ a) [] e = refl
length_xor (x ∷ a) (y ∷ b) e = ap suc (length_xor a b (suc_inj e))

-- ---- bits of lists of words
pub bit_in : (ws : List ℕ) (off w j : ℕ) → j < 64 → bit_at ws off (w * 64 + j) ≡ bit_of (get_or ws (off + w) 0) (63 - j)
unfolding bit_at
bit_in ws off w j l =
    let q : (w * 64 + j) / 64 ≡ w = omega arith in
    let r : (w * 64 + j) % 64 ≡ j = omega arith in
    ap₂ (λ (x y : ℕ). bit_of (get_or ws (off + x) 0) (63 - y)) q r

-- the same word, in another list or at another place
pub bit_same : (ws w : List ℕ) (off o i : ℕ) → get_or w (o + i / 64) 0 ≡ get_or ws (off + i / 64) 0 → bit_at w o i ≡ bit_at ws off i
unfolding bit_at
bit_same ws w off o i e = ap (λ (x : ℕ). bit_of x (63 - i % 64)) e

pub bit_added : (ws w : List ℕ) (off a b i : ℕ) → get_or w (off + i / 64) 0 ≡ bit_xor (get_or ws (a + i / 64) 0) (get_or ws (b + i / 64) 0) → bit_at w off i ≡ bit_at ws a i ⊕ bit_at ws b i
unfolding bit_at
bit_added ws w off a b i e = ap (λ (x : ℕ). bit_of x (63 - i % 64)) e ∙ bit-xor (get_or ws (a + i / 64) 0) (get_or ws (b + i / 64) 0) (63 - i % 64)

pub own_at : (w : List ℕ) (a q j : ℕ) → get_or w (a + j / 64) 0 ≡ own_word q (j / 64) → bit_at w a j ≡ same q j
unfolding bit_at
own_at w a q j e = ap (λ (x : ℕ). bit_of x (63 - j % 64)) e ∙ own_bit q j

-- ---- one bit, as the code reads it and makes it
eqb_digit : (x : ℕ) → x < 2 → eqb x 1 ≡ digit x
eqb_digit zero h = refl
eqb_digit (suc zero) h = refl
eqb_digit (suc (suc x)) h = absurd (omega arith)

pub bit_read : (ws : List ℕ) (a p : ℕ) → eqb (get_or ws (a + p / 64) 0 / 2 ^ (63 - p % 64) % 2) 1 ≡ bit_at ws a p
unfolding bit_at
bit_read ws a p = eqb_digit _ (mod-lt (get_or ws (a + p / 64) 0 / 2 ^ (63 - p % 64)) (zero-lt-suc 1))

pub either_read : (ws : List ℕ) (a b p : ℕ) → eqb (bit_or (get_or ws (a + p / 64) 0) (get_or ws (b + p / 64) 0) / 2 ^ (63 - p % 64) % 2) 1 ≡ (bit_at ws a p || bit_at ws b p)
unfolding bit_at
either_read ws a b p =
    let x = get_or ws (a + p / 64) 0 in
    let y = get_or ws (b + p / 64) 0 in
    eqb_digit _ (mod-lt (bit_or x y / 2 ^ (63 - p % 64)) (zero-lt-suc 1)) ∙ bit-or x y (63 - p % 64)

pub own_here : (v j : ℕ) → (v - 1) / 64 ≡ j → 1 * 2 ^ (63 - (v - 1) % 64) % 2 ^ 64 ≡ own_word (v - 1) j
unfolding own_word
own_here v j e =
    let l : 63 - (v - 1) % 64 < 64 = omega arith in
    rw (eq-eqb ((v - 1) / 64) j e) (ap (λ (x : ℕ). x % 2 ^ 64) (one-mul (2 ^ (63 - (v - 1) % 64))) ∙ mod-eq_of_lt (pow-lt l))

pub own_away : (v j : ℕ) → ((v - 1) / 64 ≡ j → ⊥) → 0 ≡ own_word (v - 1) j
unfolding own_word
own_away v j e = rw (ne_eqb ((v - 1) / 64) j e)

-- ---- the lowest variable
-- the words at the front of a list
pub bit_front : (ws : List ℕ) (w j : ℕ) → j < 64 → bit_at ws 0 (w * 64 + j) ≡ bit_of (get_or ws w 0) (63 - j)
bit_front ws w j l = bit_in ws 0 w j l ∙ ap (λ (x : ℕ). bit_of (get_or ws x 0) (63 - j)) (zero-add w)

none_before : (ws : List ℕ) (w : ℕ) → ((j : ℕ) → j < w → get_or ws j 0 ≡ 0) → (i : ℕ) → i < w * 64 → bit_at ws 0 i ≡ false
unfolding bit_at
none_before ws w h i l = ap (λ (x : ℕ). bit_of x (63 - i % 64)) (ap (λ (x : ℕ). get_or ws x 0) (zero-add (i / 64)) ∙ h (i / 64) (omega arith)) ∙ zero_bits (63 - i % 64)

pub lowest_none : (k : ℕ) (ws : List ℕ) → ((j : ℕ) → j < k → get_or ws j 0 ≡ 0) → Lowest k ws None
lowest_none k ws h = none_before ws k h

-- a word that is not 0 has its top bit, and none above it
module _ (ws : List ℕ) (w : ℕ) (pos : 0 < get_or ws w 0) (fits : get_or ws w 0 < 2 ^ 64) where
  abbrev word : ℕ
  word = get_or ws w 0

  abbrev zeros : ℕ
  zeros = count_leading_zeros 64 (get_or ws w 0)

  top : (j : ℕ) × (zeros + suc j ≡ 64) × (2 ^ j ≤ word) × (word < 2 ^ suc j)
  top = leading_top 64 word pos fits

  bit_top : bit_at ws 0 (w * 64 + zeros) ≡ true
  bit_top =
      let e = top.1 in
      let lo = top.2 in
      let hi = top.3 in
      let q : 63 - zeros ≡ top.0 = omega arith in
      let one : word / 2 ^ top.0 ≡ 1 = div-eq_of_lt-le (2 ^ top.0) (omega arith) (omega arith) in
      bit_front ws w zeros (omega arith) ∙ ap (bit_of word) q ∙ ap (λ (x : ℕ). digit (x % 2)) one

  bit_under : (j : ℕ) → j < zeros → bit_at ws 0 (w * 64 + j) ≡ false
  bit_under j l =
      let e = top.1 in
      let g : suc top.0 ≤ 63 - j = omega arith in
      let h : j < 64 = omega arith in
      bit_front ws w j h ∙ ap (λ (x : ℕ). digit (x % 2)) (div-eq_of_lt (lt_of_lt_of_le top.3 (pow_mono g)))

  pub lowest_found : (k : ℕ) → w < k → ((j : ℕ) → j < w → get_or ws j 0 ≡ 0) → IsLowest k ws (w * 64 + count_leading_zeros 64 (get_or ws w 0) + 1)
  lowest_found k l before =
      let e = top.1 in
      record {
        first = omega arith;
        last = omega arith;
        has = ap (bit_at ws 0) (let q : w * 64 + zeros + 1 - 1 ≡ w * 64 + zeros = omega arith in q) ∙ bit_top;
        under = λ i h. under i h (dec_lt i (w * 64));
      }
    where
      under : (i : ℕ) → suc i < w * 64 + zeros + 1 → Dec (i < w * 64) → bit_at ws 0 i ≡ false
      under i h (yes z) = none_before ws w before i z
      under i h (no z) =
          let q : w * 64 + (i - w * 64) ≡ i = omega arith in
          let r : i - w * 64 < zeros = omega arith in
          sym (ap (bit_at ws 0) q) ∙ bit_under (i - w * 64) r
