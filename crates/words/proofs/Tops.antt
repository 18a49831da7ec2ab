-- THE ONES OF A WORD OF 64 DIGITS, from the top one down, as a loop takes them away.
--   high_digit, low_digit             the digits of a word that has been shifted up
--   digit_below                       the digits below n of what a word is modulo 2 ^ n
--   zeros_lt, top_one, above_top      the top one of a word that is not 0, as the count of leading zeros finds it
--   rest_less, gone_after, left_after the word without its top one
--   Left x seen rest                  rest has the digits of x but the first `seen`, in place of which it has none
--   left_start, left_end              before the loop, and when nothing is left
--   left_seen, left_top, left_skip    the top one that is left: it is none of those seen, one of x, and x has none between
--   left_next                         it is taken away
-- Assumes nothing.
use mathlib.Core.Path.{◌≡◌, refl, sym, ap, ap₂, ◌∙◌}
use mathlib.Core.Bool.{true, false, true≢false}
use mathlib.Core.List.{[], ◌∷◌}
use Prim.Native.Nat.{ℕ, suc, ◌+◌, ◌*◌, ◌-◌, ◌/◌, ◌%◌, ◌^◌, ◌<◌, ◌≤◌}
use native.Mathlib.Nat.{not-suc-le-zero, one-mul, mod-eq_of_lt, mul_assoc, div-eq_of_lt, pow-suc, lt_of_lt_of_le}
use native.Mathlib.Decide.{dec_lt}
use native.Mathlib.Omega.{arith}
use lib.Bits.{bit_xor, xor_block, xor_self, xor_zero_r, shifted_even}
use lib.Count.{count_leading_zeros, leading_top}
use lib.Pow.{pow_pos, pow_mono, pow-lt, pow-add, shr-shr, shl-shr, low, field, mod-mod-pow}
use Rattle.words.specs.Ones.{Top}
use Rattle.words.specs.Words.{digit, bit_of, bit_at, IsLowest}
use Rattle.words.proofs.Bits.{zero_bits, bit_front, lowest_found}

-- ---- digits shifted up
pub high_digit : (q d e : ℕ) → bit_of (q * 2 ^ d) (d + e) ≡ bit_of q e
high_digit q d e = ap (λ (y : ℕ). digit (y % 2)) (sym (shr-shr (q * 2 ^ d) d e) ∙ ap (λ (y : ℕ). y / 2 ^ e) (shl-shr q d))

pub low_digit : (q e j : ℕ) → bit_of (q * 2 ^ (suc e + j)) j ≡ false
low_digit q e j =
    ap (λ (y : ℕ). bit_of y j) (ap (λ (y : ℕ). q * y) (pow-add 2 (suc e) j) ∙ sym (mul_assoc q (2 ^ suc e) (2 ^ j)))
    ∙ ap (λ (y : ℕ). digit (y % 2)) (shl-shr (q * 2 ^ suc e) j)
    ∙ ap digit (shifted_even q e)

pub digit_below : (x n j : ℕ) → j < n → bit_of (x % 2 ^ n) j ≡ bit_of x j
digit_below x n j l =
    let e : n ≡ n - suc j + 1 + j = omega arith in
    ap (λ (k : ℕ). bit_of (x % 2 ^ k) j) e
    ∙ ap (λ (y : ℕ). digit (y % 2)) (field x (n - suc j + 1) j)
    ∙ ap digit (mod-mod-pow (x / 2 ^ j) (n - suc j) 1)

one_digit : (k : ℕ) → k < 64 → 1 * 2 ^ k % 2 ^ 64 ≡ 2 ^ k
one_digit k l = ap (λ (y : ℕ). y % 2 ^ 64) (one-mul (2 ^ k)) ∙ mod-eq_of_lt (pow-lt l)

-- ---- the top one of a word that is not 0
module _ (rest : ℕ) (pos : 0 < rest) (fits : rest < 2 ^ 64) where
  abbrev zeros : ℕ
  zeros = count_leading_zeros 64 rest

  found : IsLowest 1 (rest ∷ []) (0 * 64 + zeros + 1)
  found = lowest_found (rest ∷ []) 0 pos fits 1 (omega arith) (λ j l. absurd (not-suc-le-zero l))

  zeros_lt : count_leading_zeros 64 rest < 64
  zeros_lt = omega (arith, found.last)

  in_list : (i : ℕ) → i < 64 → bit_of rest (63 - i) ≡ bit_at (rest ∷ []) 0 i
  in_list i l = let e : 0 * 64 + i ≡ i = omega arith in sym (bit_front (rest ∷ []) 0 i l) ∙ ap (bit_at (rest ∷ []) 0) e

  top_one : bit_of rest (63 - count_leading_zeros 64 rest) ≡ true
  top_one = in_list zeros zeros_lt ∙ ap (bit_at (rest ∷ []) 0) (let q : zeros ≡ 0 * 64 + zeros + 1 - 1 = omega arith in q) ∙ found.has

  above_top : (i : ℕ) → i < count_leading_zeros 64 rest → bit_of rest (63 - i) ≡ false
  above_top i l = in_list i (omega (arith, zeros_lt)) ∙ found.under i (omega arith)

  abbrev place : ℕ
  place = 63 - zeros

  abbrev after : ℕ
  after = bit_xor rest (1 * 2 ^ place % 2 ^ 64)

  span : (2 ^ place ≤ rest) × (rest < 2 ^ suc place)
  span =
      let w = leading_top 64 rest pos fits in
      let e = w.1 in
      let q : w.0 ≡ place = omega arith in
      (rw (← q) w.2, rw (← q) w.3)

  -- the digits below the top one are left
  abbrev lower : ℕ
  lower = rest - 2 ^ place

  lower_lt : lower < 2 ^ place
  lower_lt = omega (arith, span.0, span.1, pow-suc 2 place)

  parts : rest ≡ 1 * 2 ^ place + lower
  parts = omega (arith, span.0)

  after_lower : after ≡ lower
  after_lower =
      let l : place < 64 = omega arith in
      let e : 2 ^ place ≡ 1 * 2 ^ place + 0 = omega arith in
      ap₂ bit_xor parts (one_digit place l ∙ e)
      ∙ xor_block place 1 1 lower 0 lower_lt (pow_pos place)
      ∙ ap₂ (λ (a b : ℕ). a * 2 ^ place + b) (xor_self 1) (xor_zero_r lower) ∙ omega arith

  lower_mod : lower ≡ rest % 2 ^ place
  lower_mod = sym (ap (λ (y : ℕ). y % 2 ^ place) parts ∙ low 1 place lower_lt)

  rest_less : bit_xor rest (1 * 2 ^ (63 - count_leading_zeros 64 rest) % 2 ^ 64) < rest
  rest_less = let p = pow_pos place in omega (arith, after_lower, span.0)

  gone_after : (i : ℕ) → i < suc (count_leading_zeros 64 rest) → bit_of (bit_xor rest (1 * 2 ^ (63 - count_leading_zeros 64 rest) % 2 ^ 64)) (63 - i) ≡ false
  gone_after i l =
      let g : place ≤ 63 - i = omega arith in
      ap (λ (y : ℕ). bit_of y (63 - i)) after_lower
      ∙ ap (λ (y : ℕ). digit (y % 2)) (div-eq_of_lt (lt_of_lt_of_le lower_lt (pow_mono g)))

  left_after : (i : ℕ) → suc (count_leading_zeros 64 rest) ≤ i → i < 64 → bit_of (bit_xor rest (1 * 2 ^ (63 - count_leading_zeros 64 rest) % 2 ^ 64)) (63 - i) ≡ bit_of rest (63 - i)
  left_after i a b = ap (λ (y : ℕ). bit_of y (63 - i)) (after_lower ∙ lower_mod) ∙ digit_below rest place (63 - i) (omega arith)

-- the top one is taken away
pub top_taken : (rest : ℕ) → 0 < rest → rest < 2 ^ 64 → Top rest (count_leading_zeros 64 rest) (bit_xor rest (1 * 2 ^ (63 - count_leading_zeros 64 rest) % 2 ^ 64))
top_taken rest pos fits =
    record {
      place = zeros_lt rest pos fits;
      has = top_one rest pos fits;
      above = above_top rest pos fits;
      gone = λ j l. gone_after rest pos fits j (omega arith);
      rest = λ j a b. left_after rest pos fits j (omega arith) b;
      less = rest_less rest pos fits;
    }

-- ---- the ones taken away one after another
pub record Left (x seen rest : ℕ) : Type 0 where
  pub low : seen ≤ 64
  pub gone : (i : ℕ) → i < seen → bit_of rest (63 - i) ≡ false
  pub left : (i : ℕ) → seen ≤ i → i < 64 → bit_of rest (63 - i) ≡ bit_of x (63 - i)
  pub fits : rest < 2 ^ 64

pub left_start : (x : ℕ) → x < 2 ^ 64 → Left x 0 x
left_start x f = record { low = omega arith; gone = λ i h. absurd (not-suc-le-zero h); left = λ i a b. refl; fits = f }

pub left_end : (x seen rest : ℕ) → Left x seen rest → rest ≡ 0 → (i : ℕ) → seen ≤ i → i < 64 → bit_of x (63 - i) ≡ false
left_end x seen rest h z i a b = sym (h.left i a b) ∙ ap (λ (y : ℕ). bit_of y (63 - i)) z ∙ zero_bits (63 - i)

module _ (x seen rest i after : ℕ) (h : Left x seen rest) (t : Top rest i after) where
  pub left_seen : seen ≤ i
  left_seen = go (dec_lt i seen)
    where
      go : Dec (i < seen) → seen ≤ i
      go (yes l) = absurd (true≢false (sym t.has ∙ h.gone i l))
      go (no l) = omega arith

  pub left_top : bit_of x (63 - i) ≡ true
  left_top = sym (h.left i left_seen t.place) ∙ t.has

  pub left_skip : (j : ℕ) → seen ≤ j → j < i → bit_of x (63 - j) ≡ false
  left_skip j a b = let p = t.place in sym (h.left j a (omega arith)) ∙ t.above j b

  pub left_next : Left x (suc i) after
  left_next =
      record {
        low = t.place;
        gone = λ j l. t.gone j (omega arith);
        left = λ j a b. t.rest j (omega arith) b ∙ h.left j (omega (arith, left_seen)) b;
        fits = let l = h.fits in omega (arith, t.less);
      }
