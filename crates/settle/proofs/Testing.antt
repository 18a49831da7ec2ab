-- THE TEST FOR THE ONE VARIABLE OF A ROW WITHOUT A VALUE, word by word.
--   open_word ws r j      word j of the variables of row r that have no value, as the code makes it
--   rest_word ws r p j    the same without variable p + 1: 0 in each word where p + 1 is the only one
--   sole_more, word_bad   a word that passes the test, and that each would
--   overlay_more          one word more laid over the others; overlay_bad: they pass the first test
-- Assumes nothing.
use mathlib.Core.Path.{◌≡◌, sym, ap, ap₂, ◌∙◌}
use mathlib.Core.List.{List}
use mathlib.Core.Bool.{Bool, true, false, not, ◌&&◌, ◌||◌}
use mathlib.Core.Logic.{◌⊎◌, inl, inr, ◌≢◌}
use Prim.Native.Nat.{ℕ, ◌+◌, ◌*◌, ◌-◌, ◌/◌, ◌%◌, ◌^◌, ◌<◌}
use native.Mathlib.Nat.{lt_of_le_of_lt}
use native.Mathlib.Decide.{dec_lt}
use native.Mathlib.Omega.{arith}
use lib.ListN.{get_or}
use lib.Bits.{bit_and, bit_or, bit_xor, xor_lt, and_le_l}
use Rattle.gf2.specs.Field.{◌⊕◌, same}
use Rattle.gf2.proofs.Field.{xor_eq, eq_xor}
use Rattle.gf2.proofs.Sums.{same_dec, same_refl, same_ne, bool_dec}
use Rattle.linear.proofs.Assume.{clash}
use Rattle.words.specs.Words.{bit_of, bit_at, own_word}
use Rattle.words.proofs.Bits.{bit-xor, bit-or, bit_without, bits_zero, zero_bits, own_bit, own_lt}
use Rattle.tableau.specs.Layout.{max_vars, coef_words, row_at, known_at}
use Rattle.settle.specs.Values.{lacks, Overlay}

module _ (ws : List ℕ) (r : ℕ) where
  abbrev pub open_word : ℕ → ℕ
  open_word j = bit_xor (get_or ws (row_at r + j) 0) (bit_and (get_or ws (row_at r + j) 0) (get_or ws (known_at + j) 0))

  open_bit : (i : ℕ) → bit_of (open_word (i / 64)) (63 - i % 64) ≡ lacks ws r i
  unfolding lacks bit_at
  open_bit i = bit_without (get_or ws (row_at r + i / 64) 0) (get_or ws (known_at + i / 64) 0) (63 - i % 64)

  pub overlay_more : (k x : ℕ) → Overlay k ws r x → Overlay (k + 1) ws r (bit_or x (open_word k))
  overlay_more k x h t l e = go (bool_dec (bit_of x (63 - t)))
    where
      here : bit_of (open_word k) (63 - t) ≡ lacks ws r (k * 64 + t)
      here =
          let q : (k * 64 + t) / 64 ≡ k = omega arith in
          let s : (k * 64 + t) % 64 ≡ t = omega arith in
          sym (ap₂ (λ (a b : ℕ). bit_of (open_word a) (63 - b)) q s) ∙ open_bit (k * 64 + t)

      go : (bit_of x (63 - t) ≡ true) ⊎ (bit_of x (63 - t) ≡ false) → (j : ℕ) × (j < k + 1) × (lacks ws r (j * 64 + t) ≡ true)
      go (inl z) = let f = h t l z in (f.0, let g = f.1 in omega arith, f.2)
      go (inr z) = (k, omega arith, sym here ∙ sym (ap (λ (a : Bool). a || bit_of (open_word k) (63 - t)) z) ∙ sym (bit-or x (open_word k) (63 - t)) ∙ e)

  module _ (p : ℕ) where
    -- a row whose one variable without a value is p + 1 has a one at that place alone
    pub overlay_bad : (x : ℕ) → x < 2 ^ 64 → Overlay coef_words ws r x → ((i : ℕ) → i < max_vars → lacks ws r i ≡ same p i) → bit_xor x (bit_and x (own_word p (p / 64))) ≡ 0
    overlay_bad x f o h =
        bits_zero 64 _ (xor_lt 64 _ _ f (lt_of_le_of_lt (and_le_l x (own_word p (p / 64))) f))
        (λ t l. bit_without x (own_word p (p / 64)) t ∙ go t l (bool_dec (bit_of x t)))
      where
        own_digit : (t : ℕ) → 63 - p % 64 ≡ t → bit_of (own_word p (p / 64)) t ≡ true
        own_digit t e = ap (bit_of (own_word p (p / 64))) (sym e) ∙ own_bit p p ∙ same_refl p

        place : (t j : ℕ) → t < 64 → j < coef_words → lacks ws r (j * 64 + (63 - t)) ≡ true → (p ≡ j * 64 + (63 - t)) ⊎ (p ≢ j * 64 + (63 - t)) → 63 - p % 64 ≡ t
        place t j l m e (inl z) = omega arith
        place t j l m e (inr z) = absurd (clash (lacks ws r (j * 64 + (63 - t))) e (h (j * 64 + (63 - t)) (omega arith) ∙ same_ne p (j * 64 + (63 - t)) z))

        go : (t : ℕ) → t < 64 → (bit_of x t ≡ true) ⊎ (bit_of x t ≡ false) → bit_of x t && not (bit_of (own_word p (p / 64)) t) ≡ false
        go t l (inr z) = rw z
        go t l (inl z) =
            let s : 63 - (63 - t) ≡ t = omega arith in
            let q = o (63 - t) (omega arith) (ap (bit_of x) s ∙ z) in
            rw (z, own_digit t (place t q.0 l q.1 q.2 (same_dec p (q.0 * 64 + (63 - t)))))

    abbrev pub rest_word : ℕ → ℕ
    rest_word j = bit_xor (open_word j) (own_word p j)

    rest_bit : (i : ℕ) → bit_of (rest_word (i / 64)) (63 - i % 64) ≡ lacks ws r i ⊕ same p i
    rest_bit i = bit-xor (open_word (i / 64)) (own_word p (i / 64)) (63 - i % 64) ∙ ap₂ ◌⊕◌ (open_bit i) (own_bit p i)

    word_ok : (j : ℕ) → rest_word j ≡ 0 → (i : ℕ) → i / 64 ≡ j → lacks ws r i ≡ same p i
    word_ok j e i h = xor_eq _ _ (sym (rest_bit i) ∙ ap (λ (x : ℕ). bit_of (rest_word x) (63 - i % 64)) h ∙ ap (λ (x : ℕ). bit_of x (63 - i % 64)) e ∙ zero_bits (63 - i % 64))

    pub sole_more : (j : ℕ) → ((i : ℕ) → i < j * 64 → lacks ws r i ≡ same p i) → rest_word j ≡ 0 → (i : ℕ) → i < (j + 1) * 64 → lacks ws r i ≡ same p i
    sole_more j h e i l = go (dec_lt i (j * 64))
      where
        go : Dec (i < j * 64) → lacks ws r i ≡ same p i
        go (yes z) = h i z
        go (no z) = let q : i / 64 ≡ j = omega arith in word_ok j e i q

    pub word_bad : (j : ℕ) → j < coef_words → get_or ws (row_at r + j) 0 < 2 ^ 64 → ((i : ℕ) → i < max_vars → lacks ws r i ≡ same p i) → rest_word j ≡ 0
    word_bad j l f h =
        bits_zero 64 (rest_word j) (xor_lt 64 _ _ (xor_lt 64 _ _ f (lt_of_le_of_lt (and_le_l (get_or ws (row_at r + j) 0) (get_or ws (known_at + j) 0)) f)) (own_lt p j))
        (λ t m.
        let q : (j * 64 + (63 - t)) / 64 ≡ j = omega arith in
        let s : 63 - (j * 64 + (63 - t)) % 64 ≡ t = omega arith in
        sym (ap₂ (λ (x y : ℕ). bit_of (rest_word x) y) q s) ∙ rest_bit (j * 64 + (63 - t)) ∙ eq_xor _ _ (h (j * 64 + (63 - t)) (omega arith)))
