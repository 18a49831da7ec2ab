-- ONE BIT OF EIGHT WORDS IS SET, in the words of the variables with a value and of the true ones.
--   marked, marked_bit    eight words into one of which y has been joined, and their bits
--   put_done              what put has done
--   Within w              none is true without a value; put_within: nor after one more value
--   or_some, or_right     what a disjunction of bits says
-- Assumes nothing.
use mathlib.Core.Path.{◌≡◌, refl, sym, ap, ap₂, ◌∙◌}
use mathlib.Core.List.{List}
use mathlib.Core.Bool.{Bool, true, false, ◌&&◌, ◌||◌, cond, and-true, and-false, or-false}
use mathlib.Core.Logic.{◌⊎◌, inl, inr, ◌≢◌}
use Prim.Native.Nat.{ℕ, ◌+◌, ◌-◌, ◌/◌, ◌%◌, ◌<◌, ◌≤◌}
use native.Mathlib.Omega.{arith}
use lib.ListN.{length, get_or, set, length-set}
use lib.Seq.{get_or-set_same, get_or-set_other}
use lib.Bits.{bit_or}
use Rattle.gf2.specs.Field.{same}
use Rattle.gf2.proofs.Sums.{same_dec, same_ne}
use Rattle.words.specs.Words.{bit_of, bit_at, own_word}
use Rattle.words.proofs.Bits.{zero_bits, bit-or, own_bit, bit_same}
use Rattle.tableau.specs.Layout.{max_vars, coef_words, known_at, truth_at, record_at, size}
use Rattle.settle.specs.Values.{Put}

pub or_some : (a b : Bool) → (a || b) ≡ true → (a ≡ true) ⊎ (b ≡ true)
or_some true b h = inl refl
or_some false b h = inr h

or_left : (a b : Bool) → a ≡ true → (a || b) ≡ true
or_left a b e = rw e

pub or_right : (a b : Bool) → b ≡ true → (a || b) ≡ true
or_right true b e = refl
or_right false b e = e

and_left : (a b : Bool) → a && b ≡ true → a ≡ true
and_left true b h = refl
and_left false b h = h

module _ (ws : List ℕ) (off p : ℕ) (y : ℕ) (f : ℕ → Bool) (fits : off + coef_words ≤ length ws) (lp : p < max_vars) (here : (i : ℕ) → i / 64 ≡ p / 64 → bit_of y (63 - i % 64) ≡ f i) (away : (i : ℕ) → i / 64 ≢ p / 64 → f i ≡ false) where
  abbrev pub marked : List ℕ
  marked = set ws (off + p / 64) (bit_or (get_or ws (off + p / 64) 0) y)

  pub marked_bit : (i : ℕ) → bit_at marked off i ≡ (bit_at ws off i || f i)
  unfolding bit_at
  marked_bit i = go (same_dec (i / 64) (p / 64))
    where
      go : (i / 64 ≡ p / 64) ⊎ (i / 64 ≢ p / 64) → bit_of (get_or marked (off + i / 64) 0) (63 - i % 64) ≡ (bit_of (get_or ws (off + i / 64) 0) (63 - i % 64) || f i)
      go (inl e) =
          ap (λ (x : ℕ). bit_of x (63 - i % 64)) (ap (λ (x : ℕ). get_or marked (off + x) 0) e ∙ get_or-set_same ws (off + p / 64) _ 0 (omega arith))
          ∙ bit-or (get_or ws (off + p / 64) 0) y (63 - i % 64)
          ∙ ap₂ ◌||◌ (ap (λ (x : ℕ). bit_of (get_or ws (off + x) 0) (63 - i % 64)) (sym e)) (here i e)
      go (inr d) =
          ap (λ (x : ℕ). bit_of x (63 - i % 64)) (get_or-set_other ws (off + p / 64) (off + i / 64) _ 0 (λ (z : off + i / 64 ≡ off + p / 64). d (omega arith)))
          ∙ sym (rw (away i d) (or-false _))

pub put_done : (ws : List ℕ) (p : ℕ) (b : Bool) (m y : ℕ) → size ≤ length ws → p < max_vars → m ≡ own_word p (p / 64) → y ≡ cond b m 0
    → Put p b ws (set (set ws (known_at + p / 64) (bit_or (get_or ws (known_at + p / 64) 0) m)) (truth_at + p / 64) (bit_or (get_or (set ws (known_at + p / 64) (bit_or (get_or ws (known_at + p / 64) 0) m)) (truth_at + p / 64) 0) y))
put_done ws p b m y big lp em ey =
    record {
      len = length-set w₁ (truth_at + p / 64) _ ∙ length-set ws (known_at + p / 64) _;
      known = λ i l. bit_same w₁ _ known_at known_at i (get_or-set_other w₁ (truth_at + p / 64) (known_at + i / 64) _ 0 (λ (z : known_at + i / 64 ≡ truth_at + p / 64). absurd (omega arith)))
          ∙ marked_bit ws known_at p m (same p) (omega arith) lp here_m away_m i;
      truth = λ i l. marked_bit w₁ truth_at p y (λ j. same p j && b) (omega (arith, length-set ws (known_at + p / 64) (bit_or (get_or ws (known_at + p / 64) 0) m))) lp (here_y b ey) away_y i
          ∙ ap (λ (x : Bool). x || (same p i && b)) (bit_same ws w₁ truth_at truth_at i (get_or-set_other ws (known_at + p / 64) (truth_at + i / 64) _ 0 (λ (z : truth_at + i / 64 ≡ known_at + p / 64). absurd (omega arith))));
      rest = rest;
    }
  where
    w₁ : List ℕ
    w₁ = set ws (known_at + p / 64) (bit_or (get_or ws (known_at + p / 64) 0) m)

    here_m : (i : ℕ) → i / 64 ≡ p / 64 → bit_of m (63 - i % 64) ≡ same p i
    here_m i e = ap (λ (x : ℕ). bit_of x (63 - i % 64)) (em ∙ ap (own_word p) (sym e)) ∙ own_bit p i

    away_m : (i : ℕ) → i / 64 ≢ p / 64 → same p i ≡ false
    away_m i d = same_ne p i (λ z. d (ap (λ (x : ℕ). x / 64) (sym z)))

    here_y : (c : Bool) → y ≡ cond c m 0 → (i : ℕ) → i / 64 ≡ p / 64 → bit_of y (63 - i % 64) ≡ same p i && c
    here_y true e i h = rw e (here_m i h ∙ sym (and-true (same p i)))
    here_y false e i h = rw e (zero_bits (63 - i % 64) ∙ sym (and-false (same p i)))

    away_y : (i : ℕ) → i / 64 ≢ p / 64 → same p i && b ≡ false
    away_y i d = ap (λ (x : Bool). x && b) (away_m i d)

    rest : (i : ℕ) → (i < known_at) ⊎ (record_at ≤ i) → get_or (set w₁ (truth_at + p / 64) (bit_or (get_or w₁ (truth_at + p / 64) 0) y)) i 0 ≡ get_or ws i 0
    rest i (inl h) = get_or-set_other w₁ (truth_at + p / 64) i _ 0 (λ (z : i ≡ truth_at + p / 64). absurd (omega arith)) ∙ get_or-set_other ws (known_at + p / 64) i _ 0 (λ (z : i ≡ known_at + p / 64). absurd (omega arith))
    rest i (inr h) = get_or-set_other w₁ (truth_at + p / 64) i _ 0 (λ (z : i ≡ truth_at + p / 64). absurd (omega arith)) ∙ get_or-set_other ws (known_at + p / 64) i _ 0 (λ (z : i ≡ known_at + p / 64). absurd (omega arith))

-- none is true without a value
abbrev pub Within : List ℕ → Type 0
Within w = (i : ℕ) → i < max_vars → bit_at w truth_at i ≡ true → bit_at w known_at i ≡ true

pub put_within : (ws w : List ℕ) (p : ℕ) (b : Bool) → Put p b ws w → Within ws → Within w
put_within ws w p b pt h i l e = pt.known i l ∙ go (or_some (bit_at ws truth_at i) (same p i && b) (sym (pt.truth i l) ∙ e))
  where
    go : (bit_at ws truth_at i ≡ true) ⊎ (same p i && b ≡ true) → (bit_at ws known_at i || same p i) ≡ true
    go (inl x) = or_left (bit_at ws known_at i) (same p i) (h i l x)
    go (inr x) = or_right (bit_at ws known_at i) (same p i) (and_left (same p i) b x)
