-- ROWS IN WORDS OF 64 BITS (document 01, "The row sheet": variable 1 in the top bit of the first).
--   bit_of w j        binary digit j of the word w, digit 0 the lowest
--   bit_at ws off i   bit i of the words of ws from place off on, the top bit of the first word first: coefficient of variable i + 1
--   xor_words a b     the words of a and b added bit by bit; where one list is longer, its words as they are
--   own_word i j      word j of the words that have bit i alone
--   IsLowest k ws v   v is the lowest variable of k words
--   Lowest k ws found   what is found is their lowest variable, and nothing where they have none
-- Assumes nothing.
use Rattle.std.specs.Prelude.{◌≡◌, Bool, true, false, cond, Option, None, Some, List, [], ◌∷◌, ℕ, zero, suc, ◌+◌, ◌-◌, ◌*◌, ◌/◌, ◌%◌, ◌^◌, ◌<◌, ◌≤◌, get_or, eqb}
use Rattle.std.specs.Int.Bits.{bit_xor}
use Rattle.words.specs.declared.variable.Variable.{Variable}

abbrev pub digit : ℕ → Bool
digit zero = false
digit (suc d) = true

abbrev pub bit_of : ℕ → ℕ → Bool
bit_of w j = digit (w / 2 ^ j % 2)

unfoldable pub bit_at : List ℕ → ℕ → ℕ → Bool
bit_at ws off i = bit_of (get_or ws (off + i / 64) 0) (63 - i % 64)

abbrev pub xor_words : List ℕ → List ℕ → List ℕ
xor_words [] b = b
xor_words (x ∷ a) [] = x ∷ a
xor_words (x ∷ a) (y ∷ b) = bit_xor x y ∷ xor_words a b

unfoldable pub own_word : ℕ → ℕ → ℕ
own_word i j = cond (eqb (i / 64) j) (2 ^ (63 - i % 64)) 0

pub record IsLowest (k : ℕ) (ws : List ℕ) (v : ℕ) : Type 0 where
  pub first : 0 < v
  pub last : v ≤ k * 64
  pub has : bit_at ws 0 (v - 1) ≡ true
  pub under : (i : ℕ) → suc i < v → bit_at ws 0 i ≡ false

abbrev pub Lowest : ℕ → List ℕ → Option Variable → Type 0
Lowest k ws None = (i : ℕ) → i < k * 64 → bit_at ws 0 i ≡ false
Lowest k ws (Some v) = IsLowest k ws v.number
