-- LISTS THAT ANSWER, made by a scan over the variables 1 .. n or the rows 1 .. m (gf2's `scanned` is such a list of literals).
--   numbers m t                  the numbers of those of the rows 1 .. m that t picks by their places 0 .. m - 1, ascending
--   is_new work old v u           u has a value now, had none in the words old, and is not v
--   is_other work r v u           row r has u, which is not v
--   FirstOnes x k r              r has the ones of x among its first k digits, the top one first, and no others
--   items k x t s base           the ones of x among its first k digits, as a scan lists them: that of digit i as s * (base + i + 1), and 1 more where t has a one too
--   ListPut most at l out o x    the list l stands in the buffer from place at, which is otherwise as it was; x is the place after it, at most `most`
--   ones k words s               the ones among the first k digits of the words, word by word as `items`: `words w` has the x and the t of word w
--   GivesWords post k words      each of the words that the first k digits reach is one that `post` gives
--   RoomFor post n s at          from place at on there is room below n for the ones of any words that `post` gives
--   WordsPut post k s ..         the ones among the first k digits of words that `post` gives stand in the buffer, as ListPut says
-- Assumes nothing.
use Rattle.std.specs.Prelude.{◌≡◌, List, [], ◌++◌, ◌⊎◌, Bool, false, ◌&&◌, not, ℕ, zero, suc, ◌+◌, ◌*◌, ◌-◌, ◌/◌, ◌%◌, ◌^◌, ◌<◌, ◌≤◌, length, get_or}
use Rattle.gf2.specs.Field.{same}
use Rattle.gf2.specs.Places.{listed_if}
use Rattle.words.specs.Words.{bit_of}
use Rattle.tableau.specs.Layout.{row_at, known_at}
use Rattle.tableau.specs.View.{vals}

unfoldable pub numbers : ℕ → (ℕ → Bool) → List ℕ
numbers zero t = []
numbers (suc m) t = numbers m t ++ listed_if (t m) (suc m)

abbrev pub is_new : List ℕ → List ℕ → ℕ → ℕ → Bool
is_new work old v u = vals work known_at u && not (vals old 0 u) && not (same u v)

abbrev pub is_other : List ℕ → ℕ → ℕ → ℕ → Bool
is_other work r v u = vals work (row_at r) u && not (same u v)

pub record FirstOnes (x k r : ℕ) : Type 0 where
  pub kept : (i : ℕ) → i < 64 → i < k → bit_of r (63 - i) ≡ bit_of x (63 - i)
  pub none : (i : ℕ) → i < 64 → k ≤ i → bit_of r (63 - i) ≡ false

unfoldable pub items : ℕ → ℕ → ℕ → ℕ → ℕ → List ℕ
items zero x t s base = []
items (suc k) x t s base = items k x t s base ++ listed_if (bit_of x (63 - k)) (s * (base + k + 1) + t / 2 ^ (63 - k) % 2)

pub record ListPut (most at : ℕ) (l out o : List ℕ) (x : ℕ) : Type 0 where
  pub count : x ≡ at + length l
  pub few : x ≤ most
  pub long : length o ≡ length out
  pub used : (i : ℕ) → i < length l → get_or o (at + i) 0 ≡ get_or l i 0
  pub rest : (i : ℕ) → (i < at) ⊎ (x ≤ i) → get_or o i 0 ≡ get_or out i 0

unfoldable pub ones : ℕ → (ℕ → ℕ × ℕ) → ℕ → List ℕ
ones zero words s = []
ones (suc k) words s = ones k words s ++ listed_if (bit_of (words (k / 64)).0 (63 - k % 64)) (s * (k + 1) + (words (k / 64)).1 / 2 ^ (63 - k % 64) % 2)

abbrev pub GivesWords : (ℕ → ℕ × ℕ → Type 0) → ℕ → (ℕ → ℕ × ℕ) → Type 0
GivesWords post n words = (w : ℕ) → w * 64 < n → post w (words w)

abbrev pub RoomFor : (ℕ → ℕ × ℕ → Type 0) → ℕ → ℕ → ℕ → Type 0
RoomFor post n s at = (k : ℕ) (words : ℕ → ℕ × ℕ) → k ≤ n → GivesWords post k words → at + length (ones k words s) ≤ n

pub record WordsPut (post : ℕ → ℕ × ℕ → Type 0) (k s most at : ℕ) (out o : List ℕ) (x : ℕ) : Type 0 where
  pub words : ℕ → ℕ × ℕ
  pub given : GivesWords post k words
  pub listed : ListPut most at (ones k words s) out o x
