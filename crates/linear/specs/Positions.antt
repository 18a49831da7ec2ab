-- POSITIONS BY PLACE: the numbered rows and the taken literals of a position, as the engine has them.
--   numbered m Sheet      the rows Sheet 0 .. Sheet (m - 1), numbered from 1
--   by_number f            a choice of places, as a choice of row numbers
--   kept_rows              the kept rows, as a list
--   codes_of d x y         the d literals `variable x j has the value y j`, in order
--   position              the position that they make
-- Assumes nothing.
use Rattle.std.specs.Prelude.{Bool, false, List, [], ◌∷◌, ◌++◌, ℕ, zero, suc}
use Rattle.gf2.specs.Rows.{Row, Rows}
use Rattle.gf2.specs.Answers.{code, Position}
use Rattle.gf2.specs.Places.{chosen, placed}

abbrev pub numbered : ℕ → (ℕ → Row) → Rows
numbered m Sheet = placed m suc Sheet

abbrev pub by_number : (ℕ → Bool) → ℕ → Bool
by_number f zero = false
by_number f (suc q) = f q

abbrev pub kept_rows : ℕ → (ℕ → Row) → (ℕ → Bool) → Rows
kept_rows m Sheet kept = chosen (by_number kept) (numbered m Sheet)

unfoldable pub codes_of : ℕ → (ℕ → ℕ) → (ℕ → Bool) → List ℕ
codes_of zero x y = []
codes_of (suc d) x y = codes_of d x y ++ (code (x d) (y d) ∷ [])

abbrev pub position : (n m : ℕ) → (ℕ → Row) → ℕ → (ℕ → ℕ) → (ℕ → Bool) → Position
position n m Sheet d x y = record { n = n; rows = numbered m Sheet; taken = codes_of d x y }
