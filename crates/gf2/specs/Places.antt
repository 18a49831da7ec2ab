-- ROWS BY PLACE AND BY CHOICE, and the list that a scan makes: what the machinery's definitions and contracts say lists by.
--   chosen s rs           the rows whose numbers s chooses
--   placed m f R          m rows by place: row i is R i and has the number f i
--   scanned n t truth     the literals of the variables 1 .. n that t lists, with their values
-- Assumes nothing.
use Rattle.std.specs.Prelude.{Bool, true, false, List, [], ◌∷◌, ◌++◌, ℕ, zero, suc}
use Rattle.gf2.specs.Rows.{Row, Numbered, Rows}
use Rattle.gf2.specs.Answers.{code}

abbrev pub with_row : Bool → Numbered → Rows → Rows
with_row true c rs = c ∷ rs
with_row false c rs = rs

unfoldable pub chosen : (ℕ → Bool) → Rows → Rows
chosen s [] = []
chosen s (c ∷ rs) = with_row (s c.number) c (chosen s rs)

unfoldable pub placed : ℕ → (ℕ → ℕ) → (ℕ → Row) → Rows
placed zero number R = []
placed (suc m) number R = record { number = number 0; row = R 0 } ∷ placed m (λ i. number (suc i)) (λ i. R (suc i))

abbrev pub listed_if : Bool → ℕ → List ℕ
listed_if true l = l ∷ []
listed_if false l = []

unfoldable pub scanned : ℕ → (ℕ → Bool) → (ℕ → Bool) → List ℕ
scanned zero t truth = []
scanned (suc i) t truth = scanned i t truth ++ listed_if (t (suc i)) (code (suc i) (truth (suc i)))
