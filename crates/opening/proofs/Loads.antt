-- THE LOWEST VARIABLE OF A ROW, loaded and asked for.
--   lowest_read    the row has it
--   none_read      the row has none
-- Assumes nothing.
use mathlib.Core.Path.{◌≡◌, sym, ◌∙◌}
use mathlib.Core.Bool.{false}
use mathlib.Core.List.{List}
use Prim.Native.Nat.{ℕ, ◌-◌, ◌<◌}
use native.Mathlib.Omega.{arith}
use Rattle.words.specs.Words.{bit_at, IsLowest}
use Rattle.tableau.specs.Buffer.{Slice}
use Rattle.tableau.specs.Layout.{max_vars, coef_words, row_at}
use Rattle.tableau.proofs.Runs.{slice_bit}
use Rattle.opening.specs.Opened.{LowestAt, NoneAt}

module _ (ws row : List ℕ) (k : ℕ) (read : Slice coef_words ws (row_at k) row) where
  loaded : (i : ℕ) → i < max_vars → bit_at ws (row_at k) i ≡ bit_at row 0 i
  loaded i l = sym (slice_bit coef_words (row_at k) ws row read i l)

  pub lowest_read : (u : ℕ) → IsLowest coef_words row u → LowestAt ws k u
  lowest_read u h =
      let a = h.first in
      let b = h.last in
      record { first = a; last = b; has = loaded (u - 1) (omega arith) ∙ h.has; under = λ i l. loaded i (omega arith) ∙ h.under i l }

  pub none_read : ((i : ℕ) → i < max_vars → bit_at row 0 i ≡ false) → NoneAt ws k
  none_read h i l = loaded i l ∙ h i l
