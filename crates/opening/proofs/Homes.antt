-- THE KEPT ROWS STAY THE HOMES OF THEIR BASIC VARIABLES while a row goes in behind them.
--   homes_loaded    a row of the store stands behind the rows; homes_chain: it is reduced by several of them
-- Assumes nothing.
use mathlib.Core.Path.{◌≡◌}
use mathlib.Core.List.{List}
use mathlib.Core.Logic.{◌⊎◌, inl, inr}
use Prim.Native.Nat.{ℕ, zero, suc, ◌+◌, ◌<◌, ◌≤◌}
use native.Mathlib.Omega.{arith}
use lib.ListN.{get_or}
use Rattle.tableau.specs.Layout.{max_rows, row_size, row_at, record_at}
use Rattle.tableau.specs.Buffer.{Chain}
use Rattle.tableau.specs.View.{Homes}
use Rattle.tableau.proofs.Reading.{homes_stay}
use Rattle.opening.specs.Opened.{Loaded, Reduced}

-- all words but those of row k stay
homes_but : (k : ℕ) (ws w : List ℕ) → k < max_rows → ((i : ℕ) → (i < row_at k) ⊎ (row_at k + row_size ≤ i) → get_or w i 0 ≡ get_or ws i 0) → Homes k ws → Homes k w
homes_but k ws w l h = homes_stay k ws w (λ i o. h i (away i o))
  where
    away : (i : ℕ) → (i < row_at k) ⊎ (record_at ≤ i) → (i < row_at k) ⊎ (row_at k + row_size ≤ i)
    away i (inl o) = inl o
    away i (inr o) = inr (omega arith)

pub homes_loaded : (q k : ℕ) → k < max_rows → (store ws w : List ℕ) → Loaded q k store ws w → Homes k ws → Homes k w
homes_loaded q k l store ws w h = homes_but k ws w l h.rest

homes_reduced : (k r : ℕ) → k < max_rows → (ws w : List ℕ) → Reduced k r ws w → Homes k ws → Homes k w
homes_reduced k r l ws w (inl h) s = rw h.0 s
homes_reduced k r l ws w (inr h) s = homes_but k ws w l h.1.rest s

pub homes_chain : (k : ℕ) → k < max_rows → (r : ℕ) (ws w : List ℕ) → Chain (Reduced k) r ws w → Homes k ws → Homes k w
homes_chain k l zero ws w e s = rw e s
homes_chain k l (suc r) ws w c s = homes_reduced k r l c.0 w c.3 (homes_chain k l r ws c.0 c.2 s)
