-- THE KEPT ROWS HAVE THEIR BASIC VARIABLES, whatever the buffer held before opening.
--   basics_loaded      a row of the store stands behind the rows; basics_chain: it is reduced by several of them
--   basics_homed       a home is set
--   basics_exchanged   a variable becomes basic in the row behind the rows
-- Assumes nothing.
use mathlib.Core.Path.{◌≡◌, ap, ◌∙◌}
use mathlib.Core.List.{List}
use mathlib.Core.Logic.{inl, inr, ◌≢◌}
use Prim.Native.Nat.{ℕ, zero, suc, ◌+◌, ◌*◌, ◌/◌, ◌%◌, ◌<◌, ◌≤◌}
use native.Mathlib.Decide.{dec_lt}
use native.Mathlib.Omega.{arith}
use lib.ListN.{length, get_or}
use lib.Seq.{get_or-set_same, get_or-set_other}
use Rattle.linear.proofs.Exchange.{at_or_not}
use Rattle.linear.proofs.Insert.{below}
use Rattle.tableau.specs.Buffer.{basic_at, Added, Homed, Chain}
use Rattle.tableau.specs.Layout.{max_vars, max_rows, row_at, last_at, size}
use Rattle.tableau.proofs.Reading.{basic_kept}
use Rattle.exchange.specs.Steps.{RowCleared, Exchanged}
use Rattle.opening.specs.Opened.{Basics, Loaded, Reduced}

basics_below : (k : ℕ) (ws w : List ℕ) → ((i : ℕ) → i < row_at k → get_or w i 0 ≡ get_or ws i 0) → Basics k ws → Basics k w
basics_below k ws w h b r l = rw (h (last_at r) (omega arith)) (b r l)

pub basics_loaded : (q k : ℕ) (store ws w : List ℕ) → Loaded q k store ws w → Basics k ws → Basics k w
basics_loaded q k store ws w h = basics_below k ws w (λ i l. h.rest i (inl l))

basics_reduced : (k r : ℕ) (ws w : List ℕ) → Reduced k r ws w → Basics k ws → Basics k w
basics_reduced k r ws w (inl h) b = rw h.0 b
basics_reduced k r ws w (inr h) b = basics_below k ws w (λ i l. h.1.rest i (inl l)) b

pub basics_chain : (k r : ℕ) (ws w : List ℕ) → Chain (Reduced k) r ws w → Basics k ws → Basics k w
basics_chain k zero ws w e b = rw e b
basics_chain k (suc r) ws w c b = basics_reduced k r c.0 w c.3 (basics_chain k r ws c.0 c.2 b)

-- a row added into another leaves every basic variable
basic_added : (p r : ℕ) (ws w : List ℕ) → Added p r ws w → (q : ℕ) → basic_at w q ≡ basic_at ws q
basic_added p r ws w a q = go (dec_lt q r) (dec_lt r q)
  where
    go : Dec (q < r) → Dec (r < q) → basic_at w q ≡ basic_at ws q
    go (yes l) g = ap (λ (x : ℕ). x / 2) (a.rest (last_at q) (inl (omega arith)))
    go (no l) (yes g) = ap (λ (x : ℕ). x / 2) (a.rest (last_at q) (inr (omega arith)))
    go (no l) (no g) = let e : q ≡ r = omega arith in rw e (basic_kept (get_or w (last_at r) 0) (get_or ws (last_at r) 0) (get_or ws (last_at p) 0) a.last)

basic_cleared : (p i k : ℕ) (ws w : List ℕ) → Chain (RowCleared p i) k ws w → (q : ℕ) → basic_at w q ≡ basic_at ws q
basic_cleared p i zero ws w e q = ap (λ (l : List ℕ). basic_at l q) e
basic_cleared p i (suc k) ws w c q = go c.3 ∙ basic_cleared p i k ws c.0 c.2 q
  where
    go : RowCleared p i k c.0 w → basic_at w q ≡ basic_at c.0 q
    go (inl h) = ap (λ (l : List ℕ). basic_at l q) h.0
    go (inr h) = basic_added p k c.0 w h.2 q

pub basics_homed : (k u p : ℕ) (ws w : List ℕ) → k ≤ max_rows → Homed u p ws w → Basics k ws → Basics k w
basics_homed k u p ws w l h = basics_below k ws w (λ i z. h.rest i (omega arith))

pub basics_exchanged : (k u : ℕ) (ws w : List ℕ) → size ≤ length ws → k < max_rows → 0 < u → u ≤ max_vars → Exchanged (k + 1) k u ws w → Basics k ws → Basics (suc k) w
basics_exchanged k u ws w big lk lo hi ex b = at_or_not (suc k) k (λ r. (0 < basic_at w r) × (basic_at w r ≤ max_vars)) here other
  where
    here : (0 < basic_at w k) × (basic_at w k ≤ max_vars)
    here = let e = last_word in (omega arith, omega arith)
      where
        last_word : get_or w (last_at k) 0 ≡ 2 * u + get_or ex.middle (last_at k) 0 % 2
        last_word = ap (λ (l : List ℕ). get_or l (last_at k) 0) ex.points ∙ get_or-set_same ex.middle (last_at k) _ 0 (omega (arith, ex.long))

    other : (r : ℕ) → r < suc k → r ≢ k → (0 < basic_at w r) × (basic_at w r ≤ max_vars)
    other r l d = rw same_basic (b r (below k r l d))
      where
        same_basic : basic_at w r ≡ basic_at ws r
        same_basic =
            ap (λ (l : List ℕ). basic_at l r) ex.points
            ∙ ap (λ (x : ℕ). x / 2) (get_or-set_other ex.middle (last_at k) (last_at r) _ 0 (λ (z : last_at r ≡ last_at k). d (omega arith)))
            ∙ basic_cleared k _ (k + 1) ws ex.middle ex.cleared r
