-- THE PASS THAT TURNS ROWS: what it keeps.
--   turned_else, turned_after    a row that is turned keeps the words of all others, and so of those after it
--   turned_idle                  after others, of which row p keeps its variables, a row without variable u is turned as it is
--   partner_has                  row p has the variable that was chosen for it, also after a home and an entry of the record have been set
-- Assumes nothing.
use mathlib.Core.Path.{◌≡◌, refl, sym, ap, ◌∙◌}
use mathlib.Core.List.{List}
use mathlib.Core.Bool.{true, false, not, true≢false}
use mathlib.Core.Logic.{◌⊎◌, inl, inr, ◌≢◌}
use Prim.Native.Nat.{ℕ, zero, suc, ◌+◌, ◌-◌, ◌/◌, ◌<◌, ◌≤◌}
use native.Mathlib.Decide.{dec_lt}
use native.Mathlib.Omega.{arith}
use lib.ListN.{get_or}
use lib.Seq.{get_or-set_other}
use Rattle.gf2.proofs.Search.{and_both}
use Rattle.words.specs.Words.{bit_at}
use Rattle.words.proofs.Bits.{bit_same}
use Rattle.tableau.specs.Layout.{max_vars, max_rows, row_size, row_at, last_at, known_at, record_at}
use Rattle.tableau.specs.Buffer.{Chain}
use Rattle.settle.specs.Values.{lacks}
use Rattle.settle.proofs.Blocks.{settled_rows}
use Rattle.exchange.specs.Steps.{IsPartner, pointed, RowTurned, idle, added, centre}

-- ---- rows that are turned
module _ (p u : ℕ) where
  pub turned_else : (r : ℕ) (ws w : List ℕ) → RowTurned p u r ws w → (i : ℕ) → i < known_at → (i < row_at r) ⊎ (row_at r + row_size ≤ i) → get_or w i 0 ≡ get_or ws i 0
  turned_else r ws w (idle n h e) i l o = ap (λ (x : List ℕ). get_or x i 0) e
  turned_else r ws w (added v n h a s) i l o = settled_rows r v w s i l ∙ a.rest i o
  turned_else r ws w (centre e s) i l o = settled_rows r (pointed r u ws) w s i l ∙ get_or-set_other ws (last_at r) i _ 0 (away o)
    where
      away : (i < row_at r) ⊎ (row_at r + row_size ≤ i) → i ≢ last_at r
      away (inl h) x = absurd (omega arith)
      away (inr h) x = absurd (omega arith)

  pub turned_after : (r : ℕ) (ws w : List ℕ) → RowTurned p u r ws w → (i : ℕ) → row_at (suc r) ≤ i → i < known_at → get_or w i 0 ≡ get_or ws i 0
  turned_after r ws w t i l h = turned_else r ws w t i h (inr (omega arith))

  module _ (lp : p < max_rows) (j : ℕ) (lj : j < max_vars) where
    pivot_word : (r : ℕ) (ws w : List ℕ) → RowTurned p u r ws w → get_or w (row_at p + j / 64) 0 ≡ get_or ws (row_at p + j / 64) 0
    pivot_word r ws w (idle n h e) = ap (λ (x : List ℕ). get_or x (row_at p + j / 64) 0) e
    pivot_word r ws w (added v n h a s) = turned_else r ws w (added v n h a s) (row_at p + j / 64) (omega arith) (side (dec_lt p r))
      where
        side : Dec (p < r) → (row_at p + j / 64 < row_at r) ⊎ (row_at r + row_size ≤ row_at p + j / 64)
        side (yes o) = inl (omega arith)
        side (no o) = inr (let f : r < p = omega (arith, n) in omega arith)
    pivot_word r ws w (centre e s) =
        settled_rows r (pointed r u ws) w s (row_at p + j / 64) (omega arith) ∙ get_or-set_other ws (last_at r) (row_at p + j / 64) _ 0 (λ (x : row_at p + j / 64 ≡ last_at r). absurd (omega arith))

    pivot_stays : (k : ℕ) (z w : List ℕ) → Chain (RowTurned p u) k z w → bit_at w (row_at p) j ≡ bit_at z (row_at p) j
    pivot_stays zero z w c = ap (λ (x : List ℕ). bit_at x (row_at p) j) c
    pivot_stays (suc k) z w c = bit_same c.0 w (row_at p) (row_at p) j (pivot_word k c.0 w c.3) ∙ pivot_stays k z c.0 c.2

  -- a row that has not the variable, as row p has, is turned as it is
  pub turned_idle : p < max_rows → u - 1 < max_vars → (r : ℕ) (z w : List ℕ)
      → bit_at z (row_at p) (u - 1) ≡ true → Chain (RowTurned p u) r z w → bit_at w (row_at r) (u - 1) ≡ false → RowTurned p u r w w
  turned_idle lp lu r z w has c f = idle (λ h. true≢false (sym still ∙ ap (λ (y : ℕ). bit_at w (row_at y) (u - 1)) (sym h) ∙ f)) f refl
    where
      still : bit_at w (row_at p) (u - 1) ≡ true
      still = pivot_stays lp (u - 1) lu r z w c ∙ has

-- ---- the variable that was chosen
lacks_has : (ws : List ℕ) (r i : ℕ) → lacks ws r i ≡ true → bit_at ws (row_at r) i ≡ true
unfolding lacks
lacks_has ws r i h = (and_both (bit_at ws (row_at r) i) (not (bit_at ws known_at i)) h).0

pub partner_has : (ws w : List ℕ) (p q u : ℕ) → p < max_rows → IsPartner ws p q u → ((i : ℕ) → i < record_at → get_or w i 0 ≡ get_or ws i 0) → bit_at w (row_at p) (u - 1) ≡ true
partner_has ws w p q u lp h rest =
    let lo = h.first in
    let hi = h.last in
    bit_same ws w (row_at p) (row_at p) (u - 1) (rest (row_at p + (u - 1) / 64) (omega arith)) ∙ lacks_has ws p (u - 1) h.free
