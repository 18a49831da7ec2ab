-- THE VALUES MADE ANEW are those of a state of the module: for open, assume and back.
--   restart_made    rows that say what the sheet says, with taken literals none of which is basic
--   back_step       a state of the module, with fewer taken literals
-- Assumes nothing.
use mathlib.Core.Path.{◌≡◌, refl, sym, ◌∙◌}
use mathlib.Core.List.{List}
use mathlib.Core.Bool.{Bool, false}
use mathlib.Core.Logic.{◌⊎◌, inl, inr}
use Prim.Native.Nat.{ℕ, ◌<◌, ◌≤◌}
use native.Mathlib.Omega.{arith}
use lib.ListN.{length, get_or}
use Rattle.gf2.specs.Rows.{Row}
use Rattle.linear.specs.State.{Built, Taken, Finished}
use Rattle.linear.proofs.Assume.{clash}
use Rattle.linear.proofs.Settling.{settle_made, taken_fewer}
use Rattle.tableau.specs.Layout.{max_vars, max_rows, row_at, known_at, truth_at, record_at, size}
use Rattle.tableau.specs.View.{RowsRead, ValuesRead, LitsRead, vals, Homes, MadeAt}
use Rattle.tableau.proofs.Reading.{rows_stay, entry_stay, homes_stay, lits_stay}
use Rattle.settle.specs.Values.{Restarted}
use Rattle.settle.proofs.Settles.{settle_finished, settle_rest, settle_within}
use Rattle.settle.proofs.Starts.{entries_started, entries_rest, entries_within, entries_basic}

-- ---- the values made anew: for open, assume and back
module _ (n m : ℕ) (Sheet : ℕ → Row) (kept : ℕ → Bool) (d : ℕ) (x : ℕ → ℕ) (y : ℕ → Bool) (k : ℕ) (R : ℕ → Row) (β : ℕ → ℕ) (S : ℕ → ℕ → Bool) (ws w : List ℕ)
    (ln : n ≤ max_vars) (lk : k ≤ max_rows) (big : size ≤ length ws) (len : length w ≡ length ws)
    (b : Built n m Sheet kept m k R β S) (t : Taken n d x k β) (rr : RowsRead n k ws R β S) (lr : LitsRead d ws x y) (hs : Homes k ws) (re : Restarted k d ws w) where
  rest_a : (i : ℕ) → (i < known_at) ⊎ (record_at ≤ i) → get_or re.empty i 0 ≡ get_or ws i 0
  rest_a i h = re.cleared.rest i h

  lits_a : LitsRead d re.empty x y
  lits_a = lits_stay d ws re.empty x y (λ j l. entry_stay ws re.empty (λ i h. rest_a i (inr h)) j) lr

  rest_b : (i : ℕ) → (i < known_at) ⊎ (record_at ≤ i) → get_or re.begun i 0 ≡ get_or ws i 0
  rest_b i h = entries_rest n d k re.empty x y β ln t ws lits_a re.cleared re.begun re.set i h ∙ rest_a i h

  rows_b : RowsRead n k re.begun R β S
  rows_b = rows_stay n k ws re.begun R β S lk (λ i h. rest_b i (inl h)) rr

  values_b : ValuesRead re.begun (vals re.begun known_at) (vals re.begun truth_at)
  values_b = record { knows = λ i l. refl; trues = λ i l. refl; within = entries_within n d k re.empty x y β ln t ws lits_a re.cleared re.begun re.set }

  basic_b : (r : ℕ) → r < k → vals re.begun known_at (β r) ≡ false
  basic_b r l = entries_basic n d k re.empty x y β ln t ws lits_a re.cleared re.begun re.set (β r) (b.tableau.var r l) (λ j h e. t.apart j h r l (sym e))

  finished : Finished n k R β (vals re.begun known_at) (vals re.begun truth_at) (vals w known_at) (vals w truth_at)
  finished = settle_finished n k re.begun R β S _ _ ln lk b.tableau rows_b values_b (λ r l e. absurd (clash _ e (basic_b r l))) w re.settled

  rest_w : (i : ℕ) → (i < known_at) ⊎ (record_at ≤ i) → get_or w i 0 ≡ get_or ws i 0
  rest_w i h = settle_rest n k re.begun R β S _ _ ln lk b.tableau rows_b values_b (λ r l e. absurd (clash _ e (basic_b r l))) w re.settled i h ∙ rest_b i h

  rest_h : (i : ℕ) → (i < row_at k) ⊎ (record_at ≤ i) → get_or w i 0 ≡ get_or ws i 0
  rest_h i (inl h) = rest_w i (inl (omega arith))
  rest_h i (inr h) = rest_w i (inr h)

  pub restart_made : MadeAt w n m Sheet kept d x y k
  restart_made =
      record {
        R = R;
        β = β;
        S = S;
        known = vals w known_at;
        truth = vals w truth_at;
        vars = ln;
        few = lk;
        room = omega arith;
        rows = rows_stay n k ws w R β S lk (λ i h. rest_w i (inl h)) rr;
        values = record { knows = λ i l. refl; trues = λ i l. refl; within = settle_within n k re.begun R β S _ _ ln lk b.tableau rows_b values_b (λ r l e. absurd (clash _ e (basic_b r l))) w re.settled };
        lits = lits_stay d ws w x y (λ j l. entry_stay ws w (λ i h. rest_w i (inr h)) j) lr;
        homes = homes_stay k ws w rest_h hs;
        made = settle_made n m Sheet kept k R β S b d x y t _ _ _ _ (entries_started n d k re.empty x y β ln t ws lits_a re.cleared re.begun re.set) finished;
      }

-- ---- back
pub back_step : (n m : ℕ) (Sheet : ℕ → Row) (kept : ℕ → Bool) (d : ℕ) (x : ℕ → ℕ) (y : ℕ → Bool) (k : ℕ) (ws w : List ℕ) → length w ≡ length ws → MadeAt ws n m Sheet kept d x y k → (e : ℕ) → e ≤ d
    → Restarted k e ws w → MadeAt w n m Sheet kept e x y k
back_step n m Sheet kept d x y k ws w len a e l re =
    restart_made n m Sheet kept e x y k a.R a.β a.S ws w a.vars a.few a.room len a.made.built (taken_fewer n d e x k a.β l a.made.taken) a.rows
    (record { var = λ j h. a.lits.var j (omega arith); val = λ j h. a.lits.val j (omega arith) }) a.homes re
