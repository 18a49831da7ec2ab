-- THE ROWS OF THE STORE ONE AFTER ANOTHER, and the state that opening leaves.
--   opens_next      one row more, as the loop takes it
--   opens_basics    the kept rows have their basic variables
--   opens_built     the rows that the buffer holds say what the rows so far say
--   open_made       all rows are in: a state of the module, with nothing taken
--   open_fails      a row contradicts: its provenance is that row and the rows of the one sum
-- Assumes nothing.
use mathlib.Core.Path.{◌≡◌, sym, ◌∙◌}
use mathlib.Core.List.{List}
use mathlib.Core.Bool.{Bool, true, false}
use mathlib.Core.Logic.{◌⊎◌, inl, inr}
use Prim.Native.Nat.{ℕ, suc, ◌+◌, ◌<◌, ◌≤◌}
use native.Mathlib.Nat.{not-suc-le-zero}
use native.Mathlib.Numerals.{add-one}
use native.Mathlib.Omega.{arith}
use lib.ListN.{length}
use Rattle.gf2.specs.Field.{◌⊕◌, same}
use Rattle.gf2.specs.Rows.{Row}
use Rattle.linear.specs.State.{KeptPlaces, Fails}
use Rattle.linear.proofs.Opening.{built_none, taken_none}
use Rattle.linear.proofs.Pigeons.{tally_le}
use Rattle.words.specs.Words.{bit_at}
use Rattle.tableau.specs.Layout.{max_vars, max_rows, from_at, size}
use Rattle.tableau.specs.View.{MadeAt, BuiltAt}
use Rattle.settle.proofs.Restarts.{restart_made}
use Rattle.std.specs.Prelude.{Ok, Err}
use Rattle.opening.specs.Opened.{Basics, Spent, Entered, RowDone, Opens, start, pass, grow, AllIn, Stopped}
use Rattle.words.specs.Store.{StoreRead}
use Rattle.opening.proofs.Basics.{basics_loaded, basics_chain, basics_homed, basics_exchanged}
use Rattle.opening.proofs.Lifts.{open_step}

pub opens_next : (store ws : List ℕ) (q k : ℕ) (v w : List ℕ) (k' : ℕ) → Opens store ws q k v → length v ≡ length ws
    → (RowDone q k store v w (Ok true) × (k' ≡ k + 1)) ⊎ (RowDone q k store v w (Ok false) × (k' ≡ k)) → Opens store ws (q + 1) k' w
opens_next store ws q k v w k' o l (inl h) = rw (add-one q, h.1, add-one k) (grow q k v w o l h.0)
opens_next store ws q k v w k' o l (inr h) = rw (add-one q, h.1) (pass q k v w o l h.0)

row_passed : (q k : ℕ) (store v w : List ℕ) → Spent q k store v w → Basics k v → Basics k w
row_passed q k store v w s b = basics_chain k k s.begun w s.reduced (basics_loaded q k store v s.begun s.loaded b)

row_grown : (q k : ℕ) (store v w : List ℕ) → size ≤ length v → k < max_rows → Entered q k store v w → Basics k v → Basics (suc k) w
row_grown q k store v w big l t b =
    let g = t.long in
    let h = t.home.len in
    basics_exchanged k t.u t.housed w (omega arith) l t.lowest.first t.lowest.last t.moved
    (basics_homed k t.u k t.left t.housed (omega arith) t.home (basics_chain k k t.begun t.left t.reduced (basics_loaded q k store v t.begun t.loaded b)))

pub opens_basics : (store ws : List ℕ) → size ≤ length ws → (q k : ℕ) (w : List ℕ) → k ≤ max_rows → Opens store ws q k w → Basics k w
opens_basics store ws big q k w l start = λ r h. absurd (not-suc-le-zero h)
opens_basics store ws big q k w l (pass p k₁ v w₁ o len r) = row_passed p k₁ store v w r.0 (opens_basics store ws big p k₁ v l o)
opens_basics store ws big q k w l (grow p k₁ v w₁ o len r) = row_grown p k₁ store v w (omega arith) l r (opens_basics store ws big p k₁ v (omega arith) o)

module _ (n m : ℕ) (Sheet : ℕ → Row) (kept : ℕ → Bool) (kp : KeptPlaces n m Sheet kept) (store : List ℕ) (st : StoreRead n m store Sheet) (ln : n ≤ max_vars) (lm : m ≤ max_rows) (ws : List ℕ) (big : size ≤ length ws) where
  few_rows : (w : List ℕ) (q k : ℕ) → BuiltAt w n m Sheet kept q k → k ≤ q
  few_rows w q k b = let e = b.built.count in let h = tally_le q kept in omega arith

  pub opens_built : (q k : ℕ) (w : List ℕ) → q ≤ m → Opens store ws q k w → BuiltAt w n m Sheet kept q k
  opens_built q k w l start =
      record {
        R = λ r v. false;
        β = λ r. 0;
        S = λ r j. false;
        rows = record { coefs = λ r h. absurd (not-suc-le-zero h); parity = λ r h. absurd (not-suc-le-zero h); basic = λ r h. absurd (not-suc-le-zero h); from = λ r h. absurd (not-suc-le-zero h); clean = λ r h. absurd (not-suc-le-zero h) };
        homes = λ r h. absurd (not-suc-le-zero h);
        built = built_none n m Sheet kept _ _ _;
      }
  opens_built q k w l (pass p k₁ v w₁ o len r) =
      let b = opens_built p k₁ v (omega arith) o in
      let f = few_rows v p k₁ b in
      open_step n m Sheet kept kp store st ln lm p k₁ l (omega arith) v (omega arith) b w (Ok false) r
  opens_built q k w l (grow p k₁ v w₁ o len r) =
      let b = opens_built p k₁ v (omega arith) o in
      let f = few_rows v p k₁ b in
      open_step n m Sheet kept kp store st ln lm p k₁ l (omega arith) v (omega arith) b w (Ok true) r

  pub open_made : (k : ℕ) (w : List ℕ) → length w ≡ length ws → AllIn m store ws k w → MadeAt w n m Sheet kept 0 (λ j. 0) (λ j. false) k
  open_made k w len a =
      let b = opens_built m k a.middle (omega arith) a.rows in
      let f = a.few in
      let g = a.long in
      restart_made n m Sheet kept 0 (λ j. 0) (λ j. false) k b.R b.β b.S a.middle w ln (omega arith) (omega arith) (len ∙ sym a.long) b.built (taken_none n _ k b.β) b.rows
      (record { var = λ j h. absurd (not-suc-le-zero h); val = λ j h. absurd (not-suc-le-zero h) }) b.homes a.settled

  pub open_fails : (k : ℕ) (w : List ℕ) (a : Stopped m store ws k w) → (s : ℕ → Bool) × Fails n m Sheet kept a.q s × ((j : ℕ) → j < max_rows → bit_at w (from_at k) j ≡ same a.q j ⊕ s j)
  open_fails k w a =
      let l = a.low in
      let f = a.few in
      let g = a.long in
      open_step n m Sheet kept kp store st ln lm a.q k a.low (omega arith) a.middle (omega arith) (opens_built a.q k a.middle (omega arith) a.rows) w (Err (record { row = k })) a.last
