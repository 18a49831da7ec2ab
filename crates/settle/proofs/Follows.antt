-- ONE MORE LITERAL, of a variable that is not basic and has no value: the values go on from the present ones.
--   follow_made    the state afterwards is one of the module
-- Assumes nothing.
use mathlib.Core.Path.{◌≡◌, refl, sym, ap, ◌∙◌}
use mathlib.Core.List.{List}
use mathlib.Core.Bool.{Bool, true, false, or-false}
use mathlib.Core.Logic.{◌⊎◌, inl, inr, ◌≢◌}
use Prim.Native.Nat.{ℕ, zero, suc, ◌+◌, ◌-◌, ◌/◌, ◌<◌, ◌≤◌}
use native.Mathlib.Nat.{not-suc-le-zero}
use native.Mathlib.Omega.{arith}
use lib.ListN.{length, get_or}
use Rattle.gf2.specs.Rows.{Var, Row, Holds}
use Rattle.gf2.proofs.Sat.{value_cong_on}
use Rattle.gf2.proofs.Sums.{same_dec, same_refl, same_ne, bool_dec}
use Rattle.linear.specs.State.{Taken, Started}
use Rattle.linear.specs.Systems.{NonBasic, Decides}
use Rattle.linear.proofs.Assume.{clash}
use Rattle.linear.proofs.Exchange.{at_or_not}
use Rattle.linear.proofs.Settling.{settle_made}
use Rattle.words.specs.Words.{bit_at}
use Rattle.words.proofs.Bits.{bit_same}
use Rattle.tableau.specs.Layout.{max_vars, last_at, known_at, truth_at, record_at}
use Rattle.tableau.specs.Buffer.{home_at}
use Rattle.tableau.specs.View.{RowsRead, ValuesRead, LitsRead, vals, MadeAt}
use Rattle.tableau.proofs.Reading.{bit-of, rows_stay, entry_stay, home_stay, homes_same, lits_stay}
use Rattle.settle.specs.Values.{Followed}
use Rattle.settle.proofs.Putting.{Within, or_right, put_within}
use Rattle.settle.proofs.Settles.{follow_finished, follow_rest, follow_within}

module _ (n m : ℕ) (Sheet : ℕ → Row) (kept : ℕ → Bool) (d : ℕ) (x : ℕ → ℕ) (y : ℕ → Bool) (k : ℕ) (ws : List ℕ) (a : MadeAt ws n m Sheet kept d x y k)
    (v : ℕ) (b : Bool) (mv : Var n v) (nb : NonBasic k a.β v) (un : a.known v ≡ false)
    (x' : ℕ → ℕ) (y' : ℕ → Bool) (x-old : (j : ℕ) → j < d → x' j ≡ x j) (y-old : (j : ℕ) → j < d → y' j ≡ y j) (x-new : x' d ≡ v) (y-new : y' d ≡ b) (t : Taken n (suc d) x' k a.β)
    (u w : List ℕ) (len : length w ≡ length ws) (front : (i : ℕ) → i < record_at → get_or u i 0 ≡ get_or ws i 0) (hs : (z : ℕ) → home_at u z ≡ home_at ws z) (lr : LitsRead (suc d) u x' y') (f : Followed k (v - 1) b u w) where
  mine : suc (v - 1) ≡ v
  mine = bit-of v mv.low

  small : v - 1 < max_vars
  small = let h = mv.high in let g = mv.low in let c = a.vars in omega arith

  abbrev known₁ : ℕ → Bool
  known₁ = vals f.begun known_at

  abbrev truth₁ : ℕ → Bool
  truth₁ = vals f.begun truth_at

  -- ---- the values with the literal's
  old_known : (i : ℕ) → i < max_vars → bit_at u known_at i ≡ a.known (suc i)
  old_known i l = bit_same ws u known_at known_at i (front (known_at + i / 64) (omega arith)) ∙ a.values.knows i l

  old_truth : (i : ℕ) → i < max_vars → bit_at u truth_at i ≡ a.truth (suc i)
  old_truth i l = bit_same ws u truth_at truth_at i (front (truth_at + i / 64) (omega arith)) ∙ a.values.trues i l

  old_within : Within u
  old_within i l e = old_known i l ∙ a.values.within i l (sym (old_truth i l) ∙ e)

  away : (z : ℕ) → Var n z → z ≢ v → (known₁ z ≡ a.known z) × (truth₁ z ≡ a.truth z)
  away zero mz e = absurd (not-suc-le-zero mz.low)
  away (suc i) mz e =
      let l : i < max_vars = let h = mz.high in let c = a.vars in omega arith in
      let q = same_ne (v - 1) i (λ p. e (ap suc (sym p) ∙ mine)) in
      (f.given.known i l ∙ rw q (or-false _ ∙ old_known i l), f.given.truth i l ∙ rw q (or-false _ ∙ old_truth i l))

  here_known : known₁ v ≡ true
  here_known = sym (ap known₁ mine) ∙ f.given.known (v - 1) small ∙ or_right (bit_at u known_at (v - 1)) _ (same_refl (v - 1))

  here_truth : truth₁ v ≡ b
  here_truth = sym (ap truth₁ mine) ∙ f.given.truth (v - 1) small ∙ rw (dark (bool_dec (bit_at u truth_at (v - 1))), same_refl (v - 1))
    where
      dark : (bit_at u truth_at (v - 1) ≡ true) ⊎ (bit_at u truth_at (v - 1) ≡ false) → bit_at u truth_at (v - 1) ≡ false
      dark (inr e) = e
      dark (inl e) = absurd (clash _ (old_within (v - 1) small e) (old_known (v - 1) small ∙ ap a.known mine ∙ un))

  -- what had a value has it still
  still : (z : ℕ) → Var n z → a.known z ≡ true → (known₁ z ≡ true) × (truth₁ z ≡ a.truth z)
  still z mz e = let q = away z mz (λ p. clash (a.known v) (ap a.known (sym p) ∙ e) un) in (q.0 ∙ e, q.1)

  before : (z : ℕ) → Var n z → z ≢ v → known₁ z ≡ true → a.known z ≡ true
  before z mz e h = sym (away z mz e).0 ∙ h

  started : Started n (suc d) x' y' k a.β known₁ truth₁
  started = record {
    on = at_or_not (suc d) d (λ j. (known₁ (x' j) ≡ true) × (truth₁ (x' j) ≡ y' j)) (ap known₁ x-new ∙ here_known, ap truth₁ x-new ∙ here_truth ∙ sym y-new) (λ j l e. on j (omega arith));
    off = λ z mz nz e. off z mz nz e (same_dec z v);
  }
    where
      on : (j : ℕ) → j < d → (known₁ (x' j) ≡ true) × (truth₁ (x' j) ≡ y' j)
      on j l =
          let s = a.made.settled.assumed (x j) (y j) (j, l, refl, refl) in
          let q = still (x j) (a.made.taken.var j l) s.0 in
          (ap known₁ (x-old j l) ∙ q.0, ap truth₁ (x-old j l) ∙ q.1 ∙ s.1 ∙ sym (y-old j l))

      off : (z : ℕ) → Var n z → NonBasic k a.β z → known₁ z ≡ true → (z ≡ v) ⊎ (z ≢ v) → (j : ℕ) × (j < suc d) × (x' j ≡ z)
      off z mz nz e (inl p) = (d, omega arith, x-new ∙ sym p)
      off z mz nz e (inr p) = let q = a.made.settled.free z mz nz (before z mz p e) in (q.0, let h = q.1 in omega arith, x-old q.0 q.1 ∙ q.2)

  -- ---- a row that had given its basic variable a value has not the variable v
  had : (r : ℕ) → r < k → known₁ (a.β r) ≡ true → Decides n (a.R r) (a.β r) known₁ × Holds n (a.R r) truth₁
  had r l e = (λ z mz h g. (still z mz (only z mz h g)).0, value_cong_on n (a.R r) truth₁ a.truth (λ z mz h. (still z mz (all z mz h (same_dec z (a.β r)))).1) ∙ a.made.settled.basic_value r l own)
    where
      own : a.known (a.β r) ≡ true
      own = before (a.β r) (a.made.built.tableau.var r l) (nb r l) e

      only : Decides n (a.R r) (a.β r) a.known
      only = a.made.settled.basic_only_if r l own

      all : (z : ℕ) → Var n z → a.R r z ≡ true → (z ≡ a.β r) ⊎ (z ≢ a.β r) → a.known z ≡ true
      all z mz h (inl p) = ap a.known p ∙ own
      all z mz h (inr p) = only z mz h p

  -- a row without the variable v has given what it gives
  done : (r : ℕ) → r < k → a.R r (suc (v - 1)) ≡ false → Decides n (a.R r) (a.β r) known₁ → known₁ (a.β r) ≡ true
  done r l e h = (still (a.β r) (a.made.built.tableau.var r l) (a.made.settled.basic_if r l (λ z mz g p. before z mz (λ q. clash (a.R r z) g (ap (a.R r) (q ∙ sym mine) ∙ e)) (h z mz g p)))).0

  rest₁ : (i : ℕ) → i < known_at → get_or f.begun i 0 ≡ get_or ws i 0
  rest₁ i h = f.given.rest i (inl h) ∙ front i (omega arith)

  rows₁ : RowsRead n k f.begun a.R a.β a.S
  rows₁ = rows_stay n k ws f.begun a.R a.β a.S a.few rest₁ a.rows

  values₁ : ValuesRead f.begun known₁ truth₁
  values₁ = record { knows = λ i l. refl; trues = λ i l. refl; within = put_within u f.begun (v - 1) b f.given old_within }

  rest : (i : ℕ) → (i < known_at) ⊎ (record_at ≤ i) → get_or w i 0 ≡ get_or f.begun i 0
  rest = follow_rest n k f.begun a.R a.β a.S known₁ truth₁ a.vars a.few a.made.built.tableau rows₁ values₁ had (v - 1) small done w f.settled

  last : (r : ℕ) → r < k → get_or w (last_at r) 0 ≡ get_or ws (last_at r) 0
  last r l = let c = a.few in rest (last_at r) (inl (omega arith)) ∙ rest₁ (last_at r) (omega arith)

  pub follow_made : MadeAt w n m Sheet kept (suc d) x' y' k
  follow_made =
      record {
        R = a.R;
        β = a.β;
        S = a.S;
        known = vals w known_at;
        truth = vals w truth_at;
        vars = a.vars;
        few = a.few;
        room = let h = a.room in omega arith;
        rows = rows_stay n k f.begun w a.R a.β a.S a.few (λ i h. rest i (inl h)) rows₁;
        values = record {
          knows = λ i l. refl;
          trues = λ i l. refl;
          within = follow_within n k f.begun a.R a.β a.S known₁ truth₁ a.vars a.few a.made.built.tableau rows₁ values₁ had (v - 1) small done w f.settled;
        };
        lits = lits_stay (suc d) u w x' y' (λ j l. entry_stay u w (λ i h. rest i (inr h) ∙ f.given.rest i (inr h)) j) lr;
        homes = homes_same k ws w (λ r l. ap (λ (z : ℕ). z / 2) (last r l)) (λ z. home_stay u w (λ i h. rest i (inr h) ∙ f.given.rest i (inr h)) z ∙ hs z) a.homes;
        made = settle_made n m Sheet kept k a.R a.β a.S a.made.built (suc d) x' y' t known₁ truth₁ _ _ started
            (follow_finished n k f.begun a.R a.β a.S known₁ truth₁ a.vars a.few a.made.built.tableau rows₁ values₁ had (v - 1) small done w f.settled);
      }
