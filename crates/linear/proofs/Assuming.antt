-- ASSUMING A LITERAL on a made state: what it answers, and what it leaves.
--   passed                    where the rows come from after an exchange
--   given, conflicts          what is known is what follows; what contradicts it is a conflict
--   satisfiable               some assignment satisfies the sheet and the literals
--   partner                   an unknown basic variable has an unknown partner in its row that is not basic
--   exchange_made, exchange_frees, taken_more   the exchange, and one literal more
-- Assumes nothing.
use mathlib.Core.Path.{◌≡◌, refl, sym, ap, ◌∙◌}
use mathlib.Core.Bool.{Bool, true, false, not, ◌&&◌}
use mathlib.Core.Logic.{◌⊎◌, inl, inr, ◌≢◌, ◌↔◌}
use Prim.Native.Nat.{ℕ, suc, ◌<◌}
use native.Mathlib.Omega.{arith}
use Rattle.gf2.specs.Field.{◌⊕◌, same}
use Rattle.gf2.specs.Rows.{Var, Row, Assignment}
use Rattle.linear.specs.Systems.{Assumptions, Agrees, Implied, Conflict, And, Literals, Sat, NonBasic, pivot, repoint}
use Rattle.gf2.proofs.Sums.{same_dec, bool_dec}
use Rattle.linear.proofs.Tableaux.{complete, solution, unknown_differs, row_open, other_free}
use Rattle.linear.proofs.Assume.{opposite, clash}
use Rattle.linear.proofs.Exchange.{at_or_not, repoint_at, repoint_other, exchange_settled}
use Rattle.linear.proofs.Pivot.{pivot_tableau}
use Rattle.linear.proofs.Insert.{pivot_provenance}
use Rattle.linear.specs.State.{Earlier, Taken, Made}
use Rattle.linear.proofs.Spans.{span_trans, pivot_span, implied_sheet, built_sat, xor_some, and_right}

-- where the rows come from after an exchange
abbrev pub passed : (ℕ → ℕ → Bool) → (ℕ → Row) → ℕ → ℕ → ℕ → ℕ → Bool
passed S R p u r q = S r q ⊕ (not (same r p) && R r u && S p q)

module _ (n m : ℕ) (Sheet : ℕ → Row) (kept : ℕ → Bool) (d : ℕ) (x : ℕ → ℕ) (y : ℕ → Bool) (k : ℕ) (R : ℕ → Row) (β : ℕ → ℕ) (S : ℕ → ℕ → Bool) (known truth : ℕ → Bool)
    (w : Made n m Sheet kept d x y k R β S known truth) where
  abbrev A : Assumptions
  A = Literals d x y

  -- ---- what is known is what follows
  pub given : (v : ℕ) (b : Bool) → Var n v → ((known v ≡ true) × (truth v ≡ b)) ↔ Implied n m Sheet A v b
  given v b mv =
      let c = complete n k R β w.built.tableau A known truth w.settled v b mv in
      let i = implied_sheet n m Sheet kept k R β S w.built A v b in
      (λ h. i.0 (c.0 h), λ h. c.1 (i.1 h))

  pub satisfiable : (a : Assignment) × Sat n m Sheet a × Agrees A a
  satisfiable =
      let a = solution n k R β w.built.tableau A known truth w.settled in
      (a.0, (built_sat n m Sheet kept k R β S w.built a.0).0 a.1, a.2)

  -- ---- the three answers
  pub conflicts : (v : ℕ) (b : Bool) → Var n v → ((known v ≡ true) × (truth v ≢ b)) ↔ Conflict n m Sheet (And A v b)
  conflicts v b mv = (λ h. opposite n m Sheet A v (truth v) b ((given v (truth v) mv).0 (h.0, refl)) h.1, λ c. go c (bool_dec (known v)))
    where
      -- a solution with the value b
      some : known v ≡ false → (a : Assignment) × Sat n k R a × Agrees A a × (a v ≡ b)
      some h = let u = unknown_differs n k R β w.built.tableau A known truth w.settled v h in pick u (bool_same (u.0 v) b)
        where
          bool_same : (p q : Bool) → (p ≡ q) ⊎ (not p ≡ q)
          bool_same true true = inl refl
          bool_same true false = inr refl
          bool_same false true = inr refl
          bool_same false false = inl refl

          pick : (u : (a c : Assignment) × (Sat n k R a × Agrees A a) × (Sat n k R c × Agrees A c) × (c v ≡ not (a v))) → (u.0 v ≡ b) ⊎ (not (u.0 v) ≡ b) → (a : Assignment) × Sat n k R a × Agrees A a × (a v ≡ b)
          pick u (inl e) = (u.0, u.2.0, u.2.1, e)
          pick u (inr e) = (u.1, u.3.0, u.3.1, u.4 ∙ e)

      more : (a : Assignment) → Agrees A a → a v ≡ b → Agrees (And A v b) a
      more a g e u c (inl h) = g u c h
      more a g e u c (inr h) = ap a h.0 ∙ e ∙ sym h.1

      go : Conflict n m Sheet (And A v b) → (known v ≡ true) ⊎ (known v ≡ false) → (known v ≡ true) × (truth v ≢ b)
      go c (inr h) = let s = some h in absurd (c s.0 ((built_sat n m Sheet kept k R β S w.built s.0).0 s.1) (more s.0 s.2 s.3))
      go c (inl h) = (h, λ e. let s = satisfiable in c s.0 s.1 (more s.0 s.2 ((given v b mv).0 (h, e) s.0 s.1 s.2)))

  -- ---- an unassigned basic variable has an unassigned partner, which is not basic
  pub partner : (r : ℕ) → r < k → known (β r) ≡ false → (u : ℕ) × Var n u × (R r u ≡ true) × (u ≢ β r) × (known u ≡ false) × NonBasic k β u
  partner r l h =
      let o = row_open n k R β w.built.tableau A known truth w.settled r l h in
      (o.0, o.1, o.2, o.3, o.4, other_free n k R β w.built.tableau r o.0 l o.2 o.3)

  -- ---- an exchange
  module _ (p u : ℕ) (l : p < k) (mu : Var n u) (e : R p u ≡ true) (du : u ≢ β p) (ku : known u ≡ false) (kp : known (β p) ≡ false) where
    pub exchange_made : Made n m Sheet kept d x y k (pivot R p u) (repoint β p u) (passed S R p u) known truth
    exchange_made =
        record {
          built =
              record {
                tableau = pivot_tableau n k R p u l β w.built.tableau mu e;
                from = pivot_provenance n k R m Sheet S p u l w.built.from;
                only = only;
                cover = λ j h. span_trans n k k R (pivot R p u) (Sheet j) (pivot_span n m Sheet kept k R β S p u l) (w.built.cover j h);
                count = w.built.count;
              };
          taken =
              record {
                var = w.taken.var;
                distinct = w.taken.distinct;
                apart = λ j h. at_or_not k p (λ r. repoint β p u r ≢ x j)
                    (rw (repoint_at β p u) (λ z. clash (known u) (ap known z ∙ (w.settled.assumed (x j) (y j) (j, h, refl, refl)).0) ku))
                    (λ r g ne. rw (repoint_other β p u r ne) (w.taken.apart j h r g));
              };
          settled = exchange_settled n k R β w.built.tableau A known truth w.settled p u l mu e du ku kp;
        }
      where
        only : (r : ℕ) → r < k → Earlier kept m (passed S R p u r)
        only r h j z = go (xor_some (S r j) (not (same r p) && R r u && S p j) z)
          where
            go : (S r j ≡ true) ⊎ (not (same r p) && R r u && S p j ≡ true) → (j < m) × (kept j ≡ true)
            go (inl g) = w.built.only r h j g
            go (inr g) = w.built.only p l j (and_right (not (same r p) && R r u) (S p j) g)

    -- the old basic variable is then free
    pub exchange_frees : NonBasic k (repoint β p u) (β p)
    exchange_frees =
        at_or_not k p (λ r. repoint β p u r ≢ β p) (rw (repoint_at β p u) du)
        (λ r g ne. rw (repoint_other β p u r ne) (λ z. clash (R r (β r)) (w.built.tableau.own r g) (rw (← z) at (w.built.tableau.alone p r l g (λ q. ne (sym q))))))

  -- ---- one more literal of a variable that is not basic and has no value
  pub taken_more : (v : ℕ) → Var n v → NonBasic k β v → known v ≡ false → (x' : ℕ → ℕ) → ((j : ℕ) → j < d → x' j ≡ x j) → x' d ≡ v → Taken n (suc d) x' k β
  taken_more v mv nb kv x' same-below at-d =
      record {
        var = at_or_not (suc d) d (λ j. Var n (x' j)) (rw at-d mv) (λ j h ne. rw (same-below j (omega arith)) (w.taken.var j (omega arith)));
        distinct = λ i j h g e. distinct i j h g e (same_dec i d) (same_dec j d);
        apart = at_or_not (suc d) d (λ j. NonBasic k β (x' j)) (rw at-d nb) (λ j h ne. rw (same-below j (omega arith)) (w.taken.apart j (omega arith)));
      }
    where
      new : (j : ℕ) → j < d → x' j ≢ v
      new j h e = clash (known v) (ap known (sym e ∙ same-below j h) ∙ (w.settled.assumed (x j) (y j) (j, h, refl, refl)).0) kv

      distinct : (i j : ℕ) → i < suc d → j < suc d → x' i ≡ x' j → (i ≡ d) ⊎ (i ≢ d) → (j ≡ d) ⊎ (j ≢ d) → i ≡ j
      distinct i j h g e (inl p) (inl q) = p ∙ sym q
      distinct i j h g e (inl p) (inr q) = absurd (new j (omega arith) (sym e ∙ ap x' p ∙ at-d))
      distinct i j h g e (inr p) (inl q) = absurd (new i (omega arith) (e ∙ ap x' q ∙ at-d))
      distinct i j h g e (inr p) (inr q) = w.taken.distinct i j (omega arith) (omega arith) (sym (same-below i (omega arith)) ∙ e ∙ same-below j (omega arith))
