-- AN EXCHANGE of two variables that have no value keeps the values settled: what assuming a basic variable does first.
--   at_or_not                     at one row, and at any other
--   repoint_.., pivot_keeps       what changes and what does not
--   exchange_settled
-- Assumes nothing.
use mathlib.Core.Path.{◌≡◌, sym, ◌∙◌, subst, fun_ext}
use mathlib.Core.Bool.{Bool, true, false, not, and-false, true≢false}
use mathlib.Core.Logic.{◌⊎◌, inl, inr, ◌≢◌}
use Prim.Native.Nat.{ℕ, ◌<◌}
use Rattle.gf2.specs.Field.{same}
use Rattle.gf2.specs.Rows.{Var, Row, Holds}
use Rattle.linear.specs.Systems.{Assumptions, Tableau, NonBasic, Settled, pivot, repoint, Decides}
use Rattle.gf2.proofs.Field.{xor_false}
use Rattle.gf2.proofs.Sums.{same_dec, same_refl, same_ne, bool_dec}
use Rattle.linear.proofs.Pivot.{pivot_own}

-- at p, and at any other row
pub at_or_not : (k p : ℕ) (P : ℕ → Type 0) → P p → ((r : ℕ) → r < k → r ≢ p → P r) → (r : ℕ) → r < k → P r
at_or_not k p P h f r l = go (same_dec r p)
  where
    go : (r ≡ p) ⊎ (r ≢ p) → P r
    go (inl e) = subst P (sym e) h
    go (inr d) = f r l d

pub repoint_at : (β : ℕ → ℕ) (p u : ℕ) → repoint β p u p ≡ u
unfolding repoint
repoint_at β p u = rw (same_refl p)

pub repoint_other : (β : ℕ → ℕ) (p u r : ℕ) → r ≢ p → repoint β p u r ≡ β r
unfolding repoint
repoint_other β p u r d = rw (same_ne r p d)

-- a row without column u is not changed
pub pivot_keeps : (R : ℕ → Row) (p u r : ℕ) → R r u ≡ false → pivot R p u r ≡ R r
unfolding pivot
pivot_keeps R p u r h = fun_ext (λ v. rw (h, and-false (not (same r p)), xor_false (R r v)))

module _ (n k : ℕ) (R : ℕ → Row) (β : ℕ → ℕ) (t : Tableau n k R β) (A : Assumptions) (known truth : ℕ → Bool) (s : Settled n k R β A known truth)
    (p u : ℕ) (l : p < k) (m : Var n u) (e : R p u ≡ true) (du : u ≢ β p) (ku : known u ≡ false) (kp : known (β p) ≡ false) where
  clash : (b : Bool) → b ≡ true → b ≡ false → ⊥
  clash b x y = true≢false (sym x ∙ y)

  -- u is basic in no other row
  not_basic : (r : ℕ) → r < k → r ≢ p → u ≢ β r
  not_basic r x d f = clash (R p u) e (rw f (t.alone r p x l d))

  -- a row whose basic variable has a value does not have u
  clean : (r : ℕ) → r < k → r ≢ p → known (β r) ≡ true → R r u ≡ false
  clean r x d h = go (bool_dec (R r u))
    where
      go : (R r u ≡ true) ⊎ (R r u ≡ false) → R r u ≡ false
      go (inl f) = absurd (clash (known u) (s.basic_only_if r x h u m f (not_basic r x d)) ku)
      go (inr f) = f

  -- a row that has u has the old basic variable of row p afterwards
  gains : (r : ℕ) → r < k → r ≢ p → R r u ≡ true → pivot R p u r (β p) ≡ true
  unfolding pivot
  gains r x d f = rw (same_ne r p d, f, t.own p l, t.alone p r l x (λ z. d (sym z)))

  exchange_if : (r : ℕ) → r < k → ((v : ℕ) → Var n v → pivot R p u r v ≡ true → v ≢ repoint β p u r → known v ≡ true) → known (repoint β p u r) ≡ true
  exchange_if =
      at_or_not k p (λ r. ((v : ℕ) → Var n v → pivot R p u r v ≡ true → v ≢ repoint β p u r → known v ≡ true) → known (repoint β p u r) ≡ true)
      (rw (repoint_at β p u) (λ h. absurd (clash _ (h (β p) (t.var p l) (pivot_own n k R p u l (β p) ∙ t.own p l) (λ z. du (sym z))) kp)))
      (λ r x d. rw (repoint_other β p u r d) (go r x d (bool_dec (R r u))))
    where
      go : (r : ℕ) → r < k → r ≢ p → (R r u ≡ true) ⊎ (R r u ≡ false) → Decides n (pivot R p u r) (β r) known → known (β r) ≡ true
      go r x d (inl f) = λ h. absurd (clash _ (h (β p) (t.var p l) (gains r x d f) (λ z. clash _ (t.own r x) (rw z at (t.alone p r l x (λ y. d (sym y)))))) kp)
      go r x d (inr f) = rw (pivot_keeps R p u r f) (s.basic_if r x)

  exchange_only_if : (r : ℕ) → r < k → known (repoint β p u r) ≡ true → (v : ℕ) → Var n v → pivot R p u r v ≡ true → v ≢ repoint β p u r → known v ≡ true
  exchange_only_if =
      at_or_not k p (λ r. known (repoint β p u r) ≡ true → (v : ℕ) → Var n v → pivot R p u r v ≡ true → v ≢ repoint β p u r → known v ≡ true)
      (rw (repoint_at β p u) (λ h. absurd (clash _ h ku)))
      (λ r x d. rw (repoint_other β p u r d) (λ h. rw (pivot_keeps R p u r (clean r x d h)) (s.basic_only_if r x h)))

  exchange_value : (r : ℕ) → r < k → known (repoint β p u r) ≡ true → Holds n (pivot R p u r) truth
  exchange_value =
      at_or_not k p (λ r. known (repoint β p u r) ≡ true → Holds n (pivot R p u r) truth)
      (rw (repoint_at β p u) (λ h. absurd (clash _ h ku)))
      (λ r x d. rw (repoint_other β p u r d) (λ h. rw (pivot_keeps R p u r (clean r x d h)) (s.basic_value r x h)))

  exchange_free : (v : ℕ) → Var n v → NonBasic k (repoint β p u) v → known v ≡ true → A v (truth v)
  exchange_free v y h kv =
      s.free v y (at_or_not k p (λ r. β r ≢ v) (λ z. clash _ kv (rw (← z) kp)) (λ r x d. rw (repoint_other β p u r d) at (h r x))) kv

  pub exchange_settled : Settled n k (pivot R p u) (repoint β p u) A known truth
  exchange_settled = record { assumed = s.assumed; free = exchange_free; basic_if = exchange_if; basic_only_if = exchange_only_if; basic_value = exchange_value }
