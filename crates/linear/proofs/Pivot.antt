-- AN EXCHANGE keeps the solutions and the tableau (document 003).
--   add_holds, pivot_own          one row added to another; the row of the exchange stays
--   pivot_sat, pivot_tableau
-- Assumes nothing.
use mathlib.Core.Path.{◌≡◌, sym, ap, ◌∙◌, subst, fun_ext}
use mathlib.Core.Bool.{Bool, true, false, not, ◌&&◌, and-false, and-true}
use mathlib.Core.Logic.{◌⊎◌, inl, inr, ◌≢◌, ◌↔◌}
use Prim.Native.Nat.{ℕ, ◌<◌}
use Rattle.gf2.specs.Field.{◌⊕◌, same}
use Rattle.gf2.specs.Rows.{Var, Row, Assignment, row_sum, Holds}
use Rattle.linear.specs.Systems.{Sat, Tableau, pivot, repoint}
use Rattle.gf2.proofs.Field.{xor_right, xor_false, xor_self}
use Rattle.gf2.proofs.Sums.{same_dec, same_refl, same_ne}
use Rattle.gf2.proofs.Sat.{row_xor, row_and}

module _ (n : ℕ) where
  -- a row that holds, added or not to another, does not change whether that holds
  add_sum : (h : Bool) (c d : Row) (a : Assignment) → Holds n d a → row_sum n (λ v. c v ⊕ (h && d v)) a ≡ row_sum n c a ⊕ (h && d 0)
  add_sum h c d a e = rw (row_xor n c (λ v. h && d v) a, row_and n h d a, e)

  pub add_holds : (h : Bool) (c d : Row) (a : Assignment) → Holds n d a → Holds n c a ↔ Holds n (λ v. c v ⊕ (h && d v)) a
  add_holds h c d a e = (λ x. add_sum h c d a e ∙ ap (λ (y : Bool). y ⊕ (h && d 0)) x, λ y. xor_right _ _ (h && d 0) (sym (add_sum h c d a e) ∙ y))

  module _ (k : ℕ) (R : ℕ → Row) (p u : ℕ) (l : p < k) where
    pub pivot_own : (v : ℕ) → pivot R p u p v ≡ R p v
    unfolding pivot
    pivot_own v = rw (same_refl p, xor_false)

    pub pivot_sat : (a : Assignment) → Sat n k R a ↔ Sat n k (pivot R p u) a
    unfolding pivot
    pivot_sat a = (λ h r m. (add_holds (not (same r p) && R r u) (R r) (R p) a (h p l)).0 (h r m), λ h r m. (add_holds (not (same r p) && R r u) (R r) (R p) a (subst (λ (c : Row). Holds n c a) (fun_ext pivot_own) (h p l))).1 (h r m))

    pub pivot_tableau : (β : ℕ → ℕ) → Tableau n k R β → Var n u → R p u ≡ true → Tableau n k (pivot R p u) (repoint β p u)
    unfolding pivot repoint
    pivot_tableau β t m e = record { var = λ r x. var r x (same_dec r p); own = λ r x. own r x (same_dec r p); alone = λ r q x y d. alone r q x y d (same_dec r p) }
      where
        var : (r : ℕ) → r < k → (r ≡ p) ⊎ (r ≢ p) → Var n (repoint β p u r)
        var r x (inl d) = rw (d, same_refl p) m
        var r x (inr d) = rw (same_ne r p d) (t.var r x)

        own : (r : ℕ) → r < k → (r ≡ p) ⊎ (r ≢ p) → pivot R p u r (repoint β p u r) ≡ true
        own r x (inl d) = rw (d, same_refl p, e)
        own r x (inr d) = rw (same_ne r p d, t.own r x, t.alone r p x l d, and-false (R r u))

        alone : (r q : ℕ) → r < k → q < k → r ≢ q → (r ≡ p) ⊎ (r ≢ p) → pivot R p u q (repoint β p u r) ≡ false
        alone r q x y d (inl f) = rw (f, same_refl p, same_ne q p (λ z. d (f ∙ sym z)), e, and-true (R q u), xor_self (R q u))
        alone r q x y d (inr f) = rw (same_ne r p f, t.alone r q x y d, t.alone r p x l f, and-false (not (same q p) && R q u))
