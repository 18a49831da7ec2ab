-- A NEW ROW into a tableau, and where the rows come from.
--   extend_.., reduce_..          one row more; a row with its basic variables removed
--   insert_tableau, insert_sat    the tableau and its solutions afterwards
--   combine_..                    sums of sums
--   pivot_provenance, reduce_provenance   where the rows come from; reason: the other variables of a row that gives a value are assumed
-- Assumes nothing.
use mathlib.Core.Path.{◌≡◌, sym, ap, ap₂, ◌∙◌, fun_ext}
use mathlib.Core.Bool.{Bool, true, false, not, ◌&&◌, and-false, and-true, and_comm, and_assoc}
use mathlib.Core.Logic.Iff
use mathlib.Core.Logic.{◌⊎◌, inl, inr, ◌≢◌, ◌↔◌}
use Prim.Native.Nat.{ℕ, suc, ◌<◌}
use native.Mathlib.Omega.{arith}
use Rattle.gf2.specs.Field.{◌⊕◌, same}
use Rattle.gf2.specs.Rows.{Var, Row, Assignment, row_sum, Holds, SameRow, SameCoefs}
use Rattle.linear.specs.Systems.{Assumptions, Sat, combine, Tableau, Settled, pivot, repoint, reduce, extend, Provenance}
use Rattle.gf2.proofs.Field.{xor_self, xor_and}
use Rattle.gf2.proofs.Sums.{sum_cong, sum_one, sum_xor, sum_and, and_sum, sum_swap, same_dec, same_comm, same_refl, same_ne}
use Rattle.gf2.proofs.Sat.{row_zero, row_cong}
use Rattle.linear.proofs.Combine.{combine_sound, combine_xor}
use Rattle.linear.proofs.Tableaux.{basic_row, other_free}
use Rattle.linear.proofs.Exchange.{at_or_not, repoint_at, repoint_other}
use Rattle.linear.proofs.Pivot.{add_holds, pivot_sat}

pub extend_at : (R : ℕ → Row) (k : ℕ) (c : Row) → extend R k c k ≡ c
unfolding extend
extend_at R k c = fun_ext (λ v. rw (same_refl k))

pub extend_other : (R : ℕ → Row) (k : ℕ) (c : Row) (r : ℕ) → r ≢ k → extend R k c r ≡ R r
unfolding extend
extend_other R k c r d = fun_ext (λ v. rw (same_ne r k d))

pub below : (k r : ℕ) → r < suc k → r ≢ k → r < k
below k r l d = omega arith

pub extend_sat : (n k : ℕ) (R : ℕ → Row) (c : Row) (a : Assignment) → Sat n (suc k) (extend R k c) a ↔ (Sat n k R a × Holds n c a)
extend_sat n k R c a = (
  λ h. (λ r l. rw (extend_other R k c r (omega arith)) at (h r (omega arith)), rw (extend_at R k c) at (h k (omega arith))),
  λ h. at_or_not (suc k) k (λ r. Holds n (extend R k c r) a) (rw (extend_at R k c) h.1) (λ r l d. rw (extend_other R k c r d) (h.0 r (below k r l d))),
)

module _ (n k : ℕ) (R : ℕ → Row) (β : ℕ → ℕ) (t : Tableau n k R β) where
  -- the selection of a sum is read off at the basic variables
  pub combine_basic : (s : ℕ → Bool) (q : ℕ) → q < k → combine k s R (β q) ≡ s q
  unfolding combine
  combine_basic s q m = sum_cong k _ _ (λ r l. rw (basic_row n k R β t q r m l, same_comm r q) (and_comm (s r) (same q r))) ∙ sum_one k q s m

  pub reduce_basic : (c : Row) (q : ℕ) → q < k → reduce k R β c (β q) ≡ false
  unfolding reduce
  reduce_basic c q m = rw (combine_basic (λ r. c (β r)) q m, xor_self (c (β q)))

  -- under the rows, a row holds if it holds reduced
  pub reduce_holds : (c : Row) (a : Assignment) → Sat n k R a → Holds n c a ↔ Holds n (reduce k R β c) a
  unfolding reduce
  reduce_holds c a h = add_holds n true c (combine k (λ r. c (β r)) R) a (combine_sound n k (λ r. c (β r)) R a h)

  -- nothing is left of the row: it holds, or it does not, by its parity
  pub reduce_none : (c : Row) (a : Assignment) → Sat n k R a → SameCoefs n (reduce k R β c) (λ v. false) → Holds n c a ↔ (reduce k R β c 0 ≡ false)
  reduce_none c a h e =
      (λ x. sym ((reduce_holds c a h).0 x) ∙ nothing, λ y. (reduce_holds c a h).1 (nothing ∙ sym y))
    where
      nothing : row_sum n (reduce k R β c) a ≡ false
      nothing = row_cong n _ (λ v. false) a e ∙ row_zero n a

  -- else one of its variables becomes basic in it
  module _ (c : Row) (u : ℕ) (m : Var n u) (e : c u ≡ true) (z : (q : ℕ) → q < k → c (β q) ≡ false) where
    insert_own : (r : ℕ) → r < suc k → pivot (extend R k c) k u r (repoint β k u r) ≡ true
    unfolding pivot
    insert_own =
        at_or_not (suc k) k (λ r. pivot (extend R k c) k u r (repoint β k u r) ≡ true)
        (rw (repoint_at β k u, same_refl k, extend_at R k c, e))
        (λ r l d. rw (repoint_other β k u r d, same_ne r k d, extend_at R k c, extend_other R k c r d, t.own r (below k r l d), z r (below k r l d), and-false (R r u)))

    insert_alone : (r q : ℕ) → r < suc k → q < suc k → r ≢ q → pivot (extend R k c) k u q (repoint β k u r) ≡ false
    unfolding pivot
    insert_alone r q l h d = go (same_dec r k) (same_dec q k)
      where
        go : (r ≡ k) ⊎ (r ≢ k) → (q ≡ k) ⊎ (q ≢ k) → pivot (extend R k c) k u q (repoint β k u r) ≡ false
        go (inl x) (inl y) = absurd (d (x ∙ sym y))
        go (inl x) (inr y) = rw (x, repoint_at β k u, same_ne q k y, extend_at R k c, extend_other R k c q y, e, and-true (R q u), xor_self (R q u))
        go (inr x) (inl y) = rw (y, repoint_other β k u r x, same_refl k, extend_at R k c, z r (below k r l x))
        go (inr x) (inr y) = rw (repoint_other β k u r x, same_ne q k y, extend_at R k c, extend_other R k c q y, t.alone r q (below k r l x) (below k q h y) d, z r (below k r l x), and-false (R q u))

    pub insert_tableau : Tableau n (suc k) (pivot (extend R k c) k u) (repoint β k u)
    insert_tableau =
        record {
          var = at_or_not (suc k) k (λ r. Var n (repoint β k u r)) (rw (repoint_at β k u) m) (λ r l d. rw (repoint_other β k u r d) (t.var r (below k r l d)));
          own = insert_own;
          alone = insert_alone;
        }

-- a row added to another adds the selections
pub combine_add : (K : ℕ) (Sheet : ℕ → Row) (h : Bool) (s t : ℕ → Bool) (v : ℕ) → combine K (λ q. s q ⊕ (h && t q)) Sheet v ≡ combine K s Sheet v ⊕ (h && combine K t Sheet v)
unfolding combine
combine_add K Sheet h s t v = simp (xor_and, sum_xor, and_assoc, sum_and)

-- an exchange adds the selections as it adds the rows
pub pivot_provenance : (n k : ℕ) (R : ℕ → Row) (K : ℕ) (Sheet : ℕ → Row) (S : ℕ → ℕ → Bool) (p u : ℕ) → p < k → Provenance n k R K Sheet S
    → Provenance n k (pivot R p u) K Sheet (λ r q. S r q ⊕ (not (same r p) && R r u && S p q))
unfolding pivot
pivot_provenance n k R K Sheet S p u l h r m v x =
    rw (h r m v x, h p l v x) (sym (combine_add K Sheet (not (same r p) && R r u) (S r) (S p) v))

-- the reason of a value: the other variables of the row are assumed
pub reason : (n k : ℕ) (R : ℕ → Row) (β : ℕ → ℕ) → Tableau n k R β → (A : Assumptions) (known truth : ℕ → Bool) → Settled n k R β A known truth
    → (r : ℕ) → r < k → known (β r) ≡ true → (v : ℕ) → Var n v → R r v ≡ true → v ≢ β r → A v (truth v)
reason n k R β t A known truth s r l h v m e d = s.free v m (other_free n k R β t r v l e d) (s.basic_only_if r l h v m e d)

-- ---- one more row of the sheet: the solutions, and where the new row comes from
pub insert_sat : (n k : ℕ) (R : ℕ → Row) (β : ℕ → ℕ) → Tableau n k R β → (c : Row) (u : ℕ) (a : Assignment)
    → (Sat n k R a × Holds n c a) ↔ Sat n (suc k) (pivot (extend R k (reduce k R β c)) k u) a
insert_sat n k R β t c u a =
    Iff.trans (λ h. (h.0, (reduce_holds n k R β t c a h.0).0 h.1), λ h. (h.0, (reduce_holds n k R β t c a h.0).1 h.1))
    (Iff.trans (Iff.symm (extend_sat n k R (reduce k R β c) a)) (pivot_sat n (suc k) (extend R k (reduce k R β c)) k u (omega arith) a))

-- a sum of sums is a sum: the selections add up as the rows do
pub combine_combine : (k K : ℕ) (s : ℕ → Bool) (S : ℕ → ℕ → Bool) (Sheet : ℕ → Row) (v : ℕ)
    → combine K (combine k s S) Sheet v ≡ combine k s (λ r. combine K (S r) Sheet) v
unfolding combine
combine_combine k K s S Sheet v = simp (and_sum, and_assoc) (sum_swap K k (λ q r. s r && (S r q && Sheet q v)) ∙ simp sum_and)

pub combine_cong : (k : ℕ) (s : ℕ → Bool) (R L : ℕ → Row) (v : ℕ) → ((r : ℕ) → r < k → R r v ≡ L r v) → combine k s R v ≡ combine k s L v
unfolding combine
combine_cong k s R L v h = sum_cong k _ _ (λ r l. ap (λ (x : Bool). s r && x) (h r l))

pub combine_one : (K q : ℕ) (Sheet : ℕ → Row) (v : ℕ) → q < K → combine K (same q) Sheet v ≡ Sheet q v
unfolding combine
combine_one K q Sheet v l = sum_one K q (λ r. Sheet r v) l

-- row q of the sheet, reduced, comes from row q and from where the rows that it was reduced by come from
pub reduce_provenance : (n k : ℕ) (R : ℕ → Row) (β : ℕ → ℕ) (K : ℕ) (Sheet : ℕ → Row) (S : ℕ → ℕ → Bool) → Provenance n k R K Sheet S → (q : ℕ) → q < K
    → SameRow n (reduce k R β (Sheet q)) (combine K (λ j. same q j ⊕ combine k (λ r. Sheet q (β r)) S j) Sheet)
unfolding reduce
reduce_provenance n k R β K Sheet S h q l v x =
    sym
    (combine_xor K (same q) (combine k (λ r. Sheet q (β r)) S) Sheet v
    ∙ ap₂ ◌⊕◌ (combine_one K q Sheet v l)
    (combine_combine k K (λ r. Sheet q (β r)) S Sheet v ∙ combine_cong k (λ r. Sheet q (β r)) (λ r. combine K (S r) Sheet) R v (λ r m. sym (h r m v x))))
