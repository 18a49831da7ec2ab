-- SUMS OF SUMS; the rows that a tableau was built from have its solutions.
--   span_..                        sums of spanned rows
--   earlier_..                     selections of kept rows
--   built_sat, implied_sheet       the same solutions, the same implied values
--   pivot_span                     the rows before an exchange are sums of those after it
-- Assumes nothing.
use mathlib.Core.Path.{◌≡◌, refl, sym, ap, ap₂, ◌∙◌}
use mathlib.Core.Bool.{Bool, true, false, not, ◌&&◌, true≢false, false≢true}
use mathlib.Core.Logic.{◌⊎◌, inl, inr, ◌≢◌, ◌↔◌}
use Prim.Native.Nat.{ℕ, zero, suc, ◌<◌, ◌≤◌, zero-le, suc-le-suc}
use native.Mathlib.Nat.{le_of_suc-le-suc, not-suc-le-zero, zero-lt-suc}
use native.Mathlib.Omega.{arith}
use Rattle.gf2.specs.Field.{◌⊕◌, xsum, same}
use Rattle.gf2.specs.Rows.{Row, Assignment, Holds, SameRow, SameCoefs}
use Rattle.linear.specs.Systems.{Assumptions, Implied, Sat, combine, Spanned, pivot}
use Rattle.gf2.proofs.Field.{field}
use Rattle.gf2.proofs.Sums.{sum_cong, sum_false, same_dec, same_refl, same_ne, bool_dec, find}
use Rattle.gf2.proofs.Sat.{row_cong}
use Rattle.linear.proofs.Combine.{combine_sound, combine_xor}
use Rattle.linear.proofs.Insert.{combine_combine, combine_cong, combine_one, combine_add}
use Rattle.linear.proofs.Pivot.{pivot_own}
use Rattle.linear.specs.State.{Earlier, Summed, KeptPlaces, Built}

-- a selection for each row below k
pub selections : (k : ℕ) (P : ℕ → (ℕ → Bool) → Type 0) → ((r : ℕ) → r < k → (s : ℕ → Bool) × P r s) → (S : ℕ → ℕ → Bool) × ((r : ℕ) → r < k → P r (S r))
selections zero P f = (λ r j. false, λ r l. absurd (not-suc-le-zero l))
selections (suc k) P f = go (f 0 (zero-lt-suc k)) (selections k (λ r. P (suc r)) (λ r l. f (suc r) (suc-le-suc l)))
  where
    go : ((s : ℕ → Bool) × P 0 s) → ((S : ℕ → ℕ → Bool) × ((r : ℕ) → r < k → P (suc r) (S r))) → (S : ℕ → ℕ → Bool) × ((r : ℕ) → r < suc k → P r (S r))
    go one rest = (pick, all)
      where
        pick : ℕ → ℕ → Bool
        pick zero = one.0
        pick (suc r) = rest.0 r

        all : (r : ℕ) → r < suc k → P r (pick r)
        all zero l = one.1
        all (suc r) l = rest.1 r (le_of_suc-le-suc l)

-- a sum of spanned rows is spanned
pub span_sum : (n k K : ℕ) (R L : ℕ → Row) → ((r : ℕ) → r < k → Spanned n K L (R r)) → (s : ℕ → Bool) → Spanned n K L (combine k s R)
span_sum n k K R L h s =
    let w = selections k (λ r t. SameRow n (combine K t L) (R r)) h in (
      combine k s w.0,
      λ v l. combine_combine k K s w.0 L v ∙ combine_cong k s (λ r. combine K (w.0 r) L) R v (λ r x. w.1 r x v l),
    )

pub span_same : (n K : ℕ) (L : ℕ → Row) (c d : Row) → Spanned n K L c → SameRow n c d → Spanned n K L d
span_same n K L c d w h = (w.0, λ v l. w.1 v l ∙ h v l)

pub span_trans : (n k K : ℕ) (R L : ℕ → Row) (c : Row) → ((r : ℕ) → r < k → Spanned n K L (R r)) → Spanned n k R c → Spanned n K L c
span_trans n k K R L c h w = span_same n K L (combine k w.0 R) c (span_sum n k K R L h w.0) w.1

pub same_holds : (n : ℕ) (c d : Row) (a : Assignment) → SameRow n c d → Holds n c a → Holds n d a
same_holds n c d a h e = sym (row_cong n c d a (λ v l. h v l.high)) ∙ e ∙ h 0 zero-le

pub span_holds : (n k : ℕ) (R : ℕ → Row) (c : Row) (a : Assignment) → Spanned n k R c → Sat n k R a → Holds n c a
span_holds n k R c a w h = same_holds n (combine k w.0 R) c a w.1 (combine_sound n k w.0 R a h)

-- a sum that is 1 has a part that is 1
pub sum_some : (k : ℕ) (f : ℕ → Bool) → xsum k f ≡ true → (r : ℕ) × (r < k) × (f r ≡ true)
sum_some k f h = go (find (λ r. f r ≡ true) (λ r. f r ≡ false) k (λ r l. bool_dec (f r)))
  where
    go : ((r : ℕ) × (r < k) × (f r ≡ true)) ⊎ ((r : ℕ) → r < k → f r ≡ false) → (r : ℕ) × (r < k) × (f r ≡ true)
    go (inl w) = w
    go (inr z) = absurd (true≢false (sym h ∙ sum_cong k f (λ r. false) z ∙ sum_false k))

pub and_left : (a b : Bool) → a && b ≡ true → a ≡ true
and_left true b h = refl
and_left false b h = h

pub and_right : (a b : Bool) → a && b ≡ true → b ≡ true
and_right true b h = h
and_right false b h = absurd (false≢true h)

pub xor_some : (a b : Bool) → a ⊕ b ≡ true → (a ≡ true) ⊎ (b ≡ true)
xor_some true b h = inl refl
xor_some false b h = inr h

-- ---- selections of kept rows
pub earlier_sum : (kept : ℕ → Bool) (q k : ℕ) (s : ℕ → Bool) (S : ℕ → ℕ → Bool) → ((r : ℕ) → r < k → Earlier kept q (S r)) → Earlier kept q (combine k s S)
unfolding combine
earlier_sum kept q k s S f j e = let w = sum_some k (λ r. s r && S r j) e in f w.0 w.1 j (and_right (s w.0) (S w.0 j) w.2)

pub earlier_less : (kept : ℕ → Bool) (q : ℕ) (s : ℕ → Bool) → Earlier kept (suc q) s → s q ≡ false → Earlier kept q s
earlier_less kept q s f e j h = (let l = (f j h).0 in let d : j ≢ q = λ z. true≢false (sym h ∙ ap s z ∙ e) in omega arith, (f j h).1)

-- ---- kept rows are independent
module _ (n m : ℕ) (Sheet : ℕ → Row) (kept : ℕ → Bool) (kp : KeptPlaces n m Sheet kept) where
  independent_below : (q : ℕ) → q ≤ m → (s : ℕ → Bool) → Earlier kept q s → SameCoefs n (combine m s Sheet) (λ v. false) → (j : ℕ) → s j ≡ false
  independent_below zero l s f z j = go (bool_dec (s j))
    where
      go : (s j ≡ true) ⊎ (s j ≡ false) → s j ≡ false
      go (inl e) = absurd (not-suc-le-zero (f j e).0)
      go (inr e) = e
  independent_below (suc q) l s f z j = go (bool_dec (s q)) (independent_below q (omega arith) s)
    where
      without : s q ≡ true → Summed n m Sheet kept q (λ i. s i ⊕ same q i)
      without e = (
        earlier_less kept q (λ i. s i ⊕ same q i) (λ i h. part i h (xor_some (s i) (same q i) h)) (rw (e, same_refl q)),
        λ v x. combine_xor m s (same q) Sheet v ∙ rw (z v x) (combine_one m q Sheet v l),
      )
        where
          part : (i : ℕ) → s i ⊕ same q i ≡ true → (s i ≡ true) ⊎ (same q i ≡ true) → (i < suc q) × (kept i ≡ true)
          part i h (inl x) = f i x
          part i h (inr x) = go (same_dec q i)
            where
              go : (q ≡ i) ⊎ (q ≢ i) → (i < suc q) × (kept i ≡ true)
              go (inl y) = (omega arith, ap kept (sym y) ∙ (f q e).1)
              go (inr y) = absurd (true≢false (sym x ∙ same_ne q i y))

      go : (s q ≡ true) ⊎ (s q ≡ false) → (Earlier kept q s → SameCoefs n (combine m s Sheet) (λ v. false) → (i : ℕ) → s i ≡ false) → s j ≡ false
      go (inl e) g = absurd (kp.chosen q l (f q e).1 (λ i. s i ⊕ same q i) (without e))
      go (inr e) g = g (earlier_less kept q s f e) z j

-- ---- solutions
module _ (n m : ℕ) (Sheet : ℕ → Row) (kept : ℕ → Bool) (k : ℕ) (R : ℕ → Row) (β : ℕ → ℕ) (S : ℕ → ℕ → Bool) where
  pub built_sat : Built n m Sheet kept m k R β S → (a : Assignment) → Sat n k R a ↔ Sat n m Sheet a
  built_sat b a = (
    λ h j l. span_holds n k R (Sheet j) a (b.cover j l) h,
    λ h r l. span_holds n m Sheet (R r) a (S r, λ v x. sym (b.from r l v x)) h,
  )

  pub implied_sheet : Built n m Sheet kept m k R β S → (A : Assumptions) (v : ℕ) (c : Bool) → Implied n k R A v c ↔ Implied n m Sheet A v c
  implied_sheet b A v c = (λ i a h g. i a ((built_sat b a).1 h) g, λ i a h g. i a ((built_sat b a).0 h) g)

  -- an exchange
  pivot_back : (p u r v : ℕ) → pivot R p u r v ⊕ (not (same r p) && R r u && R p v) ≡ R r v
  unfolding pivot
  pivot_back p u r v = simp field

  pub pivot_span : (p u : ℕ) → p < k → (r : ℕ) → r < k → Spanned n k (pivot R p u) (R r)
  pivot_span p u l r x = (
    λ q. same r q ⊕ (not (same r p) && R r u && same p q),
    λ v y. combine_add k (pivot R p u) (not (same r p) && R r u) (same r) (same p) v
        ∙ ap₂ (λ (a b : Bool). a ⊕ (not (same r p) && R r u && b)) (combine_one k r (pivot R p u) v x) (combine_one k p (pivot R p u) v l ∙ pivot_own n k R p u l v)
        ∙ pivot_back p u r v,
  )
