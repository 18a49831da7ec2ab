-- KEPT ROWS AND TAKEN LITERALS together are no more than the variables: the bounds that refusal 11 and the record ask for.
--   pigeon     d different numbers below n: d is at most n
--   room       kept rows and taken literals
--   tally_le   the kept count is at most the number of rows
-- Assumes nothing.
use mathlib.Core.Path.{◌≡◌, refl, sym, ap, ◌∙◌}
use mathlib.Core.Bool.{Bool, true, false, cond}
use mathlib.Core.Logic.{◌⊎◌, inl, inr, ◌≢◌}
use Prim.Native.Nat.{ℕ, zero, suc, ◌+◌, ◌-◌, ◌<◌, ◌≤◌}
use native.Mathlib.Nat.{not-suc-le-zero}
use native.Mathlib.Decide.{dec_lt}
use native.Mathlib.Omega.{arith}
use Rattle.gf2.specs.Field.{same}
use Rattle.linear.specs.State.{one_if, tally, Taken}
use Rattle.gf2.specs.Rows.{Var, Row}
use Rattle.linear.specs.Systems.{Tableau}
use Rattle.gf2.proofs.Sums.{same_dec, same_refl, same_ne, find}
use Rattle.linear.proofs.Assume.{clash}

abbrev OneToOne : ℕ → (ℕ → ℕ) → Type 0
OneToOne d x = (i j : ℕ) → i < d → j < d → x i ≡ x j → i ≡ j

-- x with the last value in place of that at j
moved : (ℕ → ℕ) → ℕ → ℕ → ℕ → ℕ
moved x d j i = cond (same i j) (x d) (x i)

moved_at : (x : ℕ → ℕ) (d j i : ℕ) → i ≡ j → moved x d j i ≡ x d
unfolding moved
moved_at x d j i e = rw (e, same_refl j)

moved_other : (x : ℕ → ℕ) (d j i : ℕ) → i ≢ j → moved x d j i ≡ x i
unfolding moved
moved_other x d j i e = rw (same_ne i j e)

pub pigeon : (n d : ℕ) (x : ℕ → ℕ) → ((j : ℕ) → j < d → x j < n) → OneToOne d x → d ≤ n
pigeon zero zero x h u = omega arith
pigeon zero (suc d) x h u = absurd (not-suc-le-zero (h 0 (omega arith)))
pigeon (suc n) d x h u = go (find (λ j. x j ≡ n) (λ j. x j ≢ n) d (λ j l. same_dec (x j) n)) (λ e y g v. pigeon n e y g v)
  where
    go : ((j : ℕ) × (j < d) × (x j ≡ n)) ⊎ ((j : ℕ) → j < d → x j ≢ n) → ((e : ℕ) (y : ℕ → ℕ) → ((j : ℕ) → j < e → y j < n) → OneToOne e y → e ≤ n) → d ≤ suc n
    go (inr f) ih = let z = ih d x (λ j l. let a = h j l in let b : x j ≢ n = f j l in omega arith) u in omega arith
    go (inl w) ih = let z = ih (d - 1) (moved x (d - 1) w.0) small one in omega arith
      where
        -- a place other than that of n has a smaller value
        smaller : (i : ℕ) → i < d → i ≢ w.0 → x i < n
        smaller i l e = let a = h i l in let b : x i ≢ n = λ z. e (u i w.0 l w.1 (z ∙ sym w.2)) in omega arith

        small : (i : ℕ) → i < d - 1 → moved x (d - 1) w.0 i < n
        small i l = at (same_dec i w.0)
          where
            at : (i ≡ w.0) ⊎ (i ≢ w.0) → moved x (d - 1) w.0 i < n
            at (inl e) = rw (moved_at x (d - 1) w.0 i e) (smaller (d - 1) (omega arith) (λ (z : d - 1 ≡ w.0). absurd (omega arith)))
            at (inr e) = rw (moved_other x (d - 1) w.0 i e) (smaller i (omega arith) e)

        one : OneToOne (d - 1) (moved x (d - 1) w.0)
        one i j l k e = at (same_dec i w.0) (same_dec j w.0)
          where
            at : (i ≡ w.0) ⊎ (i ≢ w.0) → (j ≡ w.0) ⊎ (j ≢ w.0) → i ≡ j
            at (inl a) (inl b) = a ∙ sym b
            at (inl a) (inr b) = let z : d - 1 ≡ j = u (d - 1) j (omega arith) (omega arith) (sym (moved_at x (d - 1) w.0 i a) ∙ e ∙ moved_other x (d - 1) w.0 j b) in absurd (omega arith)
            at (inr a) (inl b) = let z : d - 1 ≡ i = u (d - 1) i (omega arith) (omega arith) (sym (moved_at x (d - 1) w.0 j b) ∙ sym e ∙ moved_other x (d - 1) w.0 i a) in absurd (omega arith)
            at (inr a) (inr b) = u i j (omega arith) (omega arith) (sym (moved_other x (d - 1) w.0 i a) ∙ e ∙ moved_other x (d - 1) w.0 j b)

-- the basic variables, and then the taken ones
both : ℕ → (ℕ → ℕ) → (ℕ → ℕ) → ℕ → ℕ
both zero β x i = x i
both (suc k) β x zero = β 0
both (suc k) β x (suc i) = both k (λ r. β (suc r)) x i

both_left : (k : ℕ) (β x : ℕ → ℕ) (i : ℕ) → i < k → both k β x i ≡ β i
unfolding both
both_left zero β x i l = absurd (not-suc-le-zero l)
both_left (suc k) β x zero l = refl
both_left (suc k) β x (suc i) l = both_left k (λ r. β (suc r)) x i (omega arith)

both_right : (k : ℕ) (β x : ℕ → ℕ) (j : ℕ) → both k β x (k + j) ≡ x j
unfolding both
both_right zero β x j = ap x (omega arith)
both_right (suc k) β x j = let e : suc k + j ≡ suc (k + j) = omega arith in ap (both (suc k) β x) e ∙ both_right k (λ r. β (suc r)) x j

-- which of the two a place is
side : (k d i : ℕ) → i < k + d → (i < k) ⊎ ((j : ℕ) × (j < d) × (i ≡ k + j))
side k d i l = go (dec_lt i k)
  where
    go : Dec (i < k) → (i < k) ⊎ ((j : ℕ) × (j < d) × (i ≡ k + j))
    go (yes h) = inl h
    go (no h) = inr (i - k, omega arith, omega arith)

-- kept rows and taken literals are together at most n
pub room : (n k : ℕ) (R : ℕ → Row) (β : ℕ → ℕ) (d : ℕ) (x : ℕ → ℕ) → Tableau n k R β → Taken n d x k β → k + d ≤ n
room n k R β d x t u = pigeon n (k + d) (λ i. both k β x i - 1) small one
  where
    inside : (i : ℕ) → i < k + d → Var n (both k β x i)
    inside i l = go (side k d i l)
      where
        go : (i < k) ⊎ ((j : ℕ) × (j < d) × (i ≡ k + j)) → Var n (both k β x i)
        go (inl h) = rw (both_left k β x i h) (t.var i h)
        go (inr w) = rw (w.2, both_right k β x w.0) (u.var w.0 w.1)

    small : (i : ℕ) → i < k + d → both k β x i - 1 < n
    small i l = let v = inside i l in let a = v.low in let b = v.high in omega arith

    distinct : (i j : ℕ) → i < k + d → j < k + d → both k β x i ≡ both k β x j → i ≡ j
    distinct i j l h e = go (side k d i l) (side k d j h)
      where
        basic : (a b : ℕ) → a < k → b < k → β a ≡ β b → (a ≡ b) ⊎ (a ≢ b) → a ≡ b
        basic a b la lb z (inl q) = q
        basic a b la lb z (inr q) = absurd (clash (R b (β b)) (t.own b lb) (ap (R b) (sym z) ∙ t.alone a b la lb q))

        go : (i < k) ⊎ ((p : ℕ) × (p < d) × (i ≡ k + p)) → (j < k) ⊎ ((p : ℕ) × (p < d) × (j ≡ k + p)) → i ≡ j
        go (inl a) (inl b) = basic i j a b (sym (both_left k β x i a) ∙ e ∙ both_left k β x j b) (same_dec i j)
        go (inl a) (inr b) = absurd (u.apart b.0 b.1 i a (sym (both_left k β x i a) ∙ e ∙ ap (both k β x) b.2 ∙ both_right k β x b.0))
        go (inr a) (inl b) = absurd (u.apart a.0 a.1 j b (sym (both_left k β x j b) ∙ sym e ∙ ap (both k β x) a.2 ∙ both_right k β x a.0))
        go (inr a) (inr b) =
            let z : a.0 ≡ b.0 = u.distinct a.0 b.0 a.1 b.1 (sym (both_right k β x a.0) ∙ ap (both k β x) (sym a.2) ∙ e ∙ ap (both k β x) b.2 ∙ both_right k β x b.0) in
            a.2 ∙ ap (λ (p : ℕ). k + p) z ∙ sym b.2

    one : (i j : ℕ) → i < k + d → j < k + d → both k β x i - 1 ≡ both k β x j - 1 → i ≡ j
    one i j l h e = let a = (inside i l).low in let b = (inside j h).low in let z : both k β x i ≡ both k β x j = omega arith in distinct i j l h z

-- the kept count is at most the number of rows
pub tally_le : (q : ℕ) (f : ℕ → Bool) → tally q f ≤ q
tally_le zero f = omega arith
tally_le (suc q) f = go (f q) (tally_le q f)
  where
    go : (b : Bool) → tally q f ≤ q → tally q f + one_if b ≤ suc q
    go true h = omega arith
    go false h = omega arith
