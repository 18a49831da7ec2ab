-- THE VALUES THAT A TABLEAU GIVES are exactly those that follow.
--   solve, solve_sat       an assignment with its basic variables changed so that the rows hold
--   basic_dec, other_free  which variables are basic
--   known_implied          a value that is given follows
--   unknown_differs        where none is given, two solutions differ
--   solution, complete     consistent and complete
-- Assumes nothing.
use mathlib.Core.Path.{◌≡◌, refl, sym, ap, ◌∙◌}
use mathlib.Core.Bool.{Bool, true, false, not, ◌&&◌, true≢false}
use mathlib.Core.Logic.{◌⊎◌, inl, inr, ◌≢◌, ◌↔◌}
use Prim.Native.Nat.{ℕ, suc, ◌<◌}
use Rattle.gf2.specs.Field.{◌⊕◌, xsum, same}
use Rattle.gf2.specs.Rows.{Var, Row, Assignment, row_sum}
use Rattle.linear.specs.Systems.{Assumptions, Agrees, Implied, Sat, Tableau, NonBasic, Settled}
use Rattle.gf2.proofs.Sat.{find_var, vsum_cong, vsum_one, value_xor, value_one}
use Rattle.gf2.proofs.Field.{xor_not, not_ne, xor_self, xor_true, xor_out, and_left_comm, xor_false, xor_eq, eq_xor}
use Rattle.gf2.proofs.Sums.{sum_cong, sum_false, sum_and, sum_swap, sum_one, same_refl, same_ne, same_dec, bool_dec, find}

-- D r at the variable β r, for each row r, and 0 at any other variable
unfoldable pub spread : ℕ → (ℕ → ℕ) → (ℕ → Bool) → Assignment
spread k β D v = xsum k (λ r. same (β r) v && D r)

-- what row r lacks to hold
unfoldable pub lack : ℕ → (ℕ → Row) → Assignment → ℕ → Bool
lack n R f r = R r 0 ⊕ row_sum n (R r) f

-- f, with the basic variables changed so that the rows hold
unfoldable pub solve : ℕ → ℕ → (ℕ → Row) → (ℕ → ℕ) → Assignment → Assignment
solve n k R β f v = f v ⊕ spread k β (lack n R f) v

module _ (n k : ℕ) (R : ℕ → Row) (β : ℕ → ℕ) (t : Tableau n k R β) where
  pub basic_row : (r q : ℕ) → r < k → q < k → R q (β r) ≡ same q r
  basic_row r q l m = go (same_dec q r)
    where
      go : (q ≡ r) ⊎ (q ≢ r) → R q (β r) ≡ same q r
      go (inl e) = rw e (t.own r l ∙ sym (same_refl r))
      go (inr d) = t.alone r q l m (λ e. d (sym e)) ∙ sym (same_ne q r d)

  basic_same : (r q : ℕ) → r < k → q < k → same (β r) (β q) ≡ same q r
  basic_same r q l m = go (same_dec q r)
    where
      go : (q ≡ r) ⊎ (q ≢ r) → same (β r) (β q) ≡ same q r
      go (inl e) = rw e (same_refl (β r) ∙ sym (same_refl r))
      go (inr d) = same_ne (β r) (β q) (λ e. true≢false (sym (t.own r l) ∙ ap (R r) e ∙ t.alone q r m l d)) ∙ sym (same_ne q r d)

  spread_row : (c : Row) (D : ℕ → Bool) → row_sum n c (spread k β D) ≡ xsum k (λ r. c (β r) && D r)
  unfolding row_sum spread
  spread_row c D =
      vsum_cong n _ _ (λ v l. sym (sum_and k (c v) (λ r. same (β r) v && D r)))
      ∙ sum_swap n k (λ i r. c (suc i) && (same (β r) (suc i) && D r))
      ∙ sum_cong k _ _ (λ r l. vsum_cong n _ _ (λ v h. and_left_comm (c v) (same (β r) v) (D r)) ∙ vsum_one n (β r) (λ v. c v && D r) (t.var r l))

  pub spread_basic : (D : ℕ → Bool) (q : ℕ) → q < k → spread k β D (β q) ≡ D q
  unfolding spread
  spread_basic D q m = sum_cong k _ _ (λ r l. ap (λ (x : Bool). x && D r) (basic_same r q l m)) ∙ sum_one k q D m

  pub spread_free : (D : ℕ → Bool) (v : ℕ) → NonBasic k β v → spread k β D v ≡ false
  unfolding spread
  spread_free D v h = sum_cong k _ (λ r. false) (λ r l. ap (λ (x : Bool). x && D r) (same_ne (β r) v (h r l))) ∙ sum_false k

  pub solve_sat : (f : Assignment) → Sat n k R (solve n k R β f)
  unfolding solve lack
  solve_sat f q m =
      value_xor n (R q) f (spread k β (lack n R f))
      ∙ ap (λ (x : Bool). row_sum n (R q) f ⊕ x) (spread_row (R q) (lack n R f) ∙ sum_cong k _ _ (λ r l. ap (λ (x : Bool). x && lack n R f r) (basic_row r q l m)) ∙ sum_one k q (lack n R f) m)
      ∙ xor_out (row_sum n (R q) f) (R q 0)

  pub solve_free : (f : Assignment) (v : ℕ) → NonBasic k β v → solve n k R β f v ≡ f v
  unfolding solve
  solve_free f v h = ap (λ (x : Bool). f v ⊕ x) (spread_free (lack n R f) v h) ∙ xor_false (f v)

  pub solve_basic : (f : Assignment) (r : ℕ) → r < k → solve n k R β f (β r) ≡ f (β r) ⊕ lack n R f r
  unfolding solve
  solve_basic f r l = ap (λ (x : Bool). f (β r) ⊕ x) (spread_basic (lack n R f) r l)

  pub basic_dec : (v : ℕ) → ((r : ℕ) × (r < k) × (β r ≡ v)) ⊎ NonBasic k β v
  basic_dec v = find (λ r. β r ≡ v) (λ r. β r ≢ v) k (λ r l. same_dec (β r) v)

  -- another variable of a row is not basic
  pub other_free : (r v : ℕ) → r < k → R r v ≡ true → v ≢ β r → NonBasic k β v
  other_free r v l h d q m e = go (same_dec q r)
    where
      go : (q ≡ r) ⊎ (q ≢ r) → ⊥
      go (inl p) = d (sym e ∙ ap β p)
      go (inr p) = true≢false (sym h ∙ ap (R r) (sym e) ∙ t.alone q r m l p)

  module _ (A : Assumptions) (known truth : ℕ → Bool) (s : Settled n k R β A known truth) where
    -- two assignments that agree where there are values give a settled row the same sum, but for its basic variable
    row_diff : (r : ℕ) → r < k → known (β r) ≡ true → (d : Assignment) → ((v : ℕ) → Var n v → NonBasic k β v → known v ≡ true → d v ≡ false) → row_sum n (R r) d ≡ d (β r)
    unfolding row_sum
    row_diff r l h d e = vsum_cong n _ _ (λ v m. point v m (same_dec v (β r)) (R r v) refl) ∙ vsum_one n (β r) d (t.var r l)
      where
        point : (v : ℕ) → Var n v → (v ≡ β r) ⊎ (v ≢ β r) → (b : Bool) → R r v ≡ b → R r v && d v ≡ same (β r) v && d v
        point v m (inl p) b q = rw (p, t.own r l, same_refl (β r))
        point v m (inr p) true q = rw (same_ne (β r) v (λ x. p (sym x)), q) (e v m (other_free r v l q p) (s.basic_only_if r l h v m q p))
        point v m (inr p) false q = rw (same_ne (β r) v (λ x. p (sym x)), q)

    -- a value that is given follows
    pub known_implied : (v : ℕ) → Var n v → known v ≡ true → Implied n k R A v (truth v)
    known_implied v m h a sat agr = go (basic_dec v)
      where
        basic : (r : ℕ) → r < k → known (β r) ≡ true → a (β r) ≡ truth (β r)
        basic r l g =
            xor_eq _ _
            (sym (row_diff r l g (λ u. a u ⊕ truth u) (λ u m f g. eq_xor _ _ (agr u (truth u) (s.free u m f g))))
            ∙ value_xor n (R r) a truth ∙ eq_xor _ _ (sat r l ∙ sym (s.basic_value r l g)))

        go : ((r : ℕ) × (r < k) × (β r ≡ v)) ⊎ NonBasic k β v → a v ≡ truth v
        go (inl w) = rw w.2 at (basic w.0 w.1 (rw w.2 h))
        go (inr f) = agr v (truth v) (s.free v m f h)

    -- a choice that has the values given is kept by `solve`
    solve_known : (f : Assignment) → ((v : ℕ) → known v ≡ true → f v ≡ truth v) → (v : ℕ) → known v ≡ true → solve n k R β f v ≡ truth v
    unfolding lack
    solve_known f e v h = go (basic_dec v)
      where
        holds : (r : ℕ) → r < k → known (β r) ≡ true → row_sum n (R r) f ≡ R r 0
        holds r l g =
            xor_eq _ _
            (sym (value_xor n (R r) f truth) ∙ row_diff r l g (λ u. f u ⊕ truth u) (λ u m x y. eq_xor _ _ (e u y)) ∙ eq_xor _ _ (e (β r) g))
            ∙ s.basic_value r l g

        basic : (r : ℕ) → r < k → known (β r) ≡ true → solve n k R β f (β r) ≡ truth (β r)
        basic r l g = solve_basic f r l ∙ rw (holds r l g, xor_self (R r 0), xor_false) (e (β r) g)

        go : ((r : ℕ) × (r < k) × (β r ≡ v)) ⊎ NonBasic k β v → solve n k R β f v ≡ truth v
        go (inl w) = rw w.2 at (basic w.0 w.1 (rw w.2 h))
        go (inr x) = solve_free f v x ∙ e v h

    solve_agrees : (f : Assignment) → ((v : ℕ) → known v ≡ true → f v ≡ truth v) → Agrees A (solve n k R β f)
    solve_agrees f e v b h = solve_known f e v (s.assumed v b h).0 ∙ (s.assumed v b h).1

    -- the system is satisfiable under the assumptions
    pub solution : (a : Assignment) × Sat n k R a × Agrees A a
    solution = (solve n k R β truth, solve_sat truth, solve_agrees truth (λ v h. refl))

    -- the choice with one more variable turned round
    turned : ℕ → Assignment
    turned u v = truth v ⊕ same u v

    turned_known : (u : ℕ) → known u ≡ false → (v : ℕ) → known v ≡ true → turned u v ≡ truth v
    unfolding turned
    turned_known u h v g = rw (same_ne u v (λ e. true≢false (sym g ∙ ap known (sym e) ∙ h)), xor_false)

    turned_free : (u : ℕ) → NonBasic k β u → solve n k R β (turned u) u ≡ not (solve n k R β truth u)
    unfolding turned
    turned_free u h = rw (solve_free (turned u) u h, solve_free truth u h, same_refl u) (xor_true (truth u))

    turned_basic : (u r : ℕ) → Var n u → r < k → R r u ≡ true → u ≢ β r → solve n k R β (turned u) (β r) ≡ not (solve n k R β truth (β r))
    unfolding turned lack
    turned_basic u r m l h d =
        rw (solve_basic (turned u) r l, solve_basic truth r l, same_ne u (β r) d, value_xor n (R r) truth (same u), value_one n (R r) u m, h)
        (simp (xor_false, xor_true, xor_not))

    -- a variable without a value: two solutions that differ there
    pub Open : ℕ → Type 0
    Open v = (u : ℕ) × (known u ≡ false) × (solve n k R β (turned u) v ≡ not (solve n k R β truth v))

    -- an unknown variable of a row whose basic variable is not known
    pub row_open : (r : ℕ) → r < k → known (β r) ≡ false → (u : ℕ) × Var n u × (R r u ≡ true) × (u ≢ β r) × (known u ≡ false)
    row_open r l h = go (find_var P Q n (λ v m. test v (bool_dec (R r v)) (same_dec v (β r)) (bool_dec (known v))))
      where
        P : ℕ → Type 0
        P v = (R r v ≡ true) × (v ≢ β r) × (known v ≡ false)

        Q : ℕ → Type 0
        Q v = R r v ≡ true → v ≢ β r → known v ≡ true

        test : (v : ℕ) → (R r v ≡ true) ⊎ (R r v ≡ false) → (v ≡ β r) ⊎ (v ≢ β r) → (known v ≡ true) ⊎ (known v ≡ false) → P v ⊎ Q v
        test v (inr a) e f = inr (λ x y. absurd (true≢false (sym x ∙ a)))
        test v (inl a) (inl e) f = inr (λ x y. absurd (y e))
        test v (inl a) (inr e) (inl f) = inr (λ x y. f)
        test v (inl a) (inr e) (inr f) = inl (a, e, f)

        go : ((v : ℕ) × Var n v × P v) ⊎ ((v : ℕ) → Var n v → Q v) → (u : ℕ) × Var n u × (R r u ≡ true) × (u ≢ β r) × (known u ≡ false)
        go (inl w) = (w.0, w.1, w.2.0, w.2.1, w.2.2)
        go (inr x) = absurd (true≢false (sym (s.basic_if r l x) ∙ h))

    unknown_open : (v : ℕ) → known v ≡ false → Open v
    unfolding Open
    unknown_open v h = go (basic_dec v)
      where
        basic : (r : ℕ) → r < k → known (β r) ≡ false → Open (β r)
        basic r l g = let w = row_open r l g in (w.0, w.4, turned_basic w.0 r w.1 l w.2 w.3)

        go : ((r : ℕ) × (r < k) × (β r ≡ v)) ⊎ NonBasic k β v → Open v
        go (inl w) = rw w.2 at (basic w.0 w.1 (rw w.2 h))
        go (inr x) = (v, h, turned_free v x)

    -- a variable without a value has both values in solutions
    pub unknown_differs : (v : ℕ) → known v ≡ false
        → (a b : Assignment) × (Sat n k R a × Agrees A a) × (Sat n k R b × Agrees A b) × (b v ≡ not (a v))
    unfolding Open
    unknown_differs v h =
        let o = unknown_open v h in (
          solve n k R β truth,
          solve n k R β (turned o.0),
          (solve_sat truth, solve_agrees truth (λ v h. refl)),
          (solve_sat (turned o.0), solve_agrees (turned o.0) (turned_known o.0 o.1)),
          o.2,
        )

    pub complete : (v : ℕ) (b : Bool) → Var n v → ((known v ≡ true) × (truth v ≡ b)) ↔ Implied n k R A v b
    complete v b m = (λ e a x y. known_implied v m e.0 a x y ∙ e.1, λ i. go i (bool_dec (known v)))
      where
        go : Implied n k R A v b → (known v ≡ true) ⊎ (known v ≡ false) → (known v ≡ true) × (truth v ≡ b)
        go i (inl h) = (h, sym (known_implied v m h solution.0 solution.1 solution.2) ∙ i solution.0 solution.1 solution.2)
        go i (inr h) =
            let w = unknown_differs v h in
            absurd (not_ne _ _ w.4 (i w.0 w.2.0 w.2.1 ∙ sym (i w.1 w.3.0 w.3.1)))
