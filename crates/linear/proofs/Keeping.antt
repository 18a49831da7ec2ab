-- WHICH ROWS OF A SHEET ARE KEPT: there is a choice by the rule, and only one.
--   part_selection   a part of some chosen rows, as a selection of places
--   keep_to q         the kept rows among the first q; kept_exists, kept_unique
-- Assumes nothing.
use mathlib.Core.Path.{◌≡◌, refl, sym, ap, ◌∙◌}
use mathlib.Core.Bool.{Bool, true, false, ◌&&◌, cond, true≢false, false≢true}
use mathlib.Core.Logic.{◌⊎◌, inl, inr, ◌≢◌}
use Prim.Native.Nat.{ℕ, zero, suc, ◌+◌, ◌-◌, ◌<◌, ◌≤◌}
use native.Mathlib.Nat.{le_of_suc-le-suc, not-suc-le-zero}
use native.Mathlib.Omega.{arith}
use Rattle.gf2.specs.Field.{◌⊕◌, xsum, same}
use Rattle.gf2.specs.Lists.{All, Part, stop, take, skip}
use Rattle.gf2.specs.Rows.{Row, Assignment, Rows, row_sum, total, SameCoefs}
use Rattle.gf2.specs.Places.{chosen, placed, with_row}
use Rattle.gf2.proofs.Sums.{sum_cong, sum_false, same_dec, same_refl, same_ne, bool_dec}
use Rattle.gf2.proofs.Sat.{row_cong}
use Rattle.gf2.proofs.Fredholm.{split_or_sum}
use Rattle.linear.specs.Systems.{combine}
use Rattle.linear.specs.State.{Summed, KeptPlaces}
use Rattle.linear.proofs.Combine.{sum_of_combine}

abbrev Within : (ℕ → Bool) → (ℕ → Bool) → Type 0
Within f s = (j : ℕ) → s j ≡ true → f j ≡ true

abbrev Sum : (n m : ℕ) → (ℕ → Row) → (ℕ → Bool) → Row → (ℕ → Bool) → Type 0
Sum n m Sheet f c s = Within f s × SameCoefs n (combine m s Sheet) c

-- b, and then the values of s
abbrev first : Bool → (ℕ → Bool) → ℕ → Bool
first b s zero = b
first b s (suc i) = s i

pub record Selection (m : ℕ) (f : ℕ → Bool) (R : ℕ → Row) (ps : Rows) : Type 0 where
  pub places : ℕ → Bool
  pub within : Within f places
  pub sum : (v : ℕ) → total ps v ≡ combine m places R v

pub part_selection : (m : ℕ) (number : ℕ → ℕ) (f : ℕ → Bool) (R : ℕ → Row) (ps : Rows) → Part ps (chosen f (placed m number R)) → Selection m (λ j. f (number j)) R ps
unfolding chosen placed combine total xsum
part_selection zero number f R ps stop = record { places = λ j. false; within = λ j e. absurd (false≢true e); sum = λ v. refl }
part_selection (suc m) number f R ps p = go (part_selection m (λ i. number (suc i)) f (λ i. R (suc i))) (f (number 0)) refl ps p
  where
    within_first : (b : Bool) → (b ≡ true → f (number 0) ≡ true) → (s : ℕ → Bool) → Within (λ j. f (number (suc j))) s → Within (λ j. f (number j)) (first b s)
    within_first b h s w zero e = h e
    within_first b h s w (suc j) e = w j e

    left : (qs : Rows) → Selection m (λ j. f (number (suc j))) (λ i. R (suc i)) qs → Selection (suc m) (λ j. f (number j)) R qs
    left qs w = record { places = first false w.places; within = within_first false (λ z. absurd (false≢true z)) w.places w.within; sum = w.sum }

    go : ((qs : Rows) → Part qs (chosen f (placed m (λ i. number (suc i)) (λ i. R (suc i)))) → Selection m (λ j. f (number (suc j))) (λ i. R (suc i)) qs)
        → (b : Bool) → f (number 0) ≡ b → (qs : Rows) → Part qs (with_row b (record { number = number 0; row = R 0 }) (chosen f (placed m (λ i. number (suc i)) (λ i. R (suc i))))) → Selection (suc m) (λ j. f (number j)) R qs
    go more false e qs q = left qs (more qs q)
    go more true e qs (take {ps = os} q) =
        let w = more os q in
        record { places = first true w.places; within = within_first true (λ z. e) w.places w.within; sum = λ v. ap (λ (x : Bool). R 0 v ⊕ x) (w.sum v) }
    go more true e qs (skip q) = left qs (more qs q)

chosen_all : (P : Row → Type 0) (m : ℕ) (number : ℕ → ℕ) (f : ℕ → Bool) (R : ℕ → Row) → All (λ c. P c.row) (chosen f (placed m number R)) → (j : ℕ) → j < m → f (number j) ≡ true → P (R j)
unfolding chosen placed
chosen_all P zero number f R h j l e = absurd (not-suc-le-zero l)
chosen_all P (suc m) number f R h j l e = go (chosen_all P m (λ i. number (suc i)) f (λ i. R (suc i))) (f (number 0)) refl h j l e
  where
    go : (All (λ c. P c.row) (chosen f (placed m (λ i. number (suc i)) (λ i. R (suc i)))) → (j : ℕ) → j < m → f (number (suc j)) ≡ true → P (R (suc j)))
        → (b : Bool) → f (number 0) ≡ b → All (λ c. P c.row) (with_row b (record { number = number 0; row = R 0 }) (chosen f (placed m (λ i. number (suc i)) (λ i. R (suc i))))) → (j : ℕ) → j < suc m → f (number j) ≡ true → P (R j)
    go more true z h zero l e = h.0
    go more false z h zero l e = absurd (false≢true (sym z ∙ e))
    go more true z h (suc j) l e = more h.1 j (le_of_suc-le-suc l) e
    go more false z h (suc j) l e = more h j (le_of_suc-le-suc l) e

module _ (n m : ℕ) (Sheet : ℕ → Row) where
  sum_no : (f : ℕ → Bool) (c : Row) (a : Assignment) → ((j : ℕ) → j < m → f j ≡ true → row_sum n (Sheet j) a ≡ false) → row_sum n c a ≡ true → (s : ℕ → Bool) → Sum n m Sheet f c s → ⊥
  sum_no f c a h e s w =
      true≢false
      (sym e ∙ sym (row_cong n (combine m s Sheet) c a w.1) ∙ sum_of_combine n m s Sheet a
      ∙ sum_cong m _ (λ j. false) (λ j l. part j l (bool_dec (s j))) ∙ sum_false m)
    where
      part : (j : ℕ) → j < m → (s j ≡ true) ⊎ (s j ≡ false) → s j && row_sum n (Sheet j) a ≡ false
      part j l (inl z) = rw z (h j l (w.0 j z))
      part j l (inr z) = rw z

  -- whether c is such a sum
  decide : (f : ℕ → Bool) (c : Row) → ((s : ℕ → Bool) × Sum n m Sheet f c s) ⊎ ((s : ℕ → Bool) → Sum n m Sheet f c s → ⊥)
  decide f c = go (split_or_sum n (chosen f (placed m (λ j. j) Sheet)) c)
    where
      go : ((ps : Rows) × Part ps (chosen f (placed m (λ j. j) Sheet)) × SameCoefs n (total ps) c) ⊎ ((a : Assignment) × All (λ r. row_sum n r.row a ≡ false) (chosen f (placed m (λ j. j) Sheet)) × (row_sum n c a ≡ true))
          → ((s : ℕ → Bool) × Sum n m Sheet f c s) ⊎ ((s : ℕ → Bool) → Sum n m Sheet f c s → ⊥)
      go (inl w) = let p = part_selection m (λ j. j) f Sheet w.0 w.1 in inl (p.places, (p.within, λ v l. sym (p.sum v) ∙ w.2 v l))
      go (inr w) = inr (sum_no f c w.0 (chosen_all (λ r. row_sum n r w.0 ≡ false) m (λ j. j) f Sheet w.1) w.2)

  flag : {A B : Type 0} → A ⊎ B → Bool
  flag (inl a) = false
  flag (inr b) = true

  -- the kept rows among the first q
  pub keep_to : ℕ → ℕ → Bool
  keep_to zero j = false
  keep_to (suc q) j = cond (same j q) (flag (decide (keep_to q) (Sheet q))) (keep_to q j)

  keep_at : (q : ℕ) → keep_to (suc q) q ≡ flag (decide (keep_to q) (Sheet q))
  unfolding keep_to
  keep_at q = rw (same_refl q)

  keep_other : (q j : ℕ) → j ≢ q → keep_to (suc q) j ≡ keep_to q j
  unfolding keep_to
  keep_other q j d = rw (same_ne j q d)

  keep_below : (q j : ℕ) → keep_to q j ≡ true → j < q
  unfolding keep_to
  keep_below zero j e = absurd (false≢true e)
  keep_below (suc q) j e = go (same_dec j q) (λ h. keep_below q j h)
    where
      go : (j ≡ q) ⊎ (j ≢ q) → (keep_to q j ≡ true → j < q) → j < suc q
      go (inl d) f = omega arith
      go (inr d) f = let h = f (sym (keep_other q j d) ∙ e) in omega arith

  -- d rows later
  keep_stays : (d q j : ℕ) → j < q → keep_to (d + q) j ≡ keep_to q j
  keep_stays zero q j l = ap (λ (z : ℕ). keep_to z j) (omega arith)
  keep_stays (suc d) q j l =
      let e : suc d + q ≡ suc (d + q) = omega arith in
      ap (λ (z : ℕ). keep_to z j) e ∙ keep_other (d + q) j (λ (z : j ≡ d + q). absurd (omega arith)) ∙ keep_stays d q j l

  keep_final : (q j : ℕ) → q ≤ m → j < q → keep_to m j ≡ keep_to q j
  keep_final q j h l = go (le_plus q m h)
    where
      le_plus : (q m : ℕ) → q ≤ m → (d : ℕ) × (m ≡ d + q)
      le_plus q m h = (m - q, omega arith)

      go : ((d : ℕ) × (m ≡ d + q)) → keep_to m j ≡ keep_to q j
      go w = ap (λ (z : ℕ). keep_to z j) w.1 ∙ keep_stays w.0 q j l

  pub kept_exists : KeptPlaces n m Sheet (keep_to m)
  unfolding flag
  kept_exists = record { left = λ q l e. left q l (sym (at q l) ∙ e) (decide (keep_to q) (Sheet q)) refl; chosen = λ q l e. chosen q l (sym (at q l) ∙ e) (decide (keep_to q) (Sheet q)) refl }
    where
      at : (q : ℕ) → q < m → keep_to m q ≡ flag (decide (keep_to q) (Sheet q))
      at q l = keep_final (suc q) q l (omega arith) ∙ keep_at q

      left : (q : ℕ) → q < m → flag (decide (keep_to q) (Sheet q)) ≡ false → (w : ((s : ℕ → Bool) × Sum n m Sheet (keep_to q) (Sheet q) s) ⊎ ((s : ℕ → Bool) → Sum n m Sheet (keep_to q) (Sheet q) s → ⊥))
          → decide (keep_to q) (Sheet q) ≡ w → (s : ℕ → Bool) × Summed n m Sheet (keep_to m) q s
      left q l e (inl w) z = (w.0, (λ j h. let k = keep_below q j (w.1.0 j h) in (k, keep_final q j (omega arith) k ∙ w.1.0 j h), w.1.1))
      left q l e (inr w) z = absurd (true≢false (sym (ap flag z) ∙ e))

      chosen : (q : ℕ) → q < m → flag (decide (keep_to q) (Sheet q)) ≡ true → (w : ((s : ℕ → Bool) × Sum n m Sheet (keep_to q) (Sheet q) s) ⊎ ((s : ℕ → Bool) → Sum n m Sheet (keep_to q) (Sheet q) s → ⊥))
          → decide (keep_to q) (Sheet q) ≡ w → (s : ℕ → Bool) → Summed n m Sheet (keep_to m) q s → ⊥
      chosen q l e (inl w) z = absurd (true≢false (sym e ∙ ap flag z))
      chosen q l e (inr w) z = λ s h. w s (λ j g. sym (keep_final q j (omega arith) (h.0 j g).0) ∙ (h.0 j g).1, h.1)

-- ---- there is one choice only
module _ (n m : ℕ) (Sheet : ℕ → Row) (f g : ℕ → Bool) (kf : KeptPlaces n m Sheet f) (kg : KeptPlaces n m Sheet g) where
  kept_below : (b : ℕ) → b ≤ m → (q : ℕ) → q < b → f q ≡ g q
  kept_below zero l q h = absurd (not-suc-le-zero h)
  kept_below (suc b) l q h = go (same_dec q b) (kept_below b (omega arith))
    where
      go : (q ≡ b) ⊎ (q ≢ b) → ((j : ℕ) → j < b → f j ≡ g j) → f q ≡ g q
      go (inr d) ih = ih q (omega arith)
      go (inl d) ih = rw d (both (bool_dec (f b)) (bool_dec (g b)))
        where
          both : (f b ≡ true) ⊎ (f b ≡ false) → (g b ≡ true) ⊎ (g b ≡ false) → f b ≡ g b
          both (inl x) (inl y) = x ∙ sym y
          both (inr x) (inr y) = x ∙ sym y
          both (inl x) (inr y) = let w = kg.left b l y in absurd (kf.chosen b l x w.0 (λ j e. ((w.1.0 j e).0, ih j (w.1.0 j e).0 ∙ (w.1.0 j e).1), w.1.1))
          both (inr x) (inl y) = let w = kf.left b l x in absurd (kg.chosen b l y w.0 (λ j e. ((w.1.0 j e).0, sym (ih j (w.1.0 j e).0) ∙ (w.1.0 j e).1), w.1.1))

  pub kept_unique : (q : ℕ) → q < m → f q ≡ g q
  kept_unique = kept_below m (omega arith)
