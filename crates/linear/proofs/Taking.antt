-- TAKING THE ROWS IN ORDER, by places and by lists: the kept places are the kept rows of the definitions.
--   sum_cut          a sum of which nothing past place q takes part
--   numbered_split   the rows below q, row q, and those after it
--   takes_kept       no row fails: the kept places are the kept rows
--   takes_fails      row q fails: the definitions list it, after the rows of the sum
--   kept_length      as many as there are
-- Assumes nothing.
use mathlib.Core.Path.{◌≡◌, refl, sym, ap, ◌∙◌}
use mathlib.Core.Bool.{Bool, true, false, ◌&&◌, true≢false, false≢true}
use mathlib.Core.Logic.{◌⊎◌, inl, inr, ◌≢◌}
use mathlib.Core.List.{[], ◌∷◌, ◌++◌, map, append-nil}
use lib.ListN.{length, length-append}
use lib.Dec.{ltb, lt→ltb, ltb→lt}
use Prim.Native.Nat.{ℕ, zero, suc, ◌+◌, ◌-◌, ◌<◌, ◌≤◌}
use native.Mathlib.Nat.{not-suc-le-zero}
use native.Mathlib.Omega.{arith}
use Rattle.gf2.specs.Field.{◌⊕◌, xsum}
use Rattle.gf2.specs.Rows.{Row, Numbered, Rows, total, SumOf, passed, failed, Takes, end, keep, leave, fail}
use Rattle.gf2.specs.Places.{with_row, chosen, placed}
use Rattle.gf2.proofs.Sums.{sum_cong, sum_false, bool_dec}
use Rattle.gf2.proofs.Search.{and_both, test_true}
use Rattle.gf2.proofs.Chosen.{chosen_part, chosen_total}
use Rattle.gf2.proofs.Scans.{chosen_end}
use Rattle.gf2.proofs.Values.{takes_append}
use Rattle.linear.specs.Systems.{combine}
use Rattle.linear.specs.State.{Earlier, Summed, KeptPlaces, Fails, one_if, tally}
use Rattle.linear.specs.Positions.{numbered, by_number, kept_rows}
use Rattle.linear.proofs.Keeping.{Selection, part_selection}

-- ---- sums and lists, cut at a place
sum_cut : (q m : ℕ) (f : ℕ → Bool) → q ≤ m → ((i : ℕ) → q ≤ i → f i ≡ false) → xsum m f ≡ xsum q f
unfolding xsum
sum_cut zero m f l h = sum_cong m f (λ i. false) (λ i k. h i (omega arith)) ∙ sum_false m
sum_cut (suc q) zero f l h = absurd (not-suc-le-zero l)
sum_cut (suc q) (suc m) f l h = ap (λ (b : Bool). f 0 ⊕ b) (sum_cut q m (λ i. f (suc i)) (omega arith) (λ i k. h (suc i) (omega arith)))

placed_end : (m : ℕ) (number : ℕ → ℕ) (R : ℕ → Row) → placed (suc m) number R ≡ placed m number R ++ (record { number = number m; row = R m } ∷ [])
unfolding placed
placed_end zero number R = refl
placed_end (suc m) number R = ap (λ (rs : Rows). record { number = number 0; row = R 0 } ∷ rs) (placed_end m (λ i. number (suc i)) (λ i. R (suc i)))

abbrev numbered_row : (ℕ → Row) → ℕ → Numbered
numbered_row Sheet q = record { number = suc q; row = Sheet q }

pub numbered_end : (q : ℕ) (Sheet : ℕ → Row) → numbered (suc q) Sheet ≡ numbered q Sheet ++ (numbered_row Sheet q ∷ [])
numbered_end q Sheet = placed_end q suc Sheet

pub no_rows : (Sheet : ℕ → Row) → numbered 0 Sheet ≡ []
unfolding placed
no_rows Sheet = refl

pub chosen_none : (f : ℕ → Bool) → chosen f [] ≡ []
unfolding chosen
chosen_none f = refl

placed_split : (q e : ℕ) (number : ℕ → ℕ) (R : ℕ → Row) → (rest : Rows) × (placed (q + suc e) number R ≡ placed q number R ++ (record { number = number q; row = R q } ∷ rest))
unfolding placed
placed_split zero e number R = let z : 0 + suc e ≡ suc e = omega arith in (placed e (λ i. number (suc i)) (λ i. R (suc i)), ap (λ (z : ℕ). placed z number R) z)
placed_split (suc q) e number R =
    let w = placed_split q e (λ i. number (suc i)) (λ i. R (suc i)) in
    let z : suc q + suc e ≡ suc (q + suc e) = omega arith in
    (w.0, ap (λ (z : ℕ). placed z number R) z ∙ ap (λ (rs : Rows). record { number = number 0; row = R 0 } ∷ rs) w.1)

numbered_split : (q m : ℕ) (Sheet : ℕ → Row) → q < m → (rest : Rows) × (numbered m Sheet ≡ numbered q Sheet ++ (numbered_row Sheet q ∷ rest))
numbered_split q m Sheet l =
    let w = placed_split q (m - suc q) suc Sheet in
    let e : m ≡ q + suc (m - suc q) = omega arith in
    (w.0, ap (λ (z : ℕ). placed z suc Sheet) e ∙ w.1)

-- ---- one row
abbrev up_to : ℕ → (ℕ → Bool) → ℕ → Bool
up_to q s j = ltb j q && s j

module _ (n m : ℕ) (Sheet : ℕ → Row) (kept : ℕ → Bool) (q : ℕ) (lq : q ≤ m) where
  -- the rows below q that a selection of kept ones chooses, as a list
  pub sum_rows : (s : ℕ → Bool) → Summed n m Sheet kept q s → SumOf n (kept_rows q Sheet kept) (Sheet q) (chosen (by_number s) (numbered q Sheet))
  unfolding combine
  sum_rows s h = record { part = chosen_part (by_number s) (by_number kept) within (numbered q Sheet); coefs = λ v l. chosen_sum v ∙ h.1 v l }
    where
      within : (r : ℕ) → by_number s r ≡ true → by_number kept r ≡ true
      within zero e = e
      within (suc j) e = (h.0 j e).1

      past : (v i : ℕ) → q ≤ i → s i && Sheet i v ≡ false
      past v i l = go (bool_dec (s i))
        where
          go : (s i ≡ true) ⊎ (s i ≡ false) → s i && Sheet i v ≡ false
          go (inl e) = let k = (h.0 i e).0 in absurd (omega arith)
          go (inr e) = rw e

      chosen_sum : (v : ℕ) → total (chosen (by_number s) (numbered q Sheet)) v ≡ combine m s Sheet v
      chosen_sum v = chosen_total q suc Sheet (by_number s) v ∙ sym (sum_cut q m (λ i. s i && Sheet i v) lq (past v))

  pub sum_parity : (s : ℕ → Bool) → Earlier kept q s → total (chosen (by_number s) (numbered q Sheet)) 0 ≡ combine m s Sheet 0
  unfolding combine
  sum_parity s h = chosen_total q suc Sheet (by_number s) 0 ∙ sym (sum_cut q m (λ i. s i && Sheet i 0) lq past)
    where
      past : (i : ℕ) → q ≤ i → s i && Sheet i 0 ≡ false
      past i l = go (bool_dec (s i))
        where
          go : (s i ≡ true) ⊎ (s i ≡ false) → s i && Sheet i 0 ≡ false
          go (inl e) = let k = (h i e).0 in absurd (omega arith)
          go (inr e) = rw e

  -- a list of kept rows below q, as a selection
  rows_sum : (ps : Rows) → SumOf n (kept_rows q Sheet kept) (Sheet q) ps → (s : ℕ → Bool) × Summed n m Sheet kept q s
  unfolding combine
  rows_sum ps h = (up_to q w.places, (earlier, λ v l. cut v ∙ sym (w.sum v) ∙ h.coefs v l))
    where
      w : Selection q kept Sheet ps
      w = part_selection q suc (by_number kept) Sheet ps h.part

      earlier : Earlier kept q (up_to q w.places)
      earlier j e = let a = and_both (ltb j q) (w.places j) e in (ltb→lt j q (rw a.0 tt), w.within j a.1)

      inside : (v i : ℕ) → i < q → up_to q w.places i && Sheet i v ≡ w.places i && Sheet i v
      inside v i l = rw (test_true (ltb i q) (lt→ltb i q l))

      outside : (v i : ℕ) → q ≤ i → up_to q w.places i && Sheet i v ≡ false
      outside v i l = go (bool_dec (up_to q w.places i))
        where
          go : (up_to q w.places i ≡ true) ⊎ (up_to q w.places i ≡ false) → up_to q w.places i && Sheet i v ≡ false
          go (inl e) = let k = (earlier i e).0 in absurd (omega arith)
          go (inr e) = rw e

      cut : (v : ℕ) → combine m (up_to q w.places) Sheet v ≡ combine q w.places Sheet v
      cut v = sum_cut q m (λ i. up_to q w.places i && Sheet i v) lq (outside v) ∙ sum_cong q _ _ (λ i l. inside v i l)

-- ---- all rows
bool_same : (x y : Bool) → (x ≡ y) ⊎ (x ≢ y)
bool_same true true = inl refl
bool_same true false = inr true≢false
bool_same false true = inr false≢true
bool_same false false = inl refl

module _ (n m : ℕ) (Sheet : ℕ → Row) (kept : ℕ → Bool) (kp : KeptPlaces n m Sheet kept) where
  takes_row : (q : ℕ) → q < m → ((s : ℕ → Bool) → Fails n m Sheet kept q s → ⊥) → (b : Bool) → kept q ≡ b
      → Takes n (kept_rows q Sheet kept) (numbered_row Sheet q ∷ []) (passed (kept_rows q Sheet kept ++ with_row b (numbered_row Sheet q) []))
  takes_row q l none true e = keep (λ ps h. let w = rows_sum n m Sheet kept q (omega arith) ps h in kp.chosen q l e w.0 w.1) end
  takes_row q l none false e = rw (append-nil (kept_rows q Sheet kept)) (go (kp.left q l e))
    where
      go : ((s : ℕ → Bool) × Summed n m Sheet kept q s) → Takes n (kept_rows q Sheet kept) (numbered_row Sheet q ∷ []) (passed (kept_rows q Sheet kept))
      go w = leave (sum_rows n m Sheet kept q (omega arith) w.0 w.1) (parity (bool_same (combine m w.0 Sheet 0) (Sheet q 0))) end
        where
          parity : (combine m w.0 Sheet 0 ≡ Sheet q 0) ⊎ (combine m w.0 Sheet 0 ≢ Sheet q 0) → total (chosen (by_number w.0) (numbered q Sheet)) 0 ≡ Sheet q 0
          parity (inl h) = sum_parity n m Sheet kept q (omega arith) w.0 w.1.0 ∙ h
          parity (inr h) = absurd (none w.0 (record { sum = w.1; parity = h }))

  pub takes_kept : (q : ℕ) → q ≤ m → ((j : ℕ) → j < q → (s : ℕ → Bool) → Fails n m Sheet kept j s → ⊥) → Takes n [] (numbered q Sheet) (passed (kept_rows q Sheet kept))
  takes_kept zero l none = rw (no_rows Sheet, chosen_none (by_number kept)) end
  takes_kept (suc q) l none =
      rw (numbered_end q Sheet, chosen_end (by_number kept) (numbered q Sheet) (numbered_row Sheet q))
      (takes_append n [] (kept_rows q Sheet kept) (numbered q Sheet) (numbered_row Sheet q ∷ []) (passed (kept_rows q Sheet kept ++ with_row (kept q) (numbered_row Sheet q) []))
      (takes_kept q (omega arith) (λ j h. none j (omega arith))) (takes_row q l (none q (omega arith)) (kept q) refl))

  pub takes_fails : (q : ℕ) → q < m → ((j : ℕ) → j < q → (s : ℕ → Bool) → Fails n m Sheet kept j s → ⊥) → (s : ℕ → Bool) → Fails n m Sheet kept q s
      → Takes n [] (numbered m Sheet) (failed (kept_rows q Sheet kept) (map (λ r. r.number) (chosen (by_number s) (numbered q Sheet) ++ (numbered_row Sheet q ∷ []))))
  takes_fails q l none s f = go (numbered_split q m Sheet l)
    where
      go : ((rest : Rows) × (numbered m Sheet ≡ numbered q Sheet ++ (numbered_row Sheet q ∷ rest)))
          → Takes n [] (numbered m Sheet) (failed (kept_rows q Sheet kept) (map (λ r. r.number) (chosen (by_number s) (numbered q Sheet) ++ (numbered_row Sheet q ∷ []))))
      go w = rw w.1
          (takes_append n [] (kept_rows q Sheet kept) (numbered q Sheet) (numbered_row Sheet q ∷ w.0) _ (takes_kept q (omega arith) none)
          (fail (sum_rows n m Sheet kept q (omega arith) s f.sum) (λ e. f.parity (sym (sum_parity n m Sheet kept q (omega arith) s f.sum.0) ∙ e))))

pub kept_length : (q : ℕ) (Sheet : ℕ → Row) (kept : ℕ → Bool) → length (kept_rows q Sheet kept) ≡ tally q kept
kept_length zero Sheet kept = rw (no_rows Sheet, chosen_none (by_number kept))
kept_length (suc q) Sheet kept =
    rw (numbered_end q Sheet, chosen_end (by_number kept) (numbered q Sheet) (numbered_row Sheet q), length-append (kept_rows q Sheet kept) (with_row (kept q) (numbered_row Sheet q) []), kept_length q Sheet kept)
    (ap (λ (z : ℕ). tally q kept + z) (one (kept q)))
  where
    one : (b : Bool) → length (with_row b (numbered_row Sheet q) []) ≡ one_if b
    one true = refl
    one false = refl
