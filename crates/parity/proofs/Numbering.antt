-- ROW NUMBERS by a scan over the provenance of a row: the numbers of the chosen rows, in order.
--   numbers_chosen   a scan lists the numbers of the rows that it chooses
--   numbers_failed   with a failing row: those of the sum, and then its own
-- Assumes nothing.
use mathlib.Core.Path.{◌≡◌, refl, sym, ap, ap₂, ◌∙◌}
use mathlib.Core.Bool.{Bool, true, false}
use mathlib.Core.Logic.{◌⊎◌, inl, inr, ◌≢◌}
use mathlib.Core.List.{List, [], ◌∷◌, ◌++◌, map, append-nil}
use Prim.Native.Nat.{ℕ, zero, suc, ◌<◌, ◌≤◌}
use native.Mathlib.Omega.{arith}
use Rattle.gf2.specs.Field.{◌⊕◌, same}
use Rattle.gf2.specs.Rows.{Row, Numbered, Rows}
use Rattle.gf2.specs.Places.{with_row, chosen, listed_if}
use Rattle.gf2.proofs.Sums.{same_refl, same_ne, same_dec, bool_dec}
use Rattle.gf2.proofs.Scans.{chosen_end}
use Rattle.linear.specs.State.{Earlier}
use Rattle.linear.specs.Positions.{numbered, by_number}
use Rattle.linear.proofs.Taking.{numbered_end, no_rows, chosen_none}
use Rattle.lists.specs.Listing.{numbers}

abbrev number_of : Numbered → ℕ
number_of r = r.number

map-append : (rs ts : Rows) → map number_of (rs ++ ts) ≡ map number_of rs ++ map number_of ts
map-append [] ts = refl
map-append (r ∷ rs) ts = ap (λ (ns : List ℕ). r.number ∷ ns) (map-append rs ts)

pub numbers_chosen : (m : ℕ) (t s : ℕ → Bool) (Sheet : ℕ → Row) → ((j : ℕ) → j < m → t j ≡ s j) → numbers m t ≡ map number_of (chosen (by_number s) (numbered m Sheet))
unfolding numbers
numbers_chosen zero t s Sheet h = rw (no_rows Sheet, chosen_none (by_number s))
numbers_chosen (suc m) t s Sheet h =
    rw (numbered_end m Sheet, chosen_end (by_number s) (numbered m Sheet) (record { number = suc m; row = Sheet m }), map-append (chosen (by_number s) (numbered m Sheet)) (with_row (s m) (record { number = suc m; row = Sheet m }) []))
    (ap₂ ◌++◌ (numbers_chosen m t s Sheet (λ j l. h j (omega arith))) (ap (λ (b : Bool). listed_if b (suc m)) (h m (omega arith)) ∙ one (s m)))
  where
    one : (b : Bool) → listed_if b (suc m) ≡ map number_of (with_row b (record { number = suc m; row = Sheet m }) [])
    one true = refl
    one false = refl

-- nothing past place q is picked
numbers_cut : (q m : ℕ) (t : ℕ → Bool) → q ≤ m → ((j : ℕ) → q ≤ j → j < m → t j ≡ false) → numbers m t ≡ numbers q t
unfolding numbers
numbers_cut q zero t l h = let e : 0 ≡ q = omega arith in ap (λ (z : ℕ). numbers z t) e
numbers_cut q (suc m) t l h = go (same_dec q (suc m)) (numbers_cut q m t)
  where
    go : (q ≡ suc m) ⊎ (q ≢ suc m) → (q ≤ m → ((j : ℕ) → q ≤ j → j < m → t j ≡ false) → numbers m t ≡ numbers q t) → numbers m t ++ listed_if (t m) (suc m) ≡ numbers q t
    go (inl e) f = ap (λ (z : ℕ). numbers z t) (sym e)
    go (inr e) f = rw (h m (omega arith) (omega arith)) (append-nil (numbers m t) ∙ f (omega arith) (λ j a b. h j a (omega arith)))

pub numbers_failed : (q m : ℕ) (t s : ℕ → Bool) (kept : ℕ → Bool) (Sheet : ℕ → Row) → q < m → Earlier kept q s → ((j : ℕ) → j < m → t j ≡ same q j ⊕ s j)
    → numbers m t ≡ map number_of (chosen (by_number s) (numbered q Sheet) ++ (record { number = suc q; row = Sheet q } ∷ []))
unfolding numbers
numbers_failed q m t s kept Sheet l early h =
    numbers_cut (suc q) m t l past
    ∙ ap₂ ◌++◌ (numbers_chosen q t s Sheet below) (ap (λ (b : Bool). listed_if b (suc q)) here)
    ∙ sym (map-append (chosen (by_number s) (numbered q Sheet)) (record { number = suc q; row = Sheet q } ∷ []))
  where
    none : (j : ℕ) → q ≤ j → s j ≡ false
    none j a = go (bool_dec (s j))
      where
        go : (s j ≡ true) ⊎ (s j ≡ false) → s j ≡ false
        go (inl e) = let b = (early j e).0 in absurd (omega arith)
        go (inr e) = e

    past : (j : ℕ) → suc q ≤ j → j < m → t j ≡ false
    past j a b = h j b ∙ rw (same_ne q j (λ (z : q ≡ j). absurd (omega arith)), none j (omega arith))

    below : (j : ℕ) → j < q → t j ≡ s j
    below j a = h j (omega arith) ∙ rw (same_ne q j (λ (z : q ≡ j). absurd (omega arith)))

    here : t q ≡ true
    here = h q l ∙ rw (same_refl q, none q (omega arith))
