-- THE ROWS OF A SHEET BY PLACE.
--   sheet_placed   row q of a sheet, counted from 0, begins where q rows of n + 1 bits end, and has the number q + 1
-- Assumes nothing.
use mathlib.Core.Bool.{Bool}
use mathlib.Core.List.{List, ◌∷◌}
use mathlib.Core.Path.{◌≡◌, refl, sym, ap, ap₂, ◌∙◌, fun_ext}
use Prim.Native.Nat.{ℕ, zero, suc, ◌+◌, ◌*◌}
use native.Mathlib.Nat.{add-zero, add-suc, zero-add, suc-add, zero-mul, suc-mul}
use native.Mathlib.Omega.{arith}
use lib.ListN.{drop}
use lib.Seq.{drop-drop}
use Rattle.format.specs.Sheet.{row_of, rows_from}
use Rattle.gf2.specs.Rows.{Row, Numbered, Rows}
use Rattle.gf2.specs.Places.{placed}

places : (n m number : ℕ) (bs : List Bool) → rows_from (suc number) n m bs ≡ placed m (λ i. suc (number + i)) (λ q. row_of n (drop (q * (n + 1)) bs))
unfolding rows_from placed
places n zero number bs = refl
places n (suc m) number bs =
    ap₂ (λ (c : Numbered) (r : Rows). c ∷ r)
    (ap₂ (λ (k i : ℕ). record { number = suc k; row = row_of n (drop i bs) }) (sym (add-zero number)) (sym (zero-mul (n + 1))))
    (places n m (suc number) (drop (n + 1) bs)
    ∙ ap₂ (λ (f : ℕ → ℕ) (R : ℕ → Row). placed m f R)
    (fun_ext (λ i. ap suc (suc-add number i ∙ sym (add-suc number i))))
    (fun_ext (λ q. ap (row_of n) (drop-drop (q * (n + 1)) (n + 1) bs ∙ ap (λ (k : ℕ). drop k bs) (next q)))))
  where
    next : (q : ℕ) → n + 1 + q * (n + 1) ≡ suc q * (n + 1)
    next q = omega (arith, suc-mul q (n + 1))

pub sheet_placed : (n m : ℕ) (bs : List Bool) → rows_from 1 n m bs ≡ placed m suc (λ q. row_of n (drop (q * (n + 1)) bs))
sheet_placed n m bs = places n m 0 bs ∙ ap (λ (f : ℕ → ℕ). placed m f (λ q. row_of n (drop (q * (n + 1)) bs))) (fun_ext (λ i. ap suc (zero-add i)))
