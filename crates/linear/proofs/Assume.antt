-- ONE MORE ASSUMPTION against a value that follows.
--   clash      a bit is not both
--   opposite   to assume the other value of a variable that has one is a conflict
-- Assumes nothing.
use mathlib.Core.Path.{◌≡◌, refl, sym, ◌∙◌}
use mathlib.Core.Bool.{Bool, true, false, true≢false}
use mathlib.Core.Logic.{inl, inr, ◌≢◌}
use Prim.Native.Nat.{ℕ}
use Rattle.gf2.specs.Rows.{Row}
use Rattle.linear.specs.Systems.{Assumptions, Implied, Conflict, And}

pub clash : (b : Bool) → b ≡ true → b ≡ false → ⊥
clash b x y = true≢false (sym x ∙ y)

pub opposite : (n k : ℕ) (R : ℕ → Row) (A : Assumptions) (v : ℕ) (b c : Bool) → Implied n k R A v b → b ≢ c → Conflict n k R (And A v c)
opposite n k R A v b c h d a s g = d (sym (h a s (λ u e x. g u e (inl x))) ∙ g v c (inr (refl, refl)))
