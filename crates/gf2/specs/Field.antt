-- THE TWO-ELEMENT FIELD on Bool: addition is `⊕`, multiplication is `&&`.
--   a ⊕ b      exactly one of the two
--   xsum n f   f 0 ⊕ f 1 ⊕ … ⊕ f (n - 1)
--   same u v   whether two numbers are the same
-- Assumes nothing.
use Rattle.std.specs.Prelude.{Bool, true, false, not, ℕ, zero, suc}

infixl 32 ◌⊕◌
abbrev pub ◌⊕◌ : Bool → Bool → Bool
true ⊕ b = not b
false ⊕ b = b

unfoldable pub xsum : ℕ → (ℕ → Bool) → Bool
xsum zero f = false
xsum (suc n) f = f zero ⊕ xsum n (λ i. f (suc i))

abbrev pub same : ℕ → ℕ → Bool
same zero zero = true
same zero (suc v) = false
same (suc u) zero = false
same (suc u) (suc v) = same u v
