-- THE NUMBERS OF VARIABLES AND OF ROWS as one value.
--   HasNumbers n m h     h has n variables and m rows
-- Assumes nothing.
use Rattle.std.specs.Prelude.{◌≡◌, ℕ}
use Rattle.cursor.specs.declared.shape.Shape.{Shape}

pub record HasNumbers (n m : ℕ) (h : Shape) : Type 0 where
  pub n_is : h.n ≡ n
  pub m_is : h.m ≡ m
