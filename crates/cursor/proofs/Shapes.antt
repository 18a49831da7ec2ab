-- SHAPES BY THEIR NUMBERS.
--   shapes_same       two shapes with the same numbers are the same
-- Assumes nothing.
use Rattle.std.proofs.Common.{◌≡◌, ℕ, ◌≤◌, sym, ◌∙◌}
use Rattle.std.proofs.Math.Bridge.{le_prop}
use mathlib.Core.HLevel.{is_prop→PathP}
use Rattle.cursor.specs.Shape.{HasNumbers}
use Rattle.cursor.specs.declared.shape.Shape.{Shape}

pub shapes_same : (n m : ℕ) (a b : Shape) → HasNumbers n m a → HasNumbers n m b → a ≡ b
shapes_same n m a b h g =
    let p = h.n_is ∙ sym g.n_is in
    let q = h.m_is ∙ sym g.m_is in
    λ i. record { n = p i; m = q i; n_fits = is_prop→PathP (λ j. p j ≤ 512) (λ j. le_prop) a.n_fits b.n_fits i; m_fits = is_prop→PathP (λ j. q j ≤ 256) (λ j. le_prop) a.m_fits b.m_fits i }
