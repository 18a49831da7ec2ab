-- SUMS OF SELECTED ROWS: a sum of rows holds wherever the rows do, and its selection is linear.
-- Assumes nothing.
use mathlib.Core.Path.{◌≡◌, ap, ◌∙◌}
use mathlib.Core.Bool.{Bool, ◌&&◌, and_assoc}
use Prim.Native.Nat.{ℕ, suc}
use Rattle.gf2.specs.Field.{◌⊕◌, xsum}
use Rattle.gf2.specs.Rows.{Row, Assignment, row_sum, Holds}
use Rattle.gf2.proofs.Field.{xor_and}
use Rattle.gf2.proofs.Sums.{sum_cong, sum_xor, sum_and, and_sum, sum_swap}
use Rattle.linear.specs.Systems.{Sat, combine}

module _ (n : ℕ) where
  pub sum_of_combine : (k : ℕ) (s : ℕ → Bool) (R : ℕ → Row) (a : Assignment) → row_sum n (combine k s R) a ≡ xsum k (λ r. s r && row_sum n (R r) a)
  unfolding row_sum combine
  sum_of_combine k s R a = simp (and_sum, and_assoc) (sum_swap n k (λ i r. s r && (R r (suc i) && a (suc i))) ∙ simp sum_and)

  -- a sum of rows holds wherever the rows do
  pub combine_sound : (k : ℕ) (s : ℕ → Bool) (R : ℕ → Row) (a : Assignment) → Sat n k R a → Holds n (combine k s R) a
  unfolding combine
  combine_sound k s R a h = sum_of_combine k s R a ∙ sum_cong k _ _ (λ r l. ap (λ (x : Bool). s r && x) (h r l))

-- combine is linear in the selection
pub combine_xor : (k : ℕ) (s t : ℕ → Bool) (R : ℕ → Row) (v : ℕ) → combine k (λ r. s r ⊕ t r) R v ≡ combine k s R v ⊕ combine k t R v
unfolding combine
combine_xor k s t R v = simp (xor_and, sum_xor)
