-- THE PLACES OF A WORD'S ONES, the top one first: place 0 is the top bit.
--   Top x i y        i is the place of the top one of x, and y has the other ones of x
--   TakesTop s r t   what a step of the iterator gives and leaves: the place of the top one that is left, or nothing where none is
--   left s           it ends: what is left grows smaller
-- Assumes nothing.
use Rattle.std.specs.Prelude.{◌≡◌, true, false, Option, None, Some, ℕ, ◌-◌, ◌<◌, ◌≤◌}
use Rattle.std.specs.Iterator.{Count, at_most}
use Rattle.words.specs.declared.Ones.{Ones}
use Rattle.words.specs.Words.{bit_of}

pub record Top (x i y : ℕ) : Type 0 where
  pub place : i < 64
  pub has : bit_of x (63 - i) ≡ true
  pub above : (j : ℕ) → j < i → bit_of x (63 - j) ≡ false
  pub gone : (j : ℕ) → j ≤ i → bit_of y (63 - j) ≡ false
  pub rest : (j : ℕ) → i < j → j < 64 → bit_of y (63 - j) ≡ bit_of x (63 - j)
  pub less : y < x

abbrev pub TakesTop : Ones → Option ℕ → Ones → Type 0
TakesTop s None t = (s.0 ≡ 0) × (t.0 ≡ 0)
TakesTop s (Some i) t = Top s.0 i t.0

abbrev pub left : Ones → Count
left s = at_most s.0
