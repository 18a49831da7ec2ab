-- THE RECORD AND THE HOMES, two lists in the same words: what is set in one stays out of the other.
--   record_done    what set_entry has done, where the word it sets has the code below home_step, and above it what it had
--   home_done      what set_home has done, the other way round
-- Assumes nothing.
use mathlib.Core.Path.{◌≡◌, ap, ◌∙◌}
use mathlib.Core.List.{List}
use mathlib.Core.Logic.{◌⊎◌, inl, inr, ◌≢◌}
use Prim.Native.Nat.{ℕ, ◌+◌, ◌-◌, ◌/◌, ◌%◌, ◌<◌, ◌≤◌}
use native.Mathlib.Omega.{arith}
use lib.ListN.{length, get_or, set, length-set}
use lib.Seq.{get_or-set_same, get_or-set_other}
use Rattle.gf2.proofs.Sums.{same_dec}
use Rattle.tableau.specs.Layout.{max_vars, max_taken, record_at, home_step, size}
use Rattle.tableau.specs.Buffer.{entry_at, home_at, Recorded, Homed}

-- ---- a word of the record set to y
module _ (ws : List ℕ) (i y : ℕ) (l : record_at + i < length ws) where
  abbrev after : List ℕ
  after = set ws (record_at + i) y

  -- a part of a word stays if it stays in y
  part_stays : (f : ℕ → ℕ) → f y ≡ f (get_or ws (record_at + i) 0) → (j : ℕ) → f (get_or after (record_at + j) 0) ≡ f (get_or ws (record_at + j) 0)
  part_stays f e j = go (same_dec j i)
    where
      go : (j ≡ i) ⊎ (j ≢ i) → f (get_or after (record_at + j) 0) ≡ f (get_or ws (record_at + j) 0)
      go (inl z) = rw z (ap f (get_or-set_same ws (record_at + i) y 0 l) ∙ e)
      go (inr z) = ap f (get_or-set_other ws (record_at + i) (record_at + j) y 0 (λ (q : record_at + j ≡ record_at + i). z (omega arith)))

  others : (j : ℕ) → j ≢ i → get_or after (record_at + j) 0 ≡ get_or ws (record_at + j) 0
  others j d = get_or-set_other ws (record_at + i) (record_at + j) y 0 (λ (q : record_at + j ≡ record_at + i). d (omega arith))

  before : (j : ℕ) → j < record_at → get_or after j 0 ≡ get_or ws j 0
  before j h = get_or-set_other ws (record_at + i) j y 0 (λ (z : j ≡ record_at + i). absurd (omega arith))

pub record_done : (ws : List ℕ) (j code y : ℕ) → size ≤ length ws → j < max_taken → y % home_step ≡ code → y / home_step ≡ get_or ws (record_at + j) 0 / home_step → Recorded j code ws (set ws (record_at + j) y)
unfolding entry_at home_at
record_done ws j code y big l new old =
    record {
      len = length-set ws (record_at + j) y;
      here = ap (λ (x : ℕ). x % home_step) (get_or-set_same ws (record_at + j) y 0 (omega arith)) ∙ new;
      others = λ i d. ap (λ (x : ℕ). x % home_step) (others ws j y (omega arith) i d);
      homes = λ v. part_stays ws j y (omega arith) (λ x. x / home_step) old (v - 1);
      rest = before ws j y (omega arith);
    }

pub home_done : (ws : List ℕ) (v r y : ℕ) → size ≤ length ws → 0 < v → v ≤ max_vars → y / home_step ≡ r → y % home_step ≡ get_or ws (record_at + (v - 1)) 0 % home_step → Homed v r ws (set ws (record_at + (v - 1)) y)
unfolding entry_at home_at
home_done ws v r y big lo hi new old =
    record {
      len = length-set ws (record_at + (v - 1)) y;
      here = ap (λ (x : ℕ). x / home_step) (get_or-set_same ws (record_at + (v - 1)) y 0 (omega arith)) ∙ new;
      others = λ u p d. ap (λ (x : ℕ). x / home_step) (others ws (v - 1) y (omega arith) (u - 1) (λ (z : u - 1 ≡ v - 1). d (omega arith)));
      entries = part_stays ws (v - 1) y (omega arith) (λ x. x % home_step) old;
      rest = before ws (v - 1) y (omega arith);
    }
