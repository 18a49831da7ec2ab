-- THE FIRST 4,096 WORDS OF A WORKING BUFFER, worked on by themselves.
--   front_long, front_bit   they are 4,096; their bits are the buffer's, and (front_home) their homes
--   replaced_..             the buffer with other words in their place: its front, its length and its rest
-- Assumes nothing.
use mathlib.Core.Path.{◌≡◌, sym, ap, ◌∙◌}
use mathlib.Core.List.{List, ◌++◌}
use lib.ListN.{length, take, drop, length-take, length-drop, length-append}
use lib.Seq.{get_or-take, take-append_seam, drop-append_seam}
use Prim.Native.Nat.{ℕ, ◌+◌, ◌-◌, ◌/◌, ◌%◌, ◌≤◌, ◌<◌}
use native.Mathlib.Omega.{arith}
use Rattle.words.specs.Words.{bit_of, bit_at}
use Rattle.tableau.specs.Layout.{max_vars, record_at, home_step, size}
use Rattle.tableau.specs.Buffer.{home_at}
use Rattle.parity.specs.Promises.{Worked}

pub front_long : (work : List ℕ) → size ≤ length work → length (take size work) ≡ size
front_long work l = let e = length-take size work in omega arith

-- their bits are the buffer's
pub front_bit : (work : List ℕ) → size ≤ length work → (off : ℕ) → off + 8 ≤ size → (i : ℕ) → i < 512 → bit_at (take size work) off i ≡ bit_at work off i
unfolding bit_at
front_bit work l off b i h = ap (λ (w : ℕ). bit_of w (63 - i % 64)) (get_or-take size work (off + i / 64) 0 (omega arith))

-- their homes are the buffer's
pub front_home : (work : List ℕ) (v : ℕ) → v ≤ max_vars → home_at (take size work) v ≡ home_at work v
unfolding home_at
front_home work v l = ap (λ (x : ℕ). x / home_step) (get_or-take size work (record_at + (v - 1)) 0 (omega arith))

module _ (work ws : List ℕ) (l : size ≤ length work) (e : length ws ≡ length (take size work)) where
  long : length ws ≡ size
  long = e ∙ front_long work l

  pub replaced_front : take size (ws ++ drop size work) ≡ ws
  replaced_front = ap (λ (z : ℕ). take z (ws ++ drop size work)) (sym long) ∙ take-append_seam ws (drop size work)

  pub replaced_worked : Worked work (ws ++ drop size work)
  replaced_worked = record {
    long = let a = length-append ws (drop size work) in let b = length-drop size work in let c = long in omega arith;
    rest = ap (λ (z : ℕ). drop z (ws ++ drop size work)) (sym long) ∙ drop-append_seam ws (drop size work);
  }
