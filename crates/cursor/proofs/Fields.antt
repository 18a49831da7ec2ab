-- FIELDS AT ANY BIT, out of a window of 64 bits.
--   field_of_window    the first bits of the window
-- Assumes nothing.
use mathlib.Core.List.{List}
use mathlib.Core.Path.{◌≡◌, sym, ap, ◌∙◌}
use Prim.Native.Nat.{ℕ, ◌+◌, ◌-◌, ◌*◌, ◌/◌, ◌%◌, ◌^◌, ◌≤◌}
use native.Mathlib.Omega.{arith}
use lib.ListN.{drop, length, take, length-drop}
use Rattle.format.proofs.Bytes.{length-bits_of}
use Rattle.format.proofs.Values.{value_front}
use Rattle.format.specs.Bits.{bits_of, value_of}

-- what `field` computes of the window at bit at
pub field_of_window : (s : List ℕ) (at count w : ℕ) → at / 8 + 9 ≤ length s → count ≤ 64
    → w ≡ value_of (take 64 (drop (8 * (at / 8) + at % 8) (bits_of s)))
    → w / 2 ^ (64 - count) ≡ value_of (take count (drop at (bits_of s)))
field_of_window s at count w h l ew =
    let e : 8 * (at / 8) + at % 8 ≡ at = omega arith in
    ap (λ (n : ℕ). n / 2 ^ (64 - count)) (ew ∙ ap (λ (n : ℕ). value_of (take 64 (drop n (bits_of s)))) e)
    ∙ sym (value_front (drop at (bits_of s)) count 64 l (simp (length-drop, length-bits_of) (omega arith)))
