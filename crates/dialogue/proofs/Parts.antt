-- THE SHEET'S PART OF AN INPUT, as the reader sees it.
--   part_head     it has the head of the input
--   never_longer  so it is never longer than its size: refusal 4 does not occur in a session
-- Assumes nothing.
use mathlib.Core.Path.{◌≡◌, refl, ap, ◌∙◌}
use mathlib.Core.Bool.{Bool, true, false, cond}
use mathlib.Core.List.{List}
use Prim.Native.Nat.{ℕ, ◌-◌, ◌*◌, ◌<◌, ◌≤◌, min}
use native.Mathlib.Omega.{arith}
use borrow.Author.Tests.{ltb-true, ltb-false}
use lib.Dec.{ltb}
use lib.ListN.{length, take, drop, length-take}
use Rattle.format.specs.Bits.{bits_of, value_of}
use Rattle.format.specs.Refusals.{refusal}
use Rattle.format.specs.Sheet.{n_of, m_of, size_for, padding_of, reader}
use Rattle.format.proofs.Bytes.{take-bits}
use Rattle.format.proofs.Runs.{drop-take, take_min}
use Rattle.dialogue.specs.Dialogue.{sheet_end}

pub part_head : (k : ℕ) (s : List ℕ) → 3 ≤ k → k ≤ length s → (n_of (take k s) ≡ n_of s) × (m_of (take k s) ≡ m_of s)
part_head k s h l =
    let e : bits_of (take k s) ≡ take (k * 8) (bits_of s) = take-bits k s l in
    let a : min 10 (k * 8) ≡ 10 = omega arith in
    let b : min 9 (k * 8 - 10) ≡ 9 = omega arith in (
      ap (λ (bs : List Bool). value_of (take 10 bs)) e ∙ ap value_of (take_min 10 (k * 8) (bits_of s) ∙ ap (λ (i : ℕ). take i (bits_of s)) a),
      ap (λ (bs : List Bool). value_of (take 9 (drop 10 bs))) e
          ∙ ap value_of (ap (λ (bs : List Bool). take 9 bs) (drop-take 10 (k * 8) (bits_of s)) ∙ take_min 9 (k * 8 - 10) (drop 10 (bits_of s)) ∙ ap (λ (i : ℕ). take i (drop 10 (bits_of s))) b),
    )

-- refusal 4 is given by its own line only
another : (b : Bool) (k r : ℕ) → cond b k r ≡ 4 → (k ≡ 4 → ⊥) → (b ≡ false) × (r ≡ 4)
another true k r e ne = absurd (ne e)
another false k r e ne = (refl, e)

fourth : (a b c : Bool) → ◌≡◌ {A = ℕ} (cond a 4 (cond b 5 (cond c 6 0))) 4 → a ≡ true
fourth true b c e = refl
fourth false true c e = absurd (omega arith)
fourth false false true e = absurd (omega arith)
fourth false false false e = absurd (omega arith)

longer : (s : List ℕ) (room : ℕ) → refusal (reader s room) ≡ 4 → (3 ≤ length s) × (size_for (n_of s) (m_of s) < length s)
longer s room e =
    let size : ℕ = size_for (n_of s) (m_of s) in
    let r₄ : ℕ = cond (ltb size (length s)) 4 (cond (ltb 0 (padding_of s)) 5 (cond (ltb room (9 * m_of s)) 6 0)) in
    let r₁ : ℕ = cond (ltb (length s) size) 1 r₄ in
    let r₃ : ℕ = cond (ltb 256 (m_of s)) 3 r₁ in
    let r₂ : ℕ = cond (ltb 512 (n_of s)) 2 r₃ in
    let p₀ = another (ltb (length s) 3) 1 r₂ e (λ z. omega arith) in
    let p₂ = another (ltb 512 (n_of s)) 2 r₃ p₀.1 (λ z. omega arith) in
    let p₃ = another (ltb 256 (m_of s)) 3 r₁ p₂.1 (λ z. omega arith) in
    let p₁ = another (ltb (length s) size) 1 r₄ p₃.1 (λ z. omega arith) in
    (ltb-false (length s) 3 p₀.0, ltb-true size (length s) (fourth (ltb size (length s)) (ltb 0 (padding_of s)) (ltb room (9 * m_of s)) p₁.1))

part_longer : (k : ℕ) (s : List ℕ) (room : ℕ) → k ≡ sheet_end s → refusal (reader (take k s) room) ≡ 4 → ⊥
part_longer k s room e f =
    let l = longer (take k s) room f in
    let t = length-take k s in
    let g : length (take k s) ≡ k = omega arith in
    let low : 3 ≤ k = omega (arith, l.0) in
    let p = part_head k s low (omega arith) in
    let z : size_for (n_of s) (m_of s) < length (take k s) = rw (p.0, p.1) at l.1 in
    omega arith

pub never_longer : (s : List ℕ) (room : ℕ) → refusal (reader (take (sheet_end s) s) room) ≡ 4 → ⊥
never_longer s room e = part_longer (sheet_end s) s room refl e
