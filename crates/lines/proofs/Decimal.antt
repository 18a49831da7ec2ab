-- DECIMAL TEXT: the digits that `io::decimal` writes of a number of 64 bits are `dec` of it, and at most 20.
-- Assumes nothing.
use mathlib.Core.Path.{◌≡◌, refl, ap, ◌∙◌}
use mathlib.Core.Bool.{Bool, true, false, cond}
use mathlib.Core.List.{[], ◌∷◌, ◌++◌}
use Prim.Native.Nat.{ℕ, zero, suc, ◌+◌, ◌-◌, ◌/◌, ◌%◌, ◌^◌, ◌<◌, ◌≤◌}
use native.Mathlib.Nat.{pow-suc, div-lt_iff_lt-mul, le-div_iff_mul-le, pow-le-pow_right, mod-eq_of_lt}
use native.Mathlib.Omega.{arith}
use native.Mathlib.Numerals.{unary_clauses}
use lib.Dec.{ltb, lit<}
use borrow.Author.Tests.{ltb-true, ltb-false, lt-ltb}
use Rattle.io.specs.Digits.{last_digits, hex_digit_ascii, IsDigitCount}
use Rattle.lines.specs.Lines.{decimal, dec}

-- a number below 10 has one digit
single : (n j : ℕ) → n < 10 → (1 ≤ j → 10 ^ j ≤ n) → suc j ≡ 1
single n zero h lo = refl
single n (suc j) h lo =
    let p : 10 ^ 1 ≤ 10 ^ suc j = pow-le-pow_right (lit< tt) {i = 1} {j = suc j} (omega arith) in
    let l : 10 ^ suc j ≤ n = lo (omega arith) in
    let z : ⊥ = omega arith in
    absurd z

digit : (d : ℕ) → d < 10 → hex_digit_ascii d ≡ 48 + d
digit d h = rw (lt-ltb d 10 h)

one_digit : (n j : ℕ) → n < 10 → (1 ≤ j → 10 ^ j ≤ n) → last_digits 10 (suc j) n ≡ (48 + n) ∷ []
one_digit n j h lo = ap (λ (k : ℕ). last_digits 10 k n) (single n j h lo) ∙ rw (mod-eq_of_lt h, digit n h)

-- one more place, by the test that `decimal` makes
step : (f n : ℕ) (t : Bool) → ltb n 10 ≡ t
    → ((j : ℕ) → n / 10 < 10 ^ suc j → (1 ≤ j → 10 ^ j ≤ n / 10) → last_digits 10 (suc j) (n / 10) ≡ decimal f (n / 10)) → (j : ℕ) → n < 10 ^ suc j
    → (1 ≤ j → 10 ^ j ≤ n) → last_digits 10 (suc j) n ≡ cond t ((48 + n) ∷ []) (decimal f (n / 10) ++ ((48 + n % 10) ∷ []))
step f n true e less j hi lo = one_digit n j (ltb-true n 10 e) lo
step f n false e less zero hi lo = let l = ltb-false n 10 e in let z : ⊥ = omega arith in absurd z
step f n false e less (suc j) hi lo =
    let s = less j ((div-lt_iff_lt-mul (lit< tt)).1 (rw pow-suc at hi)) (λ l. (le-div_iff_mul-le (lit< tt)).1 (rw pow-suc at (lo (omega arith)))) in
    rw (s, digit (n % 10) (omega arith))

decimal_of : (f n j : ℕ) → n < 10 ^ suc f → n < 10 ^ suc j → (1 ≤ j → 10 ^ j ≤ n) → last_digits 10 (suc j) n ≡ decimal f n
decimal_of zero n j h hi lo = one_digit n j h lo
decimal_of (suc f) n j h hi lo = step f n (ltb n 10) refl (λ i. decimal_of f (n / 10) i ((div-lt_iff_lt-mul (lit< tt)).1 (rw pow-suc at h))) j hi lo

pub fewest_dec : (n k : ℕ) → n < 2 ^ 64 → IsDigitCount 10 1 n k → last_digits 10 k n ≡ dec n
unfolding dec
fewest_dec n zero fits w = let z : ⊥ = omega (arith, w.0) in absurd z
fewest_dec n (suc j) fits w =
    let h : n < 10 ^ 20 = omega arith in
    decimal_of 19 n j h w.1 (λ l. simp unary_clauses at (w.2 (omega arith)))

pub fewest_room : (n k : ℕ) → n < 2 ^ 64 → IsDigitCount 10 1 n k → k ≤ 20
fewest_room n k fits w =
    let no : 20 < k → ⊥ = λ l.
    let p : 10 ^ 20 ≤ 10 ^ (k - 1) = pow-le-pow_right (lit< tt) {i = 20} {j = k - 1} (omega arith) in
    let q : 10 ^ (k - 1) ≤ n = w.2 (omega arith) in
    omega arith in
    omega arith
