-- LAWS OF THE VALUES OF PARTS OF A RUN.
--   field_lt                  k bits are below 2 ^ k
--   value_front, value_back   the first c of k bits; the last d of c + d
--   value_more                k bits, and t more
--   shl_low, value_moved      a window of bits, moved on
-- Assumes nothing.
use mathlib.Core.Bool.{Bool}
use mathlib.Core.List.{List}
use mathlib.Core.Path.{◌≡◌, sym, ap, ap₂, ◌∙◌}
use Prim.Native.Nat.{ℕ, ◌+◌, ◌-◌, ◌*◌, ◌/◌, ◌%◌, ◌^◌, ◌≤◌, ◌<◌}
use native.Mathlib.Nat.{add-zero, mul-mod_left}
use native.Mathlib.Omega.{arith}
use lib.ListN.{drop, length, take, length-drop}
use lib.Pow.{high, low, shl-shr, mod-pow-add}
use lib.Seq.{drop-drop, take-add, length-take-le}
use Rattle.format.proofs.Digits.{value_of-append, value_of-lt}
use Rattle.format.specs.Bits.{value_of}

pub field_lt : (k at : ℕ) (bs : List Bool) → at + k ≤ length bs → value_of (take k (drop at bs)) < 2 ^ k
field_lt k at bs h =
    rw (length-take-le k (drop at bs) (simp length-drop (omega arith))) at (value_of-lt (take k (drop at bs)))

-- the first c of k bits
pub value_front : (bs : List Bool) (c k : ℕ) → c ≤ k → k ≤ length bs → value_of (take c bs) ≡ value_of (take k bs) / 2 ^ (k - c)
value_front bs c k h l =
    let d : ℕ = k - c in
    let e : k ≡ c + d = omega arith in
    let ly : length (take d (drop c bs)) ≡ d = length-take-le d (drop c bs) (simp length-drop (omega arith)) in
    sym (ap (λ (n : ℕ). value_of (take n bs) / 2 ^ d) e
    ∙ ap (λ (r : List Bool). value_of r / 2 ^ d) (take-add c d bs)
    ∙ ap (λ (n : ℕ). n / 2 ^ d) (value_of-append (take c bs) (take d (drop c bs)))
    ∙ ap (λ (n : ℕ). (value_of (take c bs) * 2 ^ n + value_of (take d (drop c bs))) / 2 ^ d) ly
    ∙ high (value_of (take c bs)) d (rw ly at (value_of-lt (take d (drop c bs)))))

-- the last d of c + d bits
pub value_back : (bs : List Bool) (c d : ℕ) → c + d ≤ length bs → value_of (take d (drop c bs)) ≡ value_of (take (c + d) bs) % 2 ^ d
value_back bs c d l =
    let ly : length (take d (drop c bs)) ≡ d = length-take-le d (drop c bs) (simp length-drop (omega arith)) in
    sym (ap (λ (r : List Bool). value_of r % 2 ^ d) (take-add c d bs)
    ∙ ap (λ (n : ℕ). n % 2 ^ d) (value_of-append (take c bs) (take d (drop c bs)))
    ∙ ap (λ (n : ℕ). (value_of (take c bs) * 2 ^ n + value_of (take d (drop c bs))) % 2 ^ d) ly
    ∙ low (value_of (take c bs)) d (rw ly at (value_of-lt (take d (drop c bs)))))

-- k bits, and t more
pub value_more : (bs : List Bool) (k t : ℕ) → k + t ≤ length bs → value_of (take (k + t) bs) ≡ value_of (take k bs) * 2 ^ t + value_of (take t (drop k bs))
value_more bs k t l =
    ap value_of (take-add k t bs)
    ∙ value_of-append (take k bs) (take t (drop k bs))
    ∙ ap (λ (n : ℕ). value_of (take k bs) * 2 ^ n + value_of (take t (drop k bs))) (length-take-le t (drop k bs) (simp length-drop (omega arith)))

-- `v << k` keeps the j low digits of j + k
pub shl_low : (v j k : ℕ) → v * 2 ^ k % 2 ^ (j + k) ≡ v % 2 ^ j * 2 ^ k
shl_low v j k =
    mod-pow-add (v * 2 ^ k) j k
    ∙ ap₂ (λ (a b : ℕ). a % 2 ^ j * 2 ^ k + b) (shl-shr v k) (mul-mod_left v (2 ^ k))
    ∙ add-zero (v % 2 ^ j * 2 ^ k)

-- the window of j + k bits, moved on by k
pub value_moved : (bs : List Bool) (j k : ℕ) → j + k + k ≤ length bs
    → value_of (take (j + k) (drop k bs)) ≡ value_of (take (k + j) bs) * 2 ^ k % 2 ^ (j + k) + value_of (take k (drop (k + j) bs))
value_moved bs j k l =
    value_more (drop k bs) j k (simp length-drop (omega arith))
    ∙ ap₂ (λ (a : ℕ) (r : List Bool). a * 2 ^ k + value_of (take k r)) (value_back bs k j (omega arith)) (drop-drop j k bs)
    ∙ ap (λ (a : ℕ). a + value_of (take k (drop (k + j) bs))) (sym (shl_low (value_of (take (k + j) bs)) j k))
