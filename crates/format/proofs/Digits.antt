-- LAWS OF BINARY DIGITS: a number's digits and the number that a run of bits writes are inverse to each other.
--   length-bits_n, value_of-bits_n          k digits of v, and their value v % 2 ^ k
--   value_of-lt, value_of-append           the value of a run, and of two runs
--   bits_n-value_of, bits_back             the digits of a run's value are the run
--   bits_n-split, bits_n-cat, bits_n-mod    digits cut in two, put together, and taken of a remainder
--   bits_more                            k digits of n, and t more
--   take-bits_n, drop-bits_n, get_or-bits_n   the first digits of a word, the others, and one of them
--   bits_n-zero, value_of-zeros, zeros_back, value_of-pad   zeros
-- Assumes nothing.
use mathlib.Core.Bool.{Bool, true, false}
use mathlib.Core.List.{List, [], ◌∷◌, ◌++◌}
use mathlib.Core.Path.{◌≡◌, refl, sym, ap, ap₂, ◌∙◌}
use Prim.Native.Nat.{ℕ, zero, suc, ◌+◌, ◌-◌, ◌*◌, ◌/◌, ◌%◌, ◌^◌, ◌≤◌, ◌<◌}
use native.Mathlib.Nat.{add-zero, mod-lt, mul_assoc, zero-add, suc-add, le_of_suc-le-suc, not-suc-le-zero, zero-mul, one-mul, add_comm, mod-one, mul-add-mod_self_right, mul-add-div_right, pow-suc, zero-lt-suc, zero-div}
use native.Mathlib.Numerals.{one-add}
use native.Mathlib.Omega.{arith}
use lib.Arith.{digits_lt}
use lib.Dec.{eqb}
use lib.ListN.{drop, length, take, length-append, get_or, replicate, length-replicate}
use lib.Pow.{pow_pos, pow-add, high, mod-pow-add, shr-shr, split}
use lib.Seq.{take_at, drop_at}
use Rattle.format.specs.Bits.{bit_val, odd, bits_n, value_of}

-- ---- one digit

odd_small : (r : ℕ) → r < 2 → bit_val (eqb r 1) ≡ r
odd_small zero h = refl
odd_small (suc zero) h = refl
odd_small (suc (suc r)) h = absurd (not-suc-le-zero (le_of_suc-le-suc (le_of_suc-le-suc h)))

bit_val-odd : (n : ℕ) → bit_val (odd n) ≡ n % 2
unfolding odd
bit_val-odd n = odd_small (n % 2) (mod-lt n (zero-lt-suc 1))

odd-bit_val : (b : Bool) → odd (bit_val b) ≡ b
unfolding odd
odd-bit_val true = refl
odd-bit_val false = refl

odd_even_add : (a b : ℕ) → odd (a * 2 + b) ≡ odd b
unfolding odd
odd_even_add a b = ap (λ (x : ℕ). eqb x 1) (mul-add-mod_self_right a 2 b)

bit_val-lt : (b : Bool) → bit_val b < 2
bit_val-lt true = omega arith
bit_val-lt false = omega arith

-- ---- lengths and values

pub length-bits_n : (k v : ℕ) → length (bits_n k v) ≡ k
unfolding bits_n
length-bits_n zero v = refl
length-bits_n (suc k) v = ap suc (length-bits_n k v)

pub value_of-append : (xs ys : List Bool) → value_of (xs ++ ys) ≡ value_of xs * 2 ^ length ys + value_of ys
unfolding value_of
value_of-append [] ys = omega arith
value_of-append (x ∷ xs) ys =
    let e : 2 ^ length (xs ++ ys) ≡ 2 ^ length xs * 2 ^ length ys = ap (λ (k : ℕ). 2 ^ k) (length-append xs ys) ∙ pow-add 2 (length xs) (length ys) in
    rw (e, value_of-append xs ys) (omega (arith, mul_assoc (bit_val x) (2 ^ length xs) (2 ^ length ys)))

pub value_of-lt : (xs : List Bool) → value_of xs < 2 ^ length xs
unfolding value_of
value_of-lt [] = omega arith
value_of-lt (x ∷ xs) = rw pow-suc (omega (arith, digits_lt (bit_val-lt x) (value_of-lt xs)))

pub value_of-bits_n : (k v : ℕ) → value_of (bits_n k v) ≡ v % 2 ^ k
unfolding value_of bits_n
value_of-bits_n zero v = sym (mod-one v)
value_of-bits_n (suc k) v =
    ap₂ (λ (x y : ℕ). bit_val (odd (v / 2 ^ k)) * 2 ^ x + y) (length-bits_n k v) (value_of-bits_n k v)
    ∙ ap (λ (x : ℕ). x * 2 ^ k + v % 2 ^ k) (bit_val-odd (v / 2 ^ k))
    ∙ sym (mod-pow-add v 1 k)
    ∙ ap (λ (x : ℕ). v % 2 ^ x) (one-add k)

-- ---- digits, cut

pub bits_n-split : (j k v : ℕ) → bits_n (j + k) v ≡ bits_n j (v / 2 ^ k) ++ bits_n k v
unfolding bits_n
bits_n-split zero k v = ap (λ (x : ℕ). bits_n x v) (zero-add k)
bits_n-split (suc j) k v =
    ap (λ (x : ℕ). bits_n x v) (suc-add j k)
    ∙ ap₂ (λ (b : Bool) (bs : List Bool). b ∷ bs) (ap (λ (x : ℕ). odd (v / 2 ^ x)) (add_comm j k) ∙ ap odd (sym (shr-shr v k j))) (bits_n-split j k v)

bits_n-over : (k a b : ℕ) → bits_n k (a * 2 ^ k + b) ≡ bits_n k b
unfolding bits_n
bits_n-over zero a b = refl
bits_n-over (suc k) a b =
    let e : a * 2 ^ suc k ≡ a * 2 * 2 ^ k = omega (arith, pow-suc 2 k, ap (λ (x : ℕ). a * x) (pow-suc 2 k)) in
    ap₂ (λ (c : Bool) (bs : List Bool). c ∷ bs)
    (ap (λ (x : ℕ). odd ((x + b) / 2 ^ k)) e ∙ ap odd (mul-add-div_right (pow_pos k) (a * 2) b) ∙ odd_even_add a (b / 2 ^ k))
    (ap (λ (x : ℕ). bits_n k (x + b)) e ∙ bits_n-over k (a * 2) b)

-- digits above the k lowest do not matter
pub bits_n-mod : (k v : ℕ) → bits_n k (v % 2 ^ k) ≡ bits_n k v
bits_n-mod k v = sym (bits_n-over k (v / 2 ^ k) (v % 2 ^ k)) ∙ ap (bits_n k) (split v k)

-- a number put together from a high part and j low digits
pub bits_n-cat : (j k a : ℕ) {b : ℕ} → b < 2 ^ k → bits_n (j + k) (a * 2 ^ k + b) ≡ bits_n j a ++ bits_n k b
bits_n-cat j k a {b} h = bits_n-split j k (a * 2 ^ k + b) ∙ ap₂ (λ (x : ℕ) (bs : List Bool). bits_n j x ++ bs) (high a k h) (bits_n-over k a b)

pub bits_n-value_of : (bs : List Bool) → bits_n (length bs) (value_of bs) ≡ bs
unfolding bits_n value_of
bits_n-value_of [] = refl
bits_n-value_of (b ∷ bs) =
    ap₂ (λ (c : Bool) (xs : List Bool). c ∷ xs)
    (ap odd (high (bit_val b) (length bs) (value_of-lt bs)) ∙ odd-bit_val b)
    (bits_n-over (length bs) (bit_val b) (value_of bs) ∙ bits_n-value_of bs)

pub bits_back : (k : ℕ) (bs : List Bool) → length bs ≡ k → bits_n k (value_of bs) ≡ bs
bits_back k bs e = ap (λ (i : ℕ). bits_n i (value_of bs)) (sym e) ∙ bits_n-value_of bs

-- k bits of a field of n, and t more
pub bits_more : (n k t v : ℕ) → k + t ≤ n → bits_n k (v / 2 ^ (n - k)) ++ bits_n t (v / 2 ^ (n - k - t) % 2 ^ t) ≡ bits_n (k + t) (v / 2 ^ (n - (k + t)))
bits_more n k t v h =
    let d : ℕ = n - (k + t) in
    let e : n - k ≡ d + t = omega arith in
    let f : n - k - t ≡ d = omega arith in
    ap₂ (λ (x y : ℕ). bits_n k (v / 2 ^ x) ++ bits_n t (v / 2 ^ y % 2 ^ t)) e f
    ∙ ap₂ (λ (x : ℕ) (r : List Bool). bits_n k x ++ r) (sym (shr-shr v d t)) (bits_n-mod t (v / 2 ^ d))
    ∙ sym (bits_n-split k t (v / 2 ^ d))

-- the first bits of a word
pub take-bits_n : (k v : ℕ) → k ≤ 64 → take k (bits_n 64 v) ≡ bits_n k (v / 2 ^ (64 - k))
take-bits_n k v h =
    let e : 64 ≡ k + (64 - k) = omega arith in
    ap (λ (j : ℕ). take k (bits_n j v)) e
    ∙ ap (take k) (bits_n-split k (64 - k) v)
    ∙ take_at (bits_n k (v / 2 ^ (64 - k))) (bits_n (64 - k) v) k (length-bits_n k (v / 2 ^ (64 - k)))

pub drop-bits_n : (k v : ℕ) → k ≤ 64 → drop k (bits_n 64 v) ≡ bits_n (64 - k) v
drop-bits_n k v h =
    let e : 64 ≡ k + (64 - k) = omega arith in
    ap (λ (j : ℕ). drop k (bits_n j v)) e
    ∙ ap (drop k) (bits_n-split k (64 - k) v)
    ∙ drop_at (bits_n k (v / 2 ^ (64 - k))) (bits_n (64 - k) v) k (length-bits_n k (v / 2 ^ (64 - k)))

pub get_or-bits_n : (k v i : ℕ) → i < k → get_or (bits_n k v) i false ≡ odd (v / 2 ^ (k - suc i))
unfolding bits_n
get_or-bits_n zero v i h = absurd (omega arith)
get_or-bits_n (suc k) v zero h = let e : k ≡ suc k - 1 = omega arith in ap (λ (j : ℕ). odd (v / 2 ^ j)) e
get_or-bits_n (suc k) v (suc i) h = let e : k - suc i ≡ suc k - suc (suc i) = omega arith in get_or-bits_n k v i (omega arith) ∙ ap (λ (j : ℕ). odd (v / 2 ^ j)) e

-- ---- zeros

pub bits_n-zero : (k : ℕ) → bits_n k 0 ≡ replicate k false
unfolding bits_n odd
bits_n-zero zero = refl
bits_n-zero (suc k) = ap₂ (λ (b : Bool) (bs : List Bool). b ∷ bs) (ap odd (zero-div (2 ^ k))) (bits_n-zero k)

pub value_of-zeros : (k : ℕ) → value_of (replicate k false) ≡ 0
unfolding value_of
value_of-zeros zero = refl
value_of-zeros (suc k) = omega (arith, value_of-zeros k, zero-mul (2 ^ length (replicate k false)))

pub zeros_back : (bs : List Bool) → value_of bs ≡ 0 → bs ≡ replicate (length bs) false
unfolding value_of
zeros_back [] e = refl
zeros_back (true ∷ bs) e = absurd (omega (arith, pow_pos (length bs), one-mul (2 ^ length bs)))
zeros_back (false ∷ bs) e = ap (λ (r : List Bool). false ∷ r) (zeros_back bs (omega (arith, zero-mul (2 ^ length bs))))

pub value_of-pad : (bs : List Bool) (k : ℕ) → value_of (bs ++ replicate k false) ≡ value_of bs * 2 ^ k
value_of-pad bs k =
    value_of-append bs (replicate k false)
    ∙ ap₂ (λ (n v : ℕ). value_of bs * 2 ^ n + v) (length-replicate k false) (value_of-zeros k)
    ∙ add-zero (value_of bs * 2 ^ k)
