-- LAWS OF BYTES AS BITS.
--   length-bits_of, bits_of-append   eight bits to a byte, in order
--   take-bits, drop_bits       the bits of the first bytes, and of the others
--   bytes_same, byte_take      bytes with the same bits are the same; the first bytes are bytes
--   before, after, cut         the bits before and after some bits of one byte
--   read_piece, byte_front     some bits of one byte, anywhere in it; at its start
--   field_step, word_step      a field and a piece of a byte more; a field and a whole byte more
-- Assumes nothing.
use mathlib.Core.Bool.{Bool}
use mathlib.Core.List.{List, [], ◌∷◌, ◌++◌, append_assoc}
use mathlib.Core.Path.{◌≡◌, refl, sym, ap, ap₂, ◌∙◌}
use Prim.Native.Nat.{ℕ, zero, suc, ◌+◌, ◌-◌, ◌*◌, ◌/◌, ◌%◌, ◌^◌, ◌≤◌, ◌<◌}
use native.Mathlib.Nat.{mod-eq_of_lt, div-one}
use native.Mathlib.Omega.{arith}
use lib.ListN.{drop, length, take, length-append, length-drop, get_or, take-append-drop}
use lib.Pow.{shr_mod}
use lib.Seq.{take_at, drop-drop, take-add, length-take-le, drop_at, split_at}
use Rattle.format.proofs.Digits.{length-bits_n, value_of-append, value_of-bits_n, bits_n-split}
use Rattle.format.proofs.Values.{value_more}
use Rattle.format.specs.Bits.{bits_n, bits_of, value_of}

-- ---- whole bytes

pub length-bits_of : (s : List ℕ) → length (bits_of s) ≡ length s * 8
unfolding bits_of
length-bits_of [] = refl
length-bits_of (x ∷ xs) = omega (arith, length-append (bits_n 8 x) (bits_of xs), length-bits_n 8 x, length-bits_of xs)

pub bits_of-append : (xs ys : List ℕ) → bits_of (xs ++ ys) ≡ bits_of xs ++ bits_of ys
unfolding bits_of
bits_of-append [] ys = refl
bits_of-append (x ∷ xs) ys = ap (λ (r : List Bool). bits_n 8 x ++ r) (bits_of-append xs ys) ∙ sym (append_assoc (bits_n 8 x) (bits_of xs) (bits_of ys))

bits_of-at : (s : List ℕ) (q : ℕ) → q < length s → bits_of s ≡ bits_of (take q s) ++ (bits_n 8 (get_or s q 0) ++ bits_of (drop (suc q) s))
unfolding bits_of
bits_of-at s q h = ap bits_of (split_at s q 0 h) ∙ bits_of-append (take q s) (get_or s q 0 ∷ drop (suc q) s)

pub take-bits : (k : ℕ) (s : List ℕ) → k ≤ length s → bits_of (take k s) ≡ take (k * 8) (bits_of s)
take-bits k s h =
    sym (take_at (bits_of (take k s)) (bits_of (drop k s)) (k * 8) (length-bits_of (take k s) ∙ ap (λ (i : ℕ). i * 8) (length-take-le k s h)))
    ∙ ap (take (k * 8)) (sym (bits_of-append (take k s) (drop k s)) ∙ ap bits_of (take-append-drop k s))

pub drop_bits : (k : ℕ) (s : List ℕ) → k ≤ length s → bits_of (drop k s) ≡ drop (k * 8) (bits_of s)
drop_bits k s h =
    sym (drop_at (bits_of (take k s)) (bits_of (drop k s)) (k * 8) (length-bits_of (take k s) ∙ ap (λ (i : ℕ). i * 8) (length-take-le k s h)))
    ∙ ap (drop (k * 8)) (sym (bits_of-append (take k s) (drop k s)) ∙ ap bits_of (take-append-drop k s))

pub bytes_same : (s t : List ℕ) → ((i : ℕ) → get_or s i 0 < 2 ^ 8) → ((i : ℕ) → get_or t i 0 < 2 ^ 8) → bits_of s ≡ bits_of t → s ≡ t
unfolding bits_of
bytes_same [] [] hs ht e = refl
bytes_same [] (y ∷ ys) hs ht e = absurd (omega (arith, ap length e, length-append (bits_n 8 y) (bits_of ys), length-bits_n 8 y))
bytes_same (x ∷ xs) [] hs ht e = absurd (omega (arith, ap length e, length-append (bits_n 8 x) (bits_of xs), length-bits_n 8 x))
bytes_same (x ∷ xs) (y ∷ ys) hs ht e =
    let front : bits_n 8 x ≡ bits_n 8 y = sym (take_at (bits_n 8 x) (bits_of xs) 8 (length-bits_n 8 x)) ∙ ap (take 8) e ∙ take_at (bits_n 8 y) (bits_of ys) 8 (length-bits_n 8 y) in
    let back : bits_of xs ≡ bits_of ys = sym (drop_at (bits_n 8 x) (bits_of xs) 8 (length-bits_n 8 x)) ∙ ap (drop 8) e ∙ drop_at (bits_n 8 y) (bits_of ys) 8 (length-bits_n 8 y) in
    let head : x ≡ y = sym (value_of-bits_n 8 x ∙ mod-eq_of_lt (hs 0)) ∙ ap value_of front ∙ value_of-bits_n 8 y ∙ mod-eq_of_lt (ht 0) in
    ap₂ (λ (a : ℕ) (r : List ℕ). a ∷ r) head (bytes_same xs ys (λ i. hs (suc i)) (λ i. ht (suc i)) back)

pub byte_take : (k : ℕ) (s : List ℕ) (i : ℕ) → ((j : ℕ) → get_or s j 0 < 2 ^ 8) → get_or (take k s) i 0 < 2 ^ 8
byte_take zero s i h = omega arith
byte_take (suc k) [] i h = omega arith
byte_take (suc k) (x ∷ xs) zero h = h 0
byte_take (suc k) (x ∷ xs) (suc i) h = byte_take k xs i (λ j. h (suc j))

-- ---- in one byte

byte_cut : (x off t sh : ℕ) → off + (t + sh) ≡ 8 → bits_n 8 x ≡ bits_n off (x / 2 ^ (t + sh)) ++ (bits_n t (x / 2 ^ sh) ++ bits_n sh x)
byte_cut x off t sh e =
    ap (λ (k : ℕ). bits_n k x) (sym e)
    ∙ bits_n-split off (t + sh) x
    ∙ ap (λ (r : List Bool). bits_n off (x / 2 ^ (t + sh)) ++ r) (bits_n-split t sh x)

-- what stands before, and after, the t bits past the first off of byte q
unfoldable pub before : List ℕ → ℕ → ℕ → ℕ → ℕ → List Bool
before s q off t sh = bits_of (take q s) ++ bits_n off (get_or s q 0 / 2 ^ (t + sh))

unfoldable pub after : List ℕ → ℕ → ℕ → List Bool
after s q sh = bits_n sh (get_or s q 0) ++ bits_of (drop (suc q) s)

module _ (s : List ℕ) (q off t sh : ℕ) (h : q < length s) (e : off + (t + sh) ≡ 8) where
  pub cut : bits_of s ≡ before s q off t sh ++ (bits_n t (get_or s q 0 / 2 ^ sh) ++ after s q sh)
  unfolding before after
  cut =
      let y : ℕ = get_or s q 0 in
      bits_of-at s q h
      ∙ ap (λ (r : List Bool). bits_of (take q s) ++ (r ++ bits_of (drop (suc q) s))) (byte_cut y off t sh e)
      ∙ simp append_assoc

  pub length_before : length (before s q off t sh) ≡ q * 8 + off
  unfolding before
  length_before =
      length-append (bits_of (take q s)) (bits_n off (get_or s q 0 / 2 ^ (t + sh)))
      ∙ ap₂ (λ (a b : ℕ). a + b) (length-bits_of (take q s) ∙ ap (λ (k : ℕ). k * 8) (length-take-le q s (omega arith))) (length-bits_n off (get_or s q 0 / 2 ^ (t + sh)))

  pub read_piece : take t (drop (q * 8 + off) (bits_of s)) ≡ bits_n t (get_or s q 0 / 2 ^ sh)
  read_piece =
      let m : List Bool = bits_n t (get_or s q 0 / 2 ^ sh) in
      rw cut
      (ap (take t) (drop_at (before s q off t sh) (m ++ after s q sh) (q * 8 + off) length_before) ∙ take_at m (after s q sh) t (length-bits_n t (get_or s q 0 / 2 ^ sh)))

-- the first t bits of byte q
pub byte_front : (s : List ℕ) (q t : ℕ) → q < length s → t ≤ 8 → get_or s q 0 < 2 ^ 8 → value_of (take t (drop (8 * q) (bits_of s))) ≡ get_or s q 0 / 2 ^ (8 - t)
byte_front s q t h l b =
    let e : 8 * q ≡ q * 8 + 0 = omega arith in
    let x : ℕ = get_or s q 0 in
    let k : t + (8 - t) ≡ 8 = omega arith in
    ap (λ (n : ℕ). value_of (take t (drop n (bits_of s)))) e
    ∙ ap value_of (read_piece s q 0 t (8 - t) h (omega arith))
    ∙ value_of-bits_n t (x / 2 ^ (8 - t))
    ∙ shr_mod t (8 - t) (rw k b)

-- ---- fields that grow

-- a field of k bits, and t bits more, which lie in one byte
pub field_step : (s : List ℕ) (at k t : ℕ) → (at + k) / 8 < length s → t ≤ 8 - (at + k) % 8
    → value_of (take (k + t) (drop at (bits_of s))) ≡ value_of (take k (drop at (bits_of s))) * 2 ^ t + get_or s ((at + k) / 8) 0 / 2 ^ (8 - (at + k) % 8 - t) % 2 ^ t
field_step s at k t h l =
    let i : ℕ = at + k in
    let sh : ℕ = 8 - i % 8 - t in
    let z : ℕ = get_or s (i / 8) 0 / 2 ^ sh in
    let here : at + k ≡ i / 8 * 8 + i % 8 = omega arith in
    let e : take t (drop (at + k) (bits_of s)) ≡ bits_n t z =
    ap (λ (n : ℕ). take t (drop n (bits_of s))) here ∙ read_piece s (i / 8) (i % 8) t sh h (omega arith) in
    ap value_of (take-add k t (drop at (bits_of s)))
    ∙ ap (λ (r : List Bool). value_of (take k (drop at (bits_of s)) ++ take t r)) (drop-drop k at (bits_of s))
    ∙ ap (λ (r : List Bool). value_of (take k (drop at (bits_of s)) ++ r)) e
    ∙ value_of-append (take k (drop at (bits_of s))) (bits_n t z)
    ∙ ap₂ (λ (n v : ℕ). value_of (take k (drop at (bits_of s))) * 2 ^ n + v) (length-bits_n t z) (value_of-bits_n t z)

-- the bits of i bytes, and of one more: a turn of `word`
pub word_step : (s : List ℕ) (q i : ℕ) → q + i < length s → get_or s (q + i) 0 < 2 ^ 8
    → value_of (take (8 * (i + 1)) (drop (8 * q) (bits_of s))) ≡ value_of (take (8 * i) (drop (8 * q) (bits_of s))) * 2 ^ 8 + get_or s (q + i) 0
word_step s q i h b =
    let bs : List Bool = drop (8 * q) (bits_of s) in
    let e : 8 * (i + 1) ≡ 8 * i + 8 = omega arith in
    let f : 8 * q + 8 * i ≡ 8 * (q + i) = omega arith in
    let lb : 8 * i + 8 ≤ length bs = simp (length-drop, length-bits_of) (omega arith) in
    ap (λ (n : ℕ). value_of (take n bs)) e
    ∙ value_more bs (8 * i) 8 lb
    ∙ ap (λ (r : List Bool). value_of (take (8 * i) bs) * 2 ^ 8 + value_of (take 8 r)) (drop-drop (8 * i) (8 * q) (bits_of s) ∙ ap (λ (n : ℕ). drop n (bits_of s)) f)
    ∙ ap (λ (n : ℕ). value_of (take (8 * i) bs) * 2 ^ 8 + n) (byte_front s (q + i) 8 h (omega arith) b ∙ div-one (get_or s (q + i) 0))
