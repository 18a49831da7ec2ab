-- BITS OF BYTES (document 01, "The row sheet": bit-packed, most significant bit first).
--   bit_val b       the digit of a bit: 1 or 0
--   odd v          the lowest binary digit of v
--   bits_n k v      the k lowest binary digits of v, the highest first
--   bits_of s       the bits of the bytes s, one byte after another
--   value_of bs     the number that a run of bits writes, the first bit the highest
--   put_at bs i xs  bs, with xs in place of as many bits from place i on
-- Assumes nothing.
use Rattle.std.specs.Prelude.{ℕ, zero, suc, ◌+◌, ◌*◌, ◌/◌, ◌%◌, ◌^◌, List, [], ◌∷◌, ◌++◌, Bool, true, false, length, take, drop, eqb}

abbrev pub bit_val : Bool → ℕ
bit_val true = 1
bit_val false = 0

unfoldable pub odd : ℕ → Bool
odd v = eqb (v % 2) 1

unfoldable pub bits_n : ℕ → ℕ → List Bool
bits_n zero v = []
bits_n (suc k) v = odd (v / 2 ^ k) ∷ bits_n k v

unfoldable pub bits_of : List ℕ → List Bool
bits_of [] = []
bits_of (x ∷ xs) = bits_n 8 x ++ bits_of xs

unfoldable pub value_of : List Bool → ℕ
value_of [] = 0
value_of (b ∷ bs) = bit_val b * 2 ^ length bs + value_of bs

abbrev pub put_at : List Bool → ℕ → List Bool → List Bool
put_at bs i xs = take i bs ++ (xs ++ drop (i + length xs) bs)
