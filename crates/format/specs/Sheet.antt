-- THE ROW SHEET AND THE ROW STORE (document 01, "The row sheet").
--   n_of s, m_of s        the first 10 bits of the bytes s, and the 9 after them, as numbers
--   bits_for, size_for    how many bits a sheet of n and m means, and how many bytes hold them
--   padding_of s         the bits after these, as a number
--   row_of n bs          the constraint whose n coefficient bits and parity bit stand at the start of bs
--   rows_from, sheet_rows the constraints of a sheet, numbered from 1, each read where the one before it ended
--   word_at, words_of     64 bits from a place on as a word, and so many words of the bits from their start
--   row_words n bs       the same row as the nine words of the row store
--   store_words n m bs   m such rows
--   packed k ws         the bits of the first k words of ws
--   row_bits, body_bits, sheet_bits   the bits of one row of a row store, of m rows, and of the whole sheet that they make
--   clean_row, clean     no bit past variable n and a parity of 0 or 1, in one row and in the first m
--   reader, writer      the checks of the two calls, in order
-- Assumes nothing.
use Rattle.std.specs.Prelude.{ℕ, zero, suc, ◌+◌, ◌-◌, ◌*◌, ◌/◌, List, [], ◌∷◌, ◌++◌, Bool, true, false, not, ◌&&◌, length, take, drop, replicate, get_or, ltb}
use Rattle.gf2.specs.Rows.{Row, Rows}
use Rattle.format.specs.Bits.{value_of, bits_of, bits_n}
use Rattle.format.specs.Refusals.{Check, check}

-- ---- the fields of a sheet

abbrev pub n_of : List ℕ → ℕ
n_of s = value_of (take 10 (bits_of s))

abbrev pub m_of : List ℕ → ℕ
m_of s = value_of (take 9 (drop 10 (bits_of s)))

abbrev pub bits_for : ℕ → ℕ → ℕ
bits_for n m = 19 + m * (n + 1)

abbrev pub size_for : ℕ → ℕ → ℕ
size_for n m = (bits_for n m + 7) / 8

abbrev pub padding_of : List ℕ → ℕ
padding_of s = value_of (drop (bits_for (n_of s) (m_of s)) (bits_of s))

-- ---- its rows, as constraints

abbrev pub row_of : ℕ → List Bool → Row
row_of n bs zero = get_or bs n false
row_of n bs (suc i) = get_or (take n bs) i false

unfoldable pub rows_from : ℕ → ℕ → ℕ → List Bool → Rows
rows_from number n zero bs = []
rows_from number n (suc m) bs = record { number = number; row = row_of n bs } ∷ rows_from (suc number) n m (drop (n + 1) bs)

abbrev pub sheet_rows : List ℕ → Rows
sheet_rows s = rows_from 1 (n_of s) (m_of s) (drop 19 (bits_of s))

-- ---- its rows, as words: 512 bits, the coefficients and then zeros, in eight words, and the parity as a ninth

unfoldable pub word_at : List Bool → ℕ → ℕ
word_at bs w = value_of (take 64 (drop (w * 64) bs))

unfoldable pub words_of : ℕ → List Bool → List ℕ
words_of zero bs = []
words_of (suc k) bs = words_of k bs ++ (word_at bs k ∷ [])

unfoldable pub row_words : ℕ → List Bool → List ℕ
row_words n bs = words_of 8 (take n bs ++ replicate (512 - length (take n bs)) false) ++ (value_of (take 1 (drop n bs)) ∷ [])

unfoldable pub store_words : ℕ → ℕ → List Bool → List ℕ
store_words n zero bs = []
store_words n (suc m) bs = store_words n m bs ++ row_words n (drop (m * (n + 1)) bs)

-- ---- the sheet that a row store makes

unfoldable pub packed : ℕ → List ℕ → List Bool
packed zero ws = []
packed (suc k) ws = packed k ws ++ bits_n 64 (get_or ws k 0)

-- of the row whose nine words stand at the start of ws
unfoldable pub row_bits : ℕ → List ℕ → List Bool
row_bits n ws = take n (packed 8 ws) ++ bits_n 1 (get_or ws 8 0)

unfoldable pub body_bits : ℕ → ℕ → List ℕ → List Bool
body_bits n zero ws = []
body_bits n (suc m) ws = body_bits n m ws ++ row_bits n (drop (9 * m) ws)

unfoldable pub sheet_bits : ℕ → ℕ → List ℕ → List Bool
sheet_bits n m ws = bits_n 10 n ++ (bits_n 9 m ++ (body_bits n m ws ++ replicate (size_for n m * 8 - bits_for n m) false))

unfoldable pub clean_row : ℕ → List ℕ → Bool
clean_row n ws = not (ltb 0 (value_of (drop n (packed 8 ws)))) && ltb (get_or ws 8 0) 2

unfoldable pub clean : ℕ → ℕ → List ℕ → Bool
clean n zero ws = true
clean n (suc m) ws = clean n m ws && clean_row n (drop (9 * m) ws)

-- ---- the checks: of the bytes s with room for so many words; of n, m and the words ws with room for so many bytes

abbrev pub reader : List ℕ → ℕ → List Check
reader s room =
    check 1 (ltb (length s) 3)
    ∷ check 2 (ltb 512 (n_of s))
    ∷ check 3 (ltb 256 (m_of s))
    ∷ check 1 (ltb (length s) (size_for (n_of s) (m_of s)))
    ∷ check 4 (ltb (size_for (n_of s) (m_of s)) (length s))
    ∷ check 5 (ltb 0 (padding_of s))
    ∷ check 6 (ltb room (9 * m_of s))
    ∷ []

abbrev pub writer : ℕ → ℕ → List ℕ → ℕ → List Check
writer n m ws room =
    check 2 (ltb 512 n)
    ∷ check 3 (ltb 256 m)
    ∷ check 6 (ltb (length ws) (9 * m))
    ∷ check 5 (not (clean n m ws))
    ∷ check 7 (ltb room (size_for n m))
    ∷ []
