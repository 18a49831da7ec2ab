-- THE WORKING BUFFER: how much it holds, and where its words lie. src/lib.rt has the same numbers as constants.
--
--   max_vars, max_rows, max_taken   the most variables, rows and taken literals
--   coef_words, from_words         the words of a bit for each variable, and for each row; row_bits: the bits of both
--
--   words                   what
--   row_at r  .. + row_size   row r, for r below max_rows:
--     row_at r  .. + coef_words its coefficients, variable 1 in the top bit of the first word
--     from_at r .. + from_words its provenance: which rows of the sheet were summed, row 1 in the top bit of the first word
--     last_at r                2 × its basic variable + its parity
--   known_at  .. + coef_words the variables that have a value
--   truth_at  .. + coef_words those of them that are true
--   record_at .. + max_taken  word j is home_step × the home of variable j + 1, plus entry j of the record: the codes of the taken literals, in the order in which they were taken
--   size                    the words that a call hands on; those behind the record are not touched
-- Assumes nothing.
use Rattle.std.specs.Prelude.{ℕ, ◌+◌, ◌*◌}

abbrev pub max_vars : ℕ
max_vars = 512

abbrev pub max_rows : ℕ
max_rows = 256

abbrev pub max_taken : ℕ
max_taken = max_vars

abbrev pub coef_words : ℕ
coef_words = 8

abbrev pub from_words : ℕ
from_words = 4

abbrev pub row_bits : ℕ
row_bits = 64 * (coef_words + from_words)

abbrev pub row_size : ℕ
row_size = coef_words + from_words + 1

abbrev pub row_at : ℕ → ℕ
row_at r = row_size * r

abbrev pub from_at : ℕ → ℕ
from_at r = row_at r + coef_words

abbrev pub last_at : ℕ → ℕ
last_at r = row_at r + (coef_words + from_words)

abbrev pub known_at : ℕ
known_at = row_size * max_rows

abbrev pub truth_at : ℕ
truth_at = known_at + coef_words

abbrev pub record_at : ℕ
record_at = truth_at + coef_words

abbrev pub home_step : ℕ
home_step = 4294967296

abbrev pub size : ℕ
size = 4096
