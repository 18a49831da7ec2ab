-- THE ANSWER LINES OF THE SESSION PROGRAM (document 01, "The session program").
--   word s                  the bytes of a word
--   decimal f n, dec n      a number in decimal, with no zero in front: of at most f + 1 digits, and of 64 bits
--   spaced items            each item after a space
--   line first more         a line: one space between items, and a line feed at its end
--   Said, text              what an answer says, and its line
--   Put xs at bytes ys r    the buffer xs became ys: the bytes stand in it from `at` to r, and the rest is as it was
-- Assumes nothing.
use Rattle.std.specs.Prelude.{ℕ, zero, suc, ◌+◌, ◌/◌, ◌%◌, ◌≡◌, cond, List, [], ◌∷◌, ◌++◌, map, length, take, drop, ltb}
use Prim.Native.Char.{code}
use Prim.Native.String.{String, [] as empty, ◌∷◌ as letter}
use Rattle.io.specs.Counts.{IsPrefixLen}

-- ---- items

abbrev pub word : String → List ℕ
word empty = []
word (letter c s) = code c ∷ word s

-- 48 is the digit 0
abbrev pub decimal : ℕ → ℕ → List ℕ
decimal zero n = (48 + n) ∷ []
decimal (suc f) n = cond (ltb n 10) ((48 + n) ∷ []) (decimal f (n / 10) ++ ((48 + n % 10) ∷ []))

unfoldable pub dec : ℕ → List ℕ
dec n = decimal 19 n

unfoldable pub spaced : List (List ℕ) → List ℕ
spaced [] = []
spaced (item ∷ more) = word " " ++ (item ++ spaced more)

abbrev pub line : List ℕ → List (List ℕ) → List ℕ
line first more = first ++ (spaced more ++ word "\n")

-- ---- answers

pub data Said : Type 0 where
  opened : (kept : ℕ) (codes : List ℕ) → Said
  unsatisfiable : (rows : List ℕ) → Said
  implied : (codes : List ℕ) → Said
  held : Said
  conflict : (variable : ℕ) → Said
  back : (depth : ℕ) → Said
  explained : (variable : ℕ) (clause rows : List ℕ) → Said
  refused : (number : ℕ) → Said

abbrev pub text : Said → List ℕ
text (opened kept codes) = line (word "open") (dec kept ∷ word "implied" ∷ dec (length codes) ∷ map dec codes)
text (unsatisfiable rows) = line (word "unsat") (map dec rows)
text (implied codes) = line (word "implied") (dec (length codes) ∷ map dec codes)
text held = line (word "held") []
text (conflict variable) = line (word "conflict") (dec variable ∷ [])
text (back depth) = line (word "back") (dec depth ∷ [])
text (explained variable clause rows) = line (word "explain") (dec variable ∷ word "clause" ∷ (map dec clause ++ (word "rows" ∷ map dec rows)))
text (refused number) = line (word "refused") (dec number ∷ [])

-- ---- buffers

-- `counts` says that r lies within the buffer, in the form in which a caller's `&out[..r]` asks for it
pub record Put (xs : List ℕ) (at : ℕ) (bytes ys : List ℕ) (r : ℕ) : Type 0 where
  pub next : r ≡ at + length bytes
  pub room : length ys ≡ length xs
  pub front : take r ys ≡ take at xs ++ bytes
  pub rest : drop r ys ≡ drop r xs
  pub counts : IsPrefixLen r ys
