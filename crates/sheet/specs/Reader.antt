-- WHAT THE READER PROMISES (document 01, "The row sheet" and "Refusal numbers").
--   IsReading s room a  a is the answer to the bytes s with room for so many words: the refusal that the checks come to, or n and m where none holds
--   stored a s old      the row store after the answer a: as it was, or with the sheet's rows in front
--   Reads s old a new   the promise: lent the bytes s and the words old, the reader answers a and leaves the words new
-- Assumes nothing.
use Rattle.std.specs.Prelude.{◌≡◌, List, ◌++◌, ℕ, ◌*◌, length, drop, Result, Ok, Err}
use Rattle.format.specs.Bits.{bits_of}
use Rattle.format.specs.Refusals.{refusal, Answers}
use Rattle.format.specs.Sheet.{n_of, m_of, store_words, reader}
use Rattle.format.specs.declared.Refusal.{Refusal}
use Rattle.cursor.specs.Shape.{HasNumbers}
use Rattle.cursor.specs.declared.shape.Shape.{Shape}

abbrev pub IsReading : List ℕ → ℕ → Result Shape Refusal → Type 0
IsReading s room a = Answers (refusal (reader s room)) (HasNumbers (n_of s) (m_of s)) a

abbrev pub stored : Result Shape Refusal → List ℕ → List ℕ → List ℕ
stored (Err r) s old = old
stored (Ok h) s old = store_words h.n h.m (drop 19 (bits_of s)) ++ drop (9 * h.m) old

pub record Reads (s old : List ℕ) (a : Result Shape Refusal) (new : List ℕ) : Type 0 where
  pub answer : IsReading s (length old) a
  pub store : new ≡ stored a s old
