-- WHAT THE WRITER PROMISES (document 01, "The row sheet" and "Refusal numbers").
--   IsWriting n m ws room a   a is the answer to n, m and the row store ws with room for so many bytes: the refusal that the checks come to, or the size in bytes
--   SheetIn ..             the sheet of n, m and ws stands in the first size bytes of new; the others are as in old
--   Out a ..               the bytes after the answer a: as they were, or with the sheet in front
--   Writes n m ws old a new   the promise: lent the words ws and the bytes old, the writer answers a and leaves the bytes new
-- Assumes nothing.
use Rattle.std.specs.Prelude.{◌≡◌, List, ℕ, length, take, drop, Result, Ok, Err}
use Rattle.format.specs.Bits.{bits_of}
use Rattle.format.specs.Refusals.{refusal, Answers}
use Rattle.format.specs.Sheet.{size_for, sheet_bits, writer}
use Rattle.format.specs.declared.Refusal.{Refusal}

abbrev pub IsWriting : ℕ → ℕ → List ℕ → ℕ → Result ℕ Refusal → Type 0
IsWriting n m ws room a = Answers (refusal (writer n m ws room)) (λ size. size ≡ size_for n m) a

pub record SheetIn (n m size : ℕ) (ws old new : List ℕ) : Type 0 where
  pub front : bits_of (take size new) ≡ sheet_bits n m ws
  pub back : drop size new ≡ drop size old

abbrev pub Out : Result ℕ Refusal → ℕ → ℕ → List ℕ → List ℕ → List ℕ → Type 0
Out (Err r) n m ws old new = new ≡ old
Out (Ok size) n m ws old new = SheetIn n m size ws old new

pub record Writes (n m : ℕ) (ws old : List ℕ) (a : Result ℕ Refusal) (new : List ℕ) : Type 0 where
  pub answer : IsWriting n m ws (length old) a
  pub out : Out a n m ws old new
