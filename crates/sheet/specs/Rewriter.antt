-- WHAT READING A SHEET AND WRITING IT AGAIN PROMISES.
--   rewriter s words bytes     its checks: the reader's, then room for the bytes
--   copied a s was             the bytes after the answer a: as they were, or with the sheet itself in front
--   Rewrites s old was a new out   the promise: lent the bytes s, the words old and the bytes was, it answers a and leaves the words new and the bytes out
-- Assumes nothing.
use Rattle.std.specs.Prelude.{◌≡◌, List, [], ◌∷◌, ◌++◌, ℕ, ltb, length, drop, Result, Ok, Err}
use Rattle.format.specs.Refusals.{Check, check, refusal, Answers}
use Rattle.format.specs.Sheet.{n_of, m_of, reader}
use Rattle.format.specs.declared.Refusal.{Refusal}
use Rattle.sheet.specs.Reader.{stored}
use Rattle.cursor.specs.Shape.{HasNumbers}
use Rattle.cursor.specs.declared.shape.Shape.{Shape}

abbrev pub rewriter : List ℕ → ℕ → ℕ → List Check
rewriter s words bytes = reader s words ++ (check 7 (ltb bytes (length s)) ∷ [])

abbrev pub copied : Result Shape Refusal → List ℕ → List ℕ → List ℕ
copied (Err r) s was = was
copied (Ok h) s was = s ++ drop (length s) was

pub record Rewrites (s old was : List ℕ) (a : Result Shape Refusal) (new out : List ℕ) : Type 0 where
  pub answer : Answers (refusal (rewriter s (length old) (length was))) (HasNumbers (n_of s) (m_of s)) a
  pub store : new ≡ stored a s old
  pub bytes : out ≡ copied a s was
