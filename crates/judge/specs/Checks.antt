-- THE CHECKS OF THE CALLS ON AN OPEN STATE, in order (document 01, "Refusal numbers").
--   unfit h                     line 11: the header is not open, or one of its numbers is past its bound
--   Fit h                       line 11 does not hold: the header is open and within its bounds
--   assume_checks, back_checks, explain_checks   the checks that are judged before a call looks into the working buffer
--   at_depth h d                 the header with another depth: assume and back change nothing else of it
-- Assumes nothing.
use Rattle.std.specs.Prelude.{◌≡◌, Bool, not, ◌||◌, List, [], ◌∷◌, ℕ, ◌+◌, ◌*◌, ◌≤◌, min, eqb, ltb}
use Rattle.format.specs.Refusals.{Check, check}
use Rattle.judge.specs.declared.Header.{Header}

abbrev pub unfit : Header → Bool
unfit h = not (eqb h.«open» 1) || (ltb 512 h.n || (ltb 256 h.m || (ltb (min h.n h.m) h.kept || ltb h.n h.depth)))

pub record Fit (h : Header) : Type 0 where
  pub is_open : h.«open» ≡ 1
  pub vars : h.n ≤ 512
  pub rows : h.m ≤ 256
  pub kept : h.kept ≤ min h.n h.m
  pub depth : h.depth ≤ h.n

-- with so many words of working buffer, room for so many literals, and a literal's code
abbrev pub assume_checks : Header → ℕ → ℕ → ℕ → List Check
assume_checks h words room code =
    check 11 (unfit h)
    ∷ check 6 (ltb words 4096)
    ∷ check 7 (ltb room h.n)
    ∷ check 8 (ltb code 2 || ltb (2 * h.n + 1) code)
    ∷ []

abbrev pub back_checks : Header → ℕ → ℕ → List Check
back_checks h words depth =
    check 11 (unfit h)
    ∷ check 6 (ltb words 4096)
    ∷ check 9 (ltb h.depth depth)
    ∷ []

-- with room for so many codes of a clause and so many row numbers, and a variable
abbrev pub explain_checks : Header → ℕ → ℕ → ℕ → ℕ → List Check
explain_checks h words codes numbers v =
    check 11 (unfit h)
    ∷ check 6 (ltb words 4096)
    ∷ check 7 (ltb codes h.n || ltb numbers h.m)
    ∷ check 8 (ltb v 1 || ltb h.n v)
    ∷ []

abbrev pub at_depth : Header → ℕ → Header
at_depth h d = record { «open» = h.«open»; n = h.n; m = h.m; kept = h.kept; depth = d }
