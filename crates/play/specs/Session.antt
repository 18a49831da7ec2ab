-- WHAT A SESSION SAYS: one definition, from the bytes of the input to the text (document 01, "The session program"). It speaks of the answers
-- of the definitions alone: no buffer and no header of the module stands in it. How long the sheet is, the parts of a command and what is
-- said of an answer (`sheet_end`, `command_of`, `kind`, `operand`, `opening_line`, `assume_line`) stand in dialogue/specs/Dialogue.
--   most_bytes                    so many bytes of standard input count, the rest is ignored
--   sheet_part s, command_part s  the sheet at the start of the input, as long as its own first 19 bits say, and what follows it
--   sheet_refusal sheet           the number with which the reader refuses the sheet, given room for its rows; 0 where it does not
--   Command p k i said q          a command of kind k and number i, at position p: what is said of it, and the position after it
--   Commands p bytes text         the commands that stand in the bytes, from position p on: their lines, one after another
--   Session sheet commands text   the line of the opening, and those of the commands; a refused or unsatisfiable opening ends the session
--   SessionOn s text              the session on the bytes s
--   Says input text               the session on what standard input has: on its first 65,536 bytes
-- Assumes nothing.
use Rattle.std.specs.Prelude.{◌≡◌, List, [], ◌∷◌, ◌++◌, length, take, drop, ℕ, suc, ◌*◌, ◌<◌, ◌≤◌}
use Rattle.gf2.specs.Rows.{Var}
use Rattle.gf2.specs.Answers.{variable, Literal, Position, start, withdrawn, moved, unsatisfiable, opened, AnswersOpen, AssumeAnswer, AnswersAssume, ExplainAnswer, Explanation, Unexplained}
use Rattle.format.specs.Refusals.{refusal}
use Rattle.format.specs.Sheet.{n_of, m_of, sheet_rows, reader}
use Rattle.lines.specs.Lines.{Said, text}
use Rattle.dialogue.specs.Dialogue.{sheet_end, command_of, kind, operand, opening_line, assume_line}

-- ---- the input

abbrev pub most_bytes : ℕ
most_bytes = 65536

abbrev pub sheet_part : List ℕ → List ℕ
sheet_part s = take (sheet_end s) s

abbrev pub command_part : List ℕ → List ℕ
command_part s = drop (sheet_end s) s

abbrev pub sheet_refusal : List ℕ → ℕ
sheet_refusal sheet = refusal (reader sheet (9 * m_of sheet))

-- ---- a command: 1 assume a code, 2 back to a depth, 3 explain a variable

pub data Command (p : Position) : ℕ → ℕ → Said → Position → Type 0 where
  assumed : {l : ℕ} (answer : AssumeAnswer) → Literal p.n l → AnswersAssume p l answer
      → Command p 1 l (assume_line (variable l) answer) (moved p l answer)
  no_literal : {l : ℕ} → (Literal p.n l → ⊥) → Command p 1 l (Said.refused 8) p
  gone_back : {d : ℕ} → d ≤ length p.taken → Command p 2 d (Said.back d) (withdrawn p d)
  too_deep : {d : ℕ} → length p.taken < d → Command p 2 d (Said.refused 9) p
  explained : {v : ℕ} (answer : ExplainAnswer) → Var p.n v → (Unexplained p v → ⊥) → Explanation p v answer
      → Command p 3 v (Said.explained v answer.clause answer.numbers) p
  unexplained : {v : ℕ} → Var p.n v → Unexplained p v → Command p 3 v (Said.refused 10) p
  no_variable : {v : ℕ} → (Var p.n v → ⊥) → Command p 3 v (Said.refused 8) p

-- ---- the commands, of two bytes each, to command 0 or to where fewer than two bytes are left
pub data Commands : Position → List ℕ → List ℕ → Type 0 where
  over : {p : Position} {bytes : List ℕ} → length bytes < 2 → Commands p bytes []
  ended : {p : Position} {high low : ℕ} {bytes : List ℕ} → kind (command_of high low) ≡ 0 → Commands p (high ∷ low ∷ bytes) []
  then : {p q : Position} {high low : ℕ} {bytes more : List ℕ} {said : Said}
      → Command p (kind (command_of high low)) (operand (command_of high low)) said q → Commands q bytes more
      → Commands p (high ∷ low ∷ bytes) (text said ++ more)

-- ---- the session

pub data Session (sheet commands : List ℕ) : List ℕ → Type 0 where
  refused : {c : ℕ} → sheet_refusal sheet ≡ suc c → Session sheet commands (text (Said.refused (suc c)))
  contradicted : {rows : List ℕ} → sheet_refusal sheet ≡ 0 → AnswersOpen (n_of sheet) (sheet_rows sheet) (unsatisfiable rows)
      → Session sheet commands (text (opening_line (unsatisfiable rows)))
  commanded : {kept : ℕ} {codes more : List ℕ} → sheet_refusal sheet ≡ 0 → AnswersOpen (n_of sheet) (sheet_rows sheet) (opened kept codes)
      → Commands (start (n_of sheet) (sheet_rows sheet)) commands more
      → Session sheet commands (text (opening_line (opened kept codes)) ++ more)

abbrev pub SessionOn : List ℕ → List ℕ → Type 0
SessionOn s text = Session (sheet_part s) (command_part s) text

abbrev pub Says : List ℕ → List ℕ → Type 0
Says input text = SessionOn (take most_bytes input) text
