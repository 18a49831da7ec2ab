-- WHAT THE SESSION PROGRAM TAKES FROM ITS INPUT, AND WHAT IT SAYS (document 01, "The session program").
--   sheet_end s            how many bytes of the input are its sheet: as many as its own first 19 bits say, or all where there are fewer
--   command_of high low    the command of two bytes, top bits first
--   kind, operand          the leading two bits of a command say which it is, the other fourteen its number
--   opening_line, assume_line   what is said of an answer of the definitions: an unsatisfiable opening with its rows, a conflict with its variable
--   said_opening, said_assuming, said_backing, said_explaining   the line of each answer: what it says by the definitions, its lists read from
--                          the buffers as the call left them; or the number of a refusal
--   goes_on a              whether commands follow an opening: a refused or unsatisfiable one ends the session
-- Assumes nothing.
use Rattle.std.specs.Prelude.{List, Bool, true, false, ℕ, ◌+◌, ◌*◌, ◌/◌, ◌%◌, min, length, Result, Ok, Err}
use Rattle.std.proofs.Math.Option.{Option, none, some}
use Rattle.gf2.specs.Answers.{OpenAnswer, unsatisfiable, opened, AssumeAnswer, held, conflict, implied, ExplainAnswer}
use Rattle.format.specs.Refusals.{number}
use Rattle.format.specs.Sheet.{n_of, m_of, size_for}
use Rattle.format.specs.declared.Refusal.{Refusal}
use Rattle.lines.specs.Lines.{Said}
use Rattle.parity.specs.declared.Opening.{Opening}
use Rattle.parity.specs.declared.Opening.TheVariants.{Unsatisfiable, Opened}
use Rattle.parity.specs.declared.Assuming.{Assuming}
use Rattle.parity.specs.declared.Explained.{Explained}
use Rattle.parity.specs.Numbers.{open_number, open_says, assume_number, assume_value, assume_says, explain_number, explain_says}

-- ---- the input

abbrev pub sheet_end : List ℕ → ℕ
sheet_end s = min (size_for (n_of s) (m_of s)) (length s)

abbrev pub command_of : ℕ → ℕ → ℕ
command_of high low = high * 256 + low

abbrev pub kind : ℕ → ℕ
kind command = command / 16384

abbrev pub operand : ℕ → ℕ
operand command = command % 16384

-- ---- the lines

abbrev pub opening_line : OpenAnswer → Said
opening_line (unsatisfiable rows) = Said.unsatisfiable rows
opening_line (opened kept codes) = Said.opened kept codes

abbrev pub assume_line : ℕ → AssumeAnswer → Said
assume_line v held = Said.held
assume_line v conflict = Said.conflict v
assume_line v (implied codes) = Said.implied codes

abbrev pub said_opening : Result Opening Refusal → ℕ → List ℕ → List ℕ → Said
said_opening answer kept literals rows = go (open_says answer kept literals rows)
  where
    go : Option OpenAnswer → Said
    go none = Said.refused (open_number answer)
    go (some said) = opening_line said

abbrev pub said_assuming : Result Assuming Refusal → List ℕ → Said
said_assuming answer literals = go (assume_says answer literals)
  where
    go : Option AssumeAnswer → Said
    go none = Said.refused (assume_number answer)
    go (some said) = assume_line (assume_value answer) said

-- the depth is the one that was gone back to
abbrev pub said_backing : Result (Unit {0}) Refusal → ℕ → Said
said_backing (Err r) depth = Said.refused (number r)
said_backing (Ok x) depth = Said.back depth

abbrev pub said_explaining : Result Explained Refusal → ℕ → List ℕ → List ℕ → Said
said_explaining answer variable clause rows = go (explain_says answer clause rows)
  where
    go : Option ExplainAnswer → Said
    go none = Said.refused (explain_number answer)
    go (some said) = Said.explained variable said.clause said.numbers

abbrev pub goes_on : Result Opening Refusal → Bool
goes_on (Err r) = false
goes_on (Ok (Unsatisfiable count)) = false
goes_on (Ok (Opened count)) = true
