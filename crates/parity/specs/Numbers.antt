-- THE NUMBERS AND VALUES OF THE ANSWERS, for each case of an answer.
--   open_number, assume_number, explain_number   a refusal has document 01's number; 0 done, 100 held, 101 conflict, 102 unsatisfiable are chosen here
--   open_value       how many row numbers of an unsatisfiable opening are listed, or how many literals of one that is open
--   assume_value     the variable of a conflict; how many literals are listed where the literal is taken
--   explain_codes, explain_rows   how many codes of the clause, and how many row numbers, are listed
--   open_says, assume_says, explain_says         the answer of the definitions, with its list read from the buffers as they then are
-- A value is 0 in each case that has none.
-- A refusal is no answer of the definitions; what 10 and 12 say of the state is in the promises.
-- Assumes nothing.
use Rattle.std.specs.Prelude.{List, take, ℕ, Result, Ok, Err}
use Rattle.std.proofs.Math.Option.{Option, none, some}
use Rattle.gf2.specs.Answers.{OpenAnswer, unsatisfiable, opened, AssumeAnswer, held, conflict, implied, ExplainAnswer}
use Rattle.format.specs.Refusals.{number}
use Rattle.format.specs.declared.Refusal.{Refusal}
use Rattle.parity.specs.declared.Opening.{Opening}
use Rattle.parity.specs.declared.Opening.TheVariants.{Unsatisfiable, Opened}
use Rattle.parity.specs.declared.Assuming.{Assuming}
use Rattle.parity.specs.declared.Assuming.TheVariants.{Held, Conflict, Taken}
use Rattle.parity.specs.declared.Explained.{Explained}

abbrev pub open_number : Result Opening Refusal → ℕ
open_number (Err r) = number r
open_number (Ok (Unsatisfiable x)) = 102
open_number (Ok (Opened x)) = 0

abbrev pub open_value : Result Opening Refusal → ℕ
open_value (Err r) = 0
open_value (Ok (Unsatisfiable x)) = x
open_value (Ok (Opened x)) = x

abbrev pub assume_number : Result Assuming Refusal → ℕ
assume_number (Err r) = number r
assume_number (Ok Held) = 100
assume_number (Ok (Conflict v)) = 101
assume_number (Ok (Taken x)) = 0

abbrev pub assume_value : Result Assuming Refusal → ℕ
assume_value (Err r) = 0
assume_value (Ok Held) = 0
assume_value (Ok (Conflict v)) = v
assume_value (Ok (Taken x)) = x

abbrev pub explain_number : Result Explained Refusal → ℕ
explain_number (Err r) = number r
explain_number (Ok e) = 0

abbrev pub explain_codes : Result Explained Refusal → ℕ
explain_codes (Err r) = 0
explain_codes (Ok e) = e.codes

abbrev pub explain_rows : Result Explained Refusal → ℕ
explain_rows (Err r) = 0
explain_rows (Ok e) = e.numbers

-- with the kept count of the header, and the literals and row numbers in the answer buffers
abbrev pub open_says : Result Opening Refusal → ℕ → List ℕ → List ℕ → Option OpenAnswer
open_says (Err r) kept literals rows = none
open_says (Ok (Unsatisfiable x)) kept literals rows = some (unsatisfiable (take x rows))
open_says (Ok (Opened x)) kept literals rows = some (opened kept (take x literals))

abbrev pub assume_says : Result Assuming Refusal → List ℕ → Option AssumeAnswer
assume_says (Err r) literals = none
assume_says (Ok Held) literals = some held
assume_says (Ok (Conflict v)) literals = some conflict
assume_says (Ok (Taken x)) literals = some (implied (take x literals))

abbrev pub explain_says : Result Explained Refusal → List ℕ → List ℕ → Option ExplainAnswer
explain_says (Err r) clause rows = none
explain_says (Ok e) clause rows = some (record { clause = take e.codes clause; numbers = take e.numbers rows })
