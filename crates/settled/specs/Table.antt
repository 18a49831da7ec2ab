-- THE SETTLED EXAMPLES of document 01 (★): one table of runs of calls, each with its answers.
--   parity, eqn   a constraint as document 01 writes it: x1 ⊕ .. ⊕ xk ≡ p
--   sheet         a sheet's bytes, opened: a run that starts from bytes
--   table         the runs; a line of document 01 that gives bytes starts from them
--   accepted      the sheets of the table; the reader refuses none
--   mistakes      answers that look right and are not
--   wide          two constraints that differ past their first 64 columns
-- Assumes nothing.
use Rattle.std.proofs.Math.Option.{Option, some}
use Rattle.std.specs.Prelude.{Bool, true, false, List, [], ◌∷◌, ℕ, zero, suc}
use Rattle.gf2.specs.Field.{◌⊕◌, same}
use Rattle.gf2.specs.Rows.{Row, Numbered, Rows}
use Rattle.gf2.specs.Answers.{Position, OpenAnswer, unsatisfiable, opened, held, conflict, implied, ExplainAnswer}
use Rattle.gf2.specs.History.{Event, opens, assumes, backs, explains, stuck, refused}
use Rattle.format.specs.Sheet.{n_of, sheet_rows}

-- a repeated variable cancels
abbrev pub parity : List ℕ → Bool → Row
parity [] p zero = p
parity [] p (suc v) = false
parity (x ∷ xs) p v = same x v ⊕ parity xs p v

abbrev pub eqn : ℕ → List ℕ → Bool → Numbered
eqn r xs p = record { number = r; row = parity xs p }

abbrev pub because : List ℕ → List ℕ → ExplainAnswer
because clause numbers = record { clause = clause; numbers = numbers }

abbrev pub sheet : List ℕ → OpenAnswer → Event
sheet bytes answer = opens (n_of bytes) (sheet_rows bytes) answer

-- `00 C0 5E C0`: document 003, example 5. `01 80 72 D6 1A`: system B, document 003, example 6. `00 00 00`, `00 00 20`, `00 00 30`.
abbrev pub five_sheet : List ℕ
five_sheet = 0 ∷ 192 ∷ 94 ∷ 192 ∷ []

abbrev pub system_b_sheet : List ℕ
system_b_sheet = 1 ∷ 128 ∷ 114 ∷ 214 ∷ 26 ∷ []

abbrev pub empty_sheet : List ℕ
empty_sheet = 0 ∷ 0 ∷ 0 ∷ []

abbrev pub always_sheet : List ℕ
always_sheet = 0 ∷ 0 ∷ 32 ∷ []

abbrev pub never_sheet : List ℕ
never_sheet = 0 ∷ 0 ∷ 48 ∷ []

abbrev pub accepted : List (List ℕ)
accepted = five_sheet ∷ system_b_sheet ∷ empty_sheet ∷ always_sheet ∷ never_sheet ∷ []

-- what document 01 says that the first two sheets are
abbrev pub five : Rows
five = eqn 1 (1 ∷ 2 ∷ 3 ∷ []) true ∷ eqn 2 (2 ∷ 3 ∷ []) false ∷ []

abbrev pub system_b : Rows
system_b = eqn 1 (1 ∷ 4 ∷ 6 ∷ []) true ∷ eqn 2 (2 ∷ 4 ∷ 5 ∷ []) false ∷ eqn 3 (3 ∷ 4 ∷ 6 ∷ []) false ∷ []

-- document 004, section 8; two that contradict each other
abbrev pub eight : Rows
eight = eqn 1 (1 ∷ 2 ∷ 3 ∷ []) true ∷ eqn 2 (1 ∷ 3 ∷ 4 ∷ []) true ∷ eqn 3 (2 ∷ 4 ∷ 5 ∷ []) true ∷ []

abbrev pub contrary : Rows
contrary = eqn 1 (1 ∷ 2 ∷ []) true ∷ eqn 2 (1 ∷ 2 ∷ []) false ∷ []

abbrev pub table : List (List Event)
table =
    (sheet five_sheet (opened 2 (2 ∷ [])) ∷ explains 1 (because (2 ∷ []) (1 ∷ 2 ∷ [])) ∷ [])
    ∷ (opens 5 eight (opened 3 (10 ∷ [])) ∷ explains 5 (because (10 ∷ []) (1 ∷ 2 ∷ 3 ∷ [])) ∷ [])
    ∷ (opens 2 contrary (unsatisfiable (1 ∷ 2 ∷ [])) ∷ [])
    ∷ (sheet system_b_sheet (opened 3 [])
    ∷ assumes 2 (implied (7 ∷ []))
    ∷ assumes 8 (implied (12 ∷ []))
    ∷ explains 6 (because (12 ∷ 3 ∷ 9 ∷ []) (1 ∷ []))
    ∷ assumes 10 (implied (5 ∷ []))
    ∷ explains 2 (because (5 ∷ 9 ∷ 11 ∷ []) (2 ∷ []))
    ∷ assumes 6 conflict
    ∷ backs 1
    ∷ assumes 5 (implied [])
    ∷ assumes 11 (implied (9 ∷ 13 ∷ []))
    ∷ explains 6 (because (13 ∷ 3 ∷ 4 ∷ 10 ∷ []) (1 ∷ 2 ∷ []))
    ∷ [])
    ∷ (sheet empty_sheet (opened 0 []) ∷ [])
    ∷ (sheet always_sheet (opened 0 []) ∷ [])
    ∷ (sheet never_sheet (unsatisfiable (1 ∷ [])) ∷ [])
    -- the session of document 01
    ∷ (sheet system_b_sheet (opened 3 []) ∷ assumes 2 (implied (7 ∷ [])) ∷ explains 3 (because (7 ∷ 3 ∷ []) (1 ∷ 3 ∷ [])) ∷ assumes 6 conflict ∷ backs 0 ∷ assumes 8 (implied []) ∷ [])
    ∷ []

-- Answers of modules that look right (document 01, "Errors that look right" and "What may not slip through"), after the assumptions named.
pub record Mistake : Type 0 where
  pub n : ℕ
  pub rows : Rows
  pub taken : List ℕ
  pub event : Event

abbrev pub mistake : ℕ → Rows → List ℕ → Event → Mistake
mistake n rows taken event = record { n = n; rows = rows; taken = taken; event = event }

abbrev pub where_made : Mistake → Option Position
where_made m = some (record { n = m.n; rows = m.rows; taken = m.taken })

abbrev pub mistakes : List Mistake
mistakes =
    -- always held; held for a conflict; a conflict for what is free
    mistake 6 system_b [] (assumes 2 held)
    ∷ mistake 6 system_b (2 ∷ 8 ∷ 10 ∷ []) (assumes 6 held)
    ∷ mistake 6 system_b [] (assumes 2 conflict)
    -- implied 0
    ∷ mistake 6 system_b [] (assumes 2 (implied []))
    -- the literal itself among the implied; the list not ascending; one left out; an old one listed again
    ∷ mistake 6 system_b [] (assumes 2 (implied (2 ∷ 7 ∷ [])))
    ∷ mistake 6 system_b (2 ∷ 5 ∷ []) (assumes 11 (implied (13 ∷ 9 ∷ [])))
    ∷ mistake 6 system_b (2 ∷ 5 ∷ []) (assumes 11 (implied (13 ∷ [])))
    ∷ mistake 6 system_b (2 ∷ []) (assumes 8 (implied (7 ∷ 12 ∷ [])))
    -- an invented kept count
    ∷ mistake 6 system_b [] (opens 6 system_b (opened 2 []))
    ∷ mistake 6 system_b [] (opens 0 (eqn 1 [] false ∷ []) (opened 1 []))
    -- elimination to a triangle only; parity by document 001
    ∷ mistake 6 system_b [] (opens 5 eight (opened 3 []))
    ∷ mistake 6 system_b [] (opens 3 five (opened 2 (3 ∷ [])))
    -- unsatisfiable with a row too few, or in another order; opened all the same
    ∷ mistake 6 system_b [] (opens 2 contrary (unsatisfiable (2 ∷ [])))
    ∷ mistake 6 system_b [] (opens 2 contrary (unsatisfiable (2 ∷ 1 ∷ [])))
    ∷ mistake 6 system_b [] (opens 2 contrary (opened 1 []))
    -- citing every assumption; citing every row; a clause in the order of taking
    ∷ mistake 6 system_b (2 ∷ 8 ∷ 10 ∷ []) (explains 2 (because (5 ∷ 3 ∷ 9 ∷ 11 ∷ []) (2 ∷ [])))
    ∷ mistake 6 system_b (2 ∷ 5 ∷ 11 ∷ []) (explains 6 (because (13 ∷ 3 ∷ 4 ∷ 10 ∷ []) (1 ∷ 2 ∷ 3 ∷ [])))
    ∷ mistake 6 system_b (8 ∷ 2 ∷ []) (explains 6 (because (12 ∷ 9 ∷ 3 ∷ []) (1 ∷ [])))
    -- a value that only a dropped assumption implied
    ∷ mistake 6 system_b (2 ∷ []) (assumes 12 held)
    -- what is open refused as not open; no exchange found
    ∷ mistake 6 system_b (2 ∷ []) (refused 11)
    ∷ mistake 6 system_b (2 ∷ []) (stuck 8)
    ∷ []

-- Two rows equal in variables 1 to 64, one having 65 and the other 66, opposite parities.
abbrev pub up_to : ℕ → List ℕ
up_to zero = []
up_to (suc v) = suc v ∷ up_to v

abbrev pub wide : Rows
wide = eqn 1 (65 ∷ up_to 64) true ∷ eqn 2 (66 ∷ up_to 64) false ∷ []
