-- DEMAND 3: calls and their answers, the position that they lead to, and which answers are right there.
--   Event       a call with its answer. Two refusals look at the state and stand by themselves: explain's 10 and assume's 12
--   after s e   what is open after it: the constraints last opened and the surviving assumptions, or nothing
--   Right s e   the answer is the definition's for what is open before it
--   Runs, at_end   each answer of a run of calls is right where it is given; what is open after the run
-- Assumes nothing.
use Rattle.std.specs.Prelude.{◌≢◌, List, [], ◌∷◌, length, ℕ, ◌≤◌}
use Rattle.std.proofs.Math.Option.{Option, none, some}
use Rattle.gf2.specs.Rows.{Var, Rows}
use Rattle.gf2.specs.Answers.{Literal, Position, start, withdrawn, moved, OpenAnswer, unsatisfiable, opened, AnswersOpen, AssumeAnswer, AnswersAssume, ExplainAnswer, Explanation, Unexplained}

pub data Event : Type 0 where
  opens : ℕ → Rows → OpenAnswer → Event
  assumes : ℕ → AssumeAnswer → Event
  backs : ℕ → Event
  explains : ℕ → ExplainAnswer → Event
  unexplained : ℕ → Event
  stuck : ℕ → Event
  refused : ℕ → Event

abbrev pub after : Option Position → Event → Option Position
after s (opens n rows (opened count list)) = some (start n rows)
after s (opens n rows (unsatisfiable list)) = none
after none (assumes l answer) = none
after (some p) (assumes l answer) = some (moved p l answer)
after none (backs d) = none
after (some p) (backs d) = some (withdrawn p d)
after s (explains v answer) = s
after s (unexplained v) = s
after s (stuck l) = s
after s (refused number) = s

-- 10 is given exactly if there is nothing to explain, 12 never, and 11 never while something is open.
-- Which other refusal is given depends on the numbers of the call and of its header: the fields `refused` of the promises.
abbrev pub Right : Option Position → Event → Type 0
Right s (opens n rows answer) = AnswersOpen n rows answer
Right none (assumes l answer) = ⊥
Right (some p) (assumes l answer) = Literal p.n l × AnswersAssume p l answer
Right none (backs d) = ⊥
Right (some p) (backs d) = d ≤ length p.taken
Right none (explains v answer) = ⊥
Right (some p) (explains v answer) = Var p.n v × (Unexplained p v → ⊥) × Explanation p v answer
Right none (unexplained v) = ⊥
Right (some p) (unexplained v) = Var p.n v × Unexplained p v
Right s (stuck l) = ⊥
Right none (refused number) = (number ≢ 10) × (number ≢ 12)
Right (some p) (refused number) = (number ≢ 10) × (number ≢ 11) × (number ≢ 12)

abbrev pub Runs : Option Position → List Event → Type 0
Runs s [] = Unit {0}
Runs s (e ∷ es) = Right s e × Runs (after s e) es

abbrev pub at_end : Option Position → List Event → Option Position
at_end s [] = s
at_end s (e ∷ es) = at_end (after s e) es
