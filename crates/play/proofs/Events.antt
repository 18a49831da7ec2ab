-- A SESSION AND DEMAND 3: its text is the lines of a run of right events.
--   event_line, lines_of   the line of an event, and the lines of a list of events, one after another
--   command_event          a command that is answered is an event that is right at the position before it and leads to the position after it
--   commands_run, session_run   THE STATEMENT: there is a run of events, from where nothing is open, each right where it is given, and the text is their lines
-- Assumes nothing.
use mathlib.Core.Path.{◌≡◌, refl, sym, ap, ◌∙◌, subst}
use mathlib.Core.List.{List, [], ◌∷◌, ◌++◌, append-nil}
use mathlib.Core.Option.{Option, none, some}
use Prim.Native.Nat.{ℕ, suc, ◌*◌}
use native.Mathlib.Omega.{arith}
use Rattle.gf2.specs.Answers.{variable, Position, unsatisfiable, opened}
use Rattle.gf2.specs.History.{Event, opens, assumes, backs, explains, unexplained, stuck, refused, after, Right, Runs}
use Rattle.format.specs.Sheet.{n_of, m_of, sheet_rows, reader}
use Rattle.format.proofs.Refusing.{never}
use Rattle.lines.specs.Lines.{Said, text}
use Rattle.dialogue.specs.Dialogue.{opening_line, assume_line}
use Rattle.play.specs.Session as session
use Rattle.play.specs.Session.{Command, Commands, Session}

abbrev pub event_line : Event → Said
event_line (opens n rows answer) = opening_line answer
event_line (assumes l answer) = assume_line (variable l) answer
event_line (backs d) = Said.back d
event_line (explains v answer) = Said.explained v answer.clause answer.numbers
event_line (unexplained v) = Said.refused 10
event_line (stuck l) = Said.refused 12
event_line (refused number) = Said.refused number

abbrev pub lines_of : List Event → List ℕ
lines_of [] = []
lines_of (e ∷ es) = text (event_line e) ++ lines_of es

-- an event with what it says of what is open
pub record Told (s t : Option Position) (said : Said) : Type 0 where
  pub event : Event
  pub right : Right s event
  pub leads : after s event ≡ t
  pub line : event_line event ≡ said

pub command_event : {p q : Position} {k i : ℕ} {said : Said} → Command p k i said q → Told (some p) (some q) said
command_event (session.assumed {l} answer m f) = record { event = assumes l answer; right = (m, f); leads = refl; line = refl }
command_event (session.no_literal n) = record { event = refused 8; right = (λ e. omega arith, λ e. omega arith, λ e. omega arith); leads = refl; line = refl }
command_event (session.gone_back {d} l) = record { event = backs d; right = l; leads = refl; line = refl }
command_event (session.too_deep l) = record { event = refused 9; right = (λ e. omega arith, λ e. omega arith, λ e. omega arith); leads = refl; line = refl }
command_event (session.explained {v} answer m u f) = record { event = explains v answer; right = (m, u, f); leads = refl; line = refl }
command_event (session.unexplained {v} m u) = record { event = unexplained v; right = (m, u); leads = refl; line = refl }
command_event (session.no_variable n) = record { event = refused 8; right = (λ e. omega arith, λ e. omega arith, λ e. omega arith); leads = refl; line = refl }

pub commands_run : {p : Position} {bytes t : List ℕ} → Commands p bytes t → (es : List Event) × Runs (some p) es × (t ≡ lines_of es)
commands_run (session.over l) = ([], tt, refl)
commands_run (session.ended e) = ([], tt, refl)
commands_run (session.then {more = more} c cs) =
    let e = command_event c in
    let f = commands_run cs in (
      e.event ∷ f.0,
      (e.right, subst (λ (s : Option Position). Runs s f.0) (sym e.leads) f.1),
      ap (λ (a : Said). text a ++ more) (sym e.line) ∙ ap (λ (z : List ℕ). text (event_line e.event) ++ z) f.2,
    )

pub session_run : {sheet commands t : List ℕ} → Session sheet commands t → (es : List Event) × Runs none es × (t ≡ lines_of es)
session_run {sheet} (session.refused {c} e) = (
  refused (suc c) ∷ [],
  ((never 10 (reader sheet (9 * m_of sheet)) refl c e, never 12 (reader sheet (9 * m_of sheet)) refl c e), tt),
  sym (append-nil (text (Said.refused (suc c)))),
)
session_run {sheet} (session.contradicted {rows} z f) =
    (opens (n_of sheet) (sheet_rows sheet) (unsatisfiable rows) ∷ [], (f, tt), sym (append-nil (text (opening_line (unsatisfiable rows)))))
session_run {sheet} (session.commanded {kept} {codes} z f cs) =
    let r = commands_run cs in
    (opens (n_of sheet) (sheet_rows sheet) (opened kept codes) ∷ r.0, (f, r.1), ap (λ (t : List ℕ). text (opening_line (opened kept codes)) ++ t) r.2)
