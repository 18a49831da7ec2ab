-- DEMAND 3 FOR THE EXPORTS AS C CALLS THEM: what history proves of any list of calls, of the events that C reads.
--   exported_called    a call of an export is a call, with an answer of the module
--   called_event       and C reads the event that it is; all_called, called_events: of any list of calls
--   exported_demand, exported_opened, exported_stands, exported_counted   demand, demand_opened, demand_stands and demand_counted of history
-- Assumes nothing.
use mathlib.Core.Path.{◌≡◌, refl, sym, ap, ap₂, ◌∙◌, subst}
use mathlib.Core.Bool.{false}
use mathlib.Core.Option.{Option, none, some}
use mathlib.Core.List.{List, ◌∷◌, ◌++◌}
use lib.Dec.{eqb}
use Prim.Native.Nat.{ℕ, ◌<◌}
use native.Mathlib.Omega.{arith}
use borrow.Author.Tests.{ne_eqb}
use Rattle.std.specs.Prelude.{Result, Ok, Err}
use Rattle.gf2.specs.Rows.{Rows}
use Rattle.gf2.specs.Answers.{Position, OpenAnswer}
use Rattle.gf2.specs.History.{Event, opens, refused, Runs, at_end}
use Rattle.format.specs.Refusals.{number}
use Rattle.format.specs.declared.Refusal.{Refusal}
use Rattle.format.proofs.Answering.{number_within}
use Rattle.judge.specs.declared.Header.{Header}
use Rattle.parity.specs.declared.Opening.{Opening}
use Rattle.parity.specs.declared.Opening.TheVariants.{Unsatisfiable, Opened}
use Rattle.parity.specs.declared.Assuming.{Assuming}
use Rattle.parity.specs.declared.Assuming.TheVariants.{Held, Conflict, Taken}
use Rattle.parity.specs.declared.Explained.{Explained}
use Rattle.parity.specs.Promises.{Stands, OpenPromise, AssumePromise}
use Rattle.history.specs.Calls as calls
use Rattle.history.specs.Calls.{Called, open_event, assume_event, explain_event, event, Calls, done, then, aside, copied, events, Matches, Counted}
use Rattle.history.proofs.Demand.{demand, demand_opened, demand_stands, demand_counted}
use Rattle.capi.specs.declared.OpenNumbers.{OpenNumbers}
use Rattle.capi.specs.declared.AssumeNumbers.{AssumeNumbers}
use Rattle.capi.specs.declared.ExplainNumbers.{ExplainNumbers}
use Rattle.capi.specs.Exports.{open_numbers, assume_numbers, explain_numbers}
use Rattle.capi.specs.FromC.{open_read, assume_read, explain_read, Exported, opening, assuming, backing, explaining, exported_event, ExportedCalls}

abbrev pub exported_called : {h h' : Header} {work work' : List ℕ} → Exported h work h' work' → Called h work h' work'
exported_called {h} {h'} {work} {work'} (opening s store literals rows store' literals' rows' r x) =
    calls.opening s store literals rows store' literals' rows' x.answer
    (subst (λ (k : Header). OpenPromise h s store work literals rows k x.answer store' work' literals' rows') (sym (ap (λ (z : OpenNumbers). z.header) x.numbers)) x.promise)
exported_called {h} {h'} {work} {work'} (assuming code literals literals' r x) =
    calls.assuming code literals literals' x.answer
    (subst (λ (k : Header). AssumePromise h work literals code k x.answer work' literals') (sym (ap (λ (z : AssumeNumbers). z.header) x.numbers)) x.promise)
exported_called (backing depth number x) = calls.backing depth number x
exported_called (explaining v clause rows clause' rows' r x) = calls.explaining v clause rows clause' rows' x.answer x.promise

-- a refusal's number is that of no other answer
none_done : (r : Refusal) → eqb (number r) 0 ≡ false
none_done r = ne_eqb (number r) 0 (let p = (number_within r).0 in omega arith)

not_above : (r : Refusal) (k : ℕ) → 12 < k → eqb (number r) k ≡ false
not_above r k l = ne_eqb (number r) k (let p = (number_within r).1 in omega arith)

open_reads : (s : List ℕ) (r : OpenNumbers) (answer : Result Opening Refusal) (h : Header) (literals rows : List ℕ) → r ≡ open_numbers answer h
    → open_read s r literals rows ≡ open_event s answer r.header.kept literals rows
open_reads s r answer h literals rows e = subst (λ (z : OpenNumbers). open_read s z literals rows ≡ open_event s answer z.header.kept literals rows) (sym e) (go answer)
  where
    go : (answer : Result Opening Refusal) → open_read s (open_numbers answer h) literals rows ≡ open_event s answer h.kept literals rows
    go (Err q) = rw (none_done q, not_above q 102 (omega arith)) refl
    go (Ok (Unsatisfiable x)) = refl
    go (Ok (Opened x)) = refl

assume_reads : (code : ℕ) (r : AssumeNumbers) (answer : Result Assuming Refusal) (h : Header) (literals : List ℕ) → r ≡ assume_numbers answer h
    → assume_read code r literals ≡ assume_event code answer literals
assume_reads code r answer h literals e = subst (λ (z : AssumeNumbers). assume_read code z literals ≡ assume_event code answer literals) (sym e) (go answer)
  where
    go : (answer : Result Assuming Refusal) → assume_read code (assume_numbers answer h) literals ≡ assume_event code answer literals
    go (Err q) = rw (none_done q, not_above q 100 (omega arith), not_above q 101 (omega arith)) refl
    go (Ok Held) = refl
    go (Ok (Conflict v)) = refl
    go (Ok (Taken x)) = refl

explain_reads : (v : ℕ) (r : ExplainNumbers) (answer : Result Explained Refusal) (clause rows : List ℕ) → r ≡ explain_numbers answer
    → explain_read v r clause rows ≡ explain_event v answer clause rows
explain_reads v r answer clause rows e = subst (λ (z : ExplainNumbers). explain_read v z clause rows ≡ explain_event v answer clause rows) (sym e) (go answer)
  where
    go : (answer : Result Explained Refusal) → explain_read v (explain_numbers answer) clause rows ≡ explain_event v answer clause rows
    go (Err q) = rw (none_done q) refl
    go (Ok x) = refl

pub called_event : {h h' : Header} {work work' : List ℕ} (c : Exported h work h' work') → exported_event c ≡ event (exported_called c)
called_event (opening s store literals rows store' literals' rows' r x) = open_reads s r x.answer x.after literals' rows' x.numbers
called_event (assuming code literals literals' r x) = assume_reads code r x.answer x.after literals' x.numbers
called_event (backing depth number x) = refl
called_event (explaining v clause rows clause' rows' r x) = explain_reads v r x.answer clause' rows' x.numbers

-- ---- any calls
abbrev pub all_called : {h h' : Header} {mem mem' : List ℕ} → ExportedCalls h mem h' mem' → Calls h mem h' mem'
all_called done = done
all_called (then words c cs) = then words (exported_called c) (all_called cs)
all_called (aside number c e cs) = aside number (exported_called c) (sym (called_event c) ∙ e) (all_called cs)
all_called (copied same cs) = copied same (all_called cs)

pub called_events : {h h' : Header} {mem mem' : List ℕ} (cs : ExportedCalls h mem h' mem') → events cs ≡ events (all_called cs)
called_events done = refl
called_events (then words c cs) = ap₂ ◌∷◌ (called_event c) (called_events cs)
called_events (aside number c e cs) = ap (λ (es : List Event). refused number ∷ es) (called_events cs)
called_events (copied same cs) = called_events cs

pub exported_demand : (s : Option Position) {h h' : Header} {mem mem' : List ℕ} → Matches h mem s → (cs : ExportedCalls h mem h' mem')
    → Runs s (events cs) × Matches h' mem' (at_end s (events cs))
exported_demand s {h' = h'} {mem' = mem'} m cs = subst (λ (es : List Event). Runs s es × Matches h' mem' (at_end s es)) (sym (called_events cs)) (demand s m (all_called cs))

pub exported_opened : {h h' : Header} {mem mem' : List ℕ} (cs : ExportedCalls h mem h' mem')
    (before later : List Event) (n : ℕ) (rows : Rows) (answer : OpenAnswer)
    → events cs ≡ before ++ (opens n rows answer ∷ later)
    → Runs none (opens n rows answer ∷ later) × Matches h' mem' (at_end none (opens n rows answer ∷ later))
exported_opened cs before later n rows answer e = demand_opened (all_called cs) before later n rows answer (sym (called_events cs) ∙ e)

pub exported_stands : {h h' : Header} {mem mem' : List ℕ} (cs : ExportedCalls h mem h' mem') (p : Position)
    → at_end none (events cs) ≡ some p → Stands h' mem' p
exported_stands cs p e = demand_stands (all_called cs) p (ap (at_end none) (sym (called_events cs)) ∙ e)

pub exported_counted : {h h' : Header} {mem mem' : List ℕ} (cs : ExportedCalls h mem h' mem') (p : Position)
    → at_end none (events cs) ≡ some p → Counted h' p
exported_counted cs p e = demand_counted (all_called cs) p (ap (at_end none) (sym (called_events cs)) ∙ e)
