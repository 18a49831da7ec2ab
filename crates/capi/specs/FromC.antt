-- CALLS OF THE EXPORTS ON ONE STATE, and the events of the definitions that they are, read from what C sees: the struct and the buffers after the call.
--   open_read, assume_read, explain_read   the event of an answer: 0 has lists, 100 is held, 101 conflict, 102 unsatisfiable.
--                              Explain's 10 and assume's 12 stand by themselves, and any other number is a refusal's
--   Exported h work h' work'   one call of an export took the state (h, work) to (h', work'), and its promise holds; h' is the header that C gets
--   exported_event             its event; of back, which answers a plain number, it is history's
--   ExportedCalls              any list of such calls on one memory, as history's Calls; `events` of history are its events
-- Assumes nothing.
use Rattle.std.specs.Prelude.{cond, List, take, eqb, ℕ}
use Rattle.gf2.specs.Answers.{unsatisfiable, opened, held, conflict, implied}
use Rattle.gf2.specs.History.{Event, opens, assumes, explains, unexplained, stuck, refused}
use Rattle.format.specs.Sheet.{n_of, sheet_rows}
use Rattle.judge.specs.declared.Header.{Header}
use Rattle.parity.specs.Promises.{BackPromise}
use Rattle.history.specs.Calls.{back_event, CallsBy}
use Rattle.capi.specs.declared.OpenNumbers.{OpenNumbers}
use Rattle.capi.specs.declared.AssumeNumbers.{AssumeNumbers}
use Rattle.capi.specs.declared.ExplainNumbers.{ExplainNumbers}
use Rattle.capi.specs.Exports.{OpenExport, AssumeExport, ExplainExport}

-- of the sheet s, with the answer buffers after the call
abbrev pub open_read : List ℕ → OpenNumbers → List ℕ → List ℕ → Event
open_read s r literals rows =
    cond (eqb r.number 0) (opens (n_of s) (sheet_rows s) (opened r.header.kept (take r.count literals)))
    (cond (eqb r.number 102) (opens (n_of s) (sheet_rows s) (unsatisfiable (take r.count rows))) (refused r.number))

-- of the literal with that code
abbrev pub assume_read : ℕ → AssumeNumbers → List ℕ → Event
assume_read code r literals =
    cond (eqb r.number 0) (assumes code (implied (take r.count literals)))
    (cond (eqb r.number 100) (assumes code held)
    (cond (eqb r.number 101) (assumes code conflict)
    (cond (eqb r.number 12) (stuck code) (refused r.number))))

-- of the variable v
abbrev pub explain_read : ℕ → ExplainNumbers → List ℕ → List ℕ → Event
explain_read v r clause rows =
    cond (eqb r.number 0) (explains v (record { clause = take r.clause clause; numbers = take r.rows rows }))
    (cond (eqb r.number 10) (unexplained v) (refused r.number))

pub data Exported (h : Header) (work : List ℕ) : Header → List ℕ → Type 0 where
  opening : (s store literals rows store' literals' rows' : List ℕ) (r : OpenNumbers) {work' : List ℕ}
      → OpenExport h s store work literals rows r store' work' literals' rows' → Exported h work r.header work'
  assuming : (code : ℕ) (literals literals' : List ℕ) (r : AssumeNumbers) {work' : List ℕ}
      → AssumeExport h work literals code r work' literals' → Exported h work r.header work'
  backing : (depth number : ℕ) {h' : Header} {work' : List ℕ} → BackPromise h work depth number h' work' → Exported h work h' work'
  explaining : (v : ℕ) (clause rows clause' rows' : List ℕ) (r : ExplainNumbers)
      → ExplainExport h work clause rows v r clause' rows' → Exported h work h work

abbrev pub exported_event : {h : Header} {work : List ℕ} {h' : Header} {work' : List ℕ} → Exported h work h' work' → Event
exported_event (opening s store literals rows store' literals' rows' r promise) = open_read s r literals' rows'
exported_event (assuming code literals literals' r promise) = assume_read code r literals'
exported_event (backing depth number promise) = back_event depth number
exported_event (explaining v clause rows clause' rows' r promise) = explain_read v r clause' rows'

abbrev pub ExportedCalls : Header → List ℕ → Header → List ℕ → Type 0
ExportedCalls h mem h' mem' = CallsBy Exported (λ h work h' work' c. exported_event c) h mem h' mem'
