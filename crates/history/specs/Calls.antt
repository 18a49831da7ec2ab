-- CALLS ON ONE STATE, known by their promises alone, and the events of the definitions that they are.
--   Called h work h' work'   one call of open, assume, back or explain took the state (h, work) to (h', work'), and its promise holds
--   event                    the call with its answer, as demand 3 reads it; open_event, assume_event, back_event, explain_event: of each kind of call
--   Calls h mem h' mem'      any list of calls, one after another, on one memory:
--     then                   a call is lent the front of it, as many words as its caller says (they may be too few), and the words behind those stay;
--     aside                  a call that its checks refuse, with another number than 10 and 12, may have been lent any other buffer;
--     copied                 between two calls the memory may be replaced by another one with the same first 4,096 words: a state may be copied
--   CallsBy                  such a list of calls of any kind, given the event of one: of Called, or in capi of the exports
--   events                   the events of a list of calls, in order
--   Matches h mem s          the state is one that the module made for what is open; where nothing is, the header is not open
--   Counted h p              the numbers of the header are those of the position: its variables, its rows, its taken literals, its kept rows
-- Assumes nothing.
use Rattle.std.specs.Prelude.{◌≡◌, cond, List, [], ◌∷◌, ◌++◌, eqb, length, take, drop, ℕ, zero, suc, Result}
use Rattle.std.proofs.Math.Option.{Option, none, some}
use Rattle.gf2.specs.Rows.{Rows, Kept}
use Rattle.gf2.specs.Answers.{Position, OpenAnswer, AssumeAnswer, ExplainAnswer}
use Rattle.gf2.specs.History.{Event, opens, assumes, backs, explains, unexplained, stuck, refused}
use Rattle.format.specs.Sheet.{n_of, sheet_rows}
use Rattle.format.specs.declared.Refusal.{Refusal}
use Rattle.judge.specs.declared.Header.{Header}
use Rattle.tableau.specs.Layout.{size}
use Rattle.parity.specs.declared.Opening.{Opening}
use Rattle.parity.specs.declared.Assuming.{Assuming}
use Rattle.parity.specs.declared.Explained.{Explained}
use Rattle.parity.specs.Numbers.{open_number, open_says, assume_number, assume_says, explain_number, explain_says}
use Rattle.parity.specs.Promises.{Stands, OpenPromise, AssumePromise, BackPromise, ExplainPromise}

pub data Called (h : Header) (work : List ℕ) : Header → List ℕ → Type 0 where
  opening : (s store literals rows store' literals' rows' : List ℕ) (answer : Result Opening Refusal) {h' : Header} {work' : List ℕ}
      → OpenPromise h s store work literals rows h' answer store' work' literals' rows' → Called h work h' work'
  assuming : (code : ℕ) (literals literals' : List ℕ) (answer : Result Assuming Refusal) {h' : Header} {work' : List ℕ}
      → AssumePromise h work literals code h' answer work' literals' → Called h work h' work'
  backing : (depth number : ℕ) {h' : Header} {work' : List ℕ} → BackPromise h work depth number h' work' → Called h work h' work'
  explaining : (v : ℕ) (clause rows clause' rows' : List ℕ) (answer : Result Explained Refusal)
      → ExplainPromise h work clause rows v answer clause' rows' → Called h work h work

-- the number of a refusal, or what the answer says
abbrev pub open_event : List ℕ → Result Opening Refusal → ℕ → List ℕ → List ℕ → Event
open_event s answer kept literals rows = go (open_says answer kept literals rows)
  where
    go : Option OpenAnswer → Event
    go none = refused (open_number answer)
    go (some said) = opens (n_of s) (sheet_rows s) said

abbrev pub assume_event : ℕ → Result Assuming Refusal → List ℕ → Event
assume_event code answer literals = go (assume_says answer literals)
  where
    go : Option AssumeAnswer → Event
    go none = cond (eqb (assume_number answer) 12) (stuck code) (refused (assume_number answer))
    go (some said) = assumes code said

abbrev pub back_event : ℕ → ℕ → Event
back_event depth zero = backs depth
back_event depth (suc c) = refused (suc c)

abbrev pub explain_event : ℕ → Result Explained Refusal → List ℕ → List ℕ → Event
explain_event v answer clause rows = go (explain_says answer clause rows)
  where
    go : Option ExplainAnswer → Event
    go none = cond (eqb (explain_number answer) 10) (unexplained v) (refused (explain_number answer))
    go (some said) = explains v said

abbrev pub event : {h : Header} {work : List ℕ} {h' : Header} {work' : List ℕ} → Called h work h' work' → Event
event {h' = h'} (opening s store literals rows store' literals' rows' answer promise) = open_event s answer h'.kept literals' rows'
event (assuming code literals literals' answer promise) = assume_event code answer literals'
event (backing depth number promise) = back_event depth number
event (explaining v clause rows clause' rows' answer promise) = explain_event v answer clause' rows'

pub data CallsBy (Call : Header → List ℕ → Header → List ℕ → Type 0)
    (event_of : (h : Header) (work : List ℕ) (h' : Header) (work' : List ℕ) → Call h work h' work' → Event) : Header → List ℕ → Header → List ℕ → Type 0 where
  done : {h : Header} {mem : List ℕ} → CallsBy Call event_of h mem h mem
  then : {h h' h'' : Header} {mem part mem'' : List ℕ} (words : ℕ)
      → Call h (take words mem) h' part → CallsBy Call event_of h' (part ++ drop words mem) h'' mem'' → CallsBy Call event_of h mem h'' mem''
  aside : {h h' h'' : Header} {mem mem'' other other' : List ℕ} (number : ℕ) (c : Call h other h' other')
      → event_of h other h' other' c ≡ refused number → CallsBy Call event_of h' mem h'' mem'' → CallsBy Call event_of h mem h'' mem''
  copied : {h h'' : Header} {mem mem' mem'' : List ℕ}
      → take size mem ≡ take size mem' → CallsBy Call event_of h mem' h'' mem'' → CallsBy Call event_of h mem h'' mem''

module _ {Call : Header → List ℕ → Header → List ℕ → Type 0}
    {event_of : (h : Header) (work : List ℕ) (h' : Header) (work' : List ℕ) → Call h work h' work' → Event} where
  abbrev pub events : {h h' : Header} {mem mem' : List ℕ} → CallsBy Call event_of h mem h' mem' → List Event
  events done = []
  events (then words c cs) = event_of _ _ _ _ c ∷ events cs
  events (aside number c e cs) = refused number ∷ events cs
  events (copied same cs) = events cs

abbrev pub Calls : Header → List ℕ → Header → List ℕ → Type 0
Calls h mem h' mem' = CallsBy Called (λ h work h' work' c. event c) h mem h' mem'

abbrev pub Matches : Header → List ℕ → Option Position → Type 0
Matches h mem none = h.«open» ≡ 1 → ⊥
Matches h mem (some p) = Stands h mem p

pub record Counted (h : Header) (p : Position) : Type 0 where
  pub variables : h.n ≡ p.n
  pub rows : h.m ≡ length p.rows
  pub depth : h.depth ≡ length p.taken
  pub kept : (ks : Rows) → Kept p.n p.rows ks → h.kept ≡ length ks
