-- THE PROMISES of open, assume, back and explain: what each call says of its answer and of every buffer it was lent.
--   open_own, open_checks          the checks of open, in order: its own after the reader's; those of the other calls stand in judge
--   Stands h work p              header and working buffer are a state that the module made for the position p
--   nothing_open, opens_with       the header of an unsatisfiable opening, and of one that is open
--   Used x old new               x places of an answer buffer are used, and it keeps what it had past them
--   Worked old new               the working buffer keeps its length, and what it had past its first 4,096 words
--   OpenLeaves, AssumeLeaves, ExplainLeaves    what an answer that the checks let through leaves, on every state
--   OpenDone, AssumeRight, ExplainRight        which answer is right: for a sheet, and on a state that the module made
--   OpenPromise, AssumePromise, BackPromise, ExplainPromise   the promises: a refusal changes nothing;
--                                any other answer is safe on every state, and right on a state that the module made
-- Assumes nothing.
use Rattle.std.specs.Prelude.{◌≡◌, Bool, ◌||◌, List, [], ◌∷◌, ◌++◌, length, take, drop, ltb, ℕ, suc, ◌+◌, ◌*◌, ◌<◌, ◌≤◌, Result, Ok, Err}
use Rattle.std.proofs.Math.Option.{some}
use Rattle.gf2.specs.Rows.{Row}
use Rattle.gf2.specs.Answers.{variable, Position, start, withdrawn, moved, OpenAnswer, AnswersOpen, AssumeAnswer, AnswersAssume, ExplainAnswer, Explanation, Unexplained, Reached}
use Rattle.linear.specs.State.{KeptPlaces}
use Rattle.linear.specs.Positions.{position}
use Rattle.format.specs.Bits.{bits_of}
use Rattle.format.specs.Refusals.{Check, check, refusal, IsRefused}
use Rattle.format.specs.Sheet.{n_of, m_of, sheet_rows, store_words, reader}
use Rattle.format.specs.declared.Refusal.{Refusal}
use Rattle.judge.specs.declared.Header.{Header}
use Rattle.judge.specs.Checks.{Fit, assume_checks, back_checks, explain_checks, at_depth}
use Rattle.tableau.specs.View.{MadeAt}
use Rattle.tableau.specs.Layout.{size}
use Rattle.parity.specs.declared.Opening.{Opening}
use Rattle.parity.specs.declared.Opening.TheVariants.{Unsatisfiable, Opened}
use Rattle.parity.specs.declared.Assuming.{Assuming}
use Rattle.parity.specs.declared.Assuming.TheVariants.{Held, Conflict, Taken}
use Rattle.parity.specs.declared.Explained.{Explained}
use Rattle.parity.specs.Numbers.{open_value, open_says, assume_number, assume_value, assume_says, explain_number, explain_codes, explain_rows, explain_says}

-- ---- states

pub record Stands (h : Header) (work : List ℕ) (p : Position) : Type 0 where
  pub Sheet : ℕ → Row
  pub kept : ℕ → Bool
  pub var : ℕ → ℕ
  pub val : ℕ → Bool
  pub fit : Fit h
  pub is_kept : KeptPlaces h.n h.m Sheet kept
  pub made : MadeAt (take size work) h.n h.m Sheet kept h.depth var val h.kept
  pub here : p ≡ position h.n h.m Sheet h.depth var val
  pub reached : Reached p

abbrev pub nothing_open : Header
nothing_open = record { «open» = 0; n = 0; m = 0; kept = 0; depth = 0 }

abbrev pub opens_with : ℕ → ℕ → ℕ → Header
opens_with n m kept = record { «open» = 1; n = n; m = m; kept = kept; depth = 0 }

-- ---- buffers

pub record Used (x : ℕ) (old new : List ℕ) : Type 0 where
  pub long : length new ≡ length old
  pub rest : drop x new ≡ drop x old

pub record Worked (old new : List ℕ) : Type 0 where
  pub long : length new ≡ length old
  pub rest : drop size new ≡ drop size old

-- ---- open

abbrev pub open_own : List ℕ → ℕ → ℕ → ℕ → List Check
open_own s words literals rows = check 6 (ltb words 4096) ∷ check 7 (ltb literals (n_of s) || ltb rows (m_of s)) ∷ []

abbrev pub open_checks : List ℕ → ℕ → ℕ → ℕ → ℕ → List Check
open_checks s store words literals rows = reader s store ++ open_own s words literals rows

-- what an opening leaves that is not refused
abbrev pub OpenLeaves : List ℕ → Header → Result Opening Refusal → List ℕ → List ℕ → List ℕ → List ℕ → List ℕ → Type 0
OpenLeaves s h answer work' literals rows literals' rows' = go answer
  where
    count : ℕ
    count = open_value answer

    go : Result Opening Refusal → Type 0
    go (Err r) = ⊥
    go (Ok (Unsatisfiable x)) = (h ≡ nothing_open) × (count ≤ m_of s) × (literals' ≡ literals) × Used count rows rows'
    go (Ok (Opened x)) =
        (h ≡ opens_with (n_of s) (m_of s) h.kept) × (count ≤ n_of s) × Used count literals literals' × (rows' ≡ rows) × Stands h work' (start (n_of s) (sheet_rows s))

pub record OpenDone (s : List ℕ) (store work literals rows : List ℕ) (h : Header) (answer : Result Opening Refusal)
    (store' work' literals' rows' : List ℕ) : Type 0 where
  pub filled : store' ≡ store_words (n_of s) (m_of s) (drop 19 (bits_of s)) ++ drop (9 * m_of s) store
  pub worked : Worked work work'
  pub leaves : OpenLeaves s h answer work' literals rows literals' rows'
  pub said : OpenAnswer
  pub says : open_says answer h.kept literals' rows' ≡ some said
  pub right : AnswersOpen (n_of s) (sheet_rows s) said

pub record OpenPromise (old : Header) (s store work literals rows : List ℕ) (h : Header) (answer : Result Opening Refusal)
    (store' work' literals' rows' : List ℕ) : Type 0 where
  pub refused : (c : ℕ) → refusal (open_checks s (length store) (length work) (length literals) (length rows)) ≡ suc c
      → IsRefused answer (suc c) × (h ≡ old) × (store' ≡ store) × (work' ≡ work) × (literals' ≡ literals) × (rows' ≡ rows)
  pub done : refusal (open_checks s (length store) (length work) (length literals) (length rows)) ≡ 0 → OpenDone s store work literals rows h answer store' work' literals' rows'

-- ---- assume

-- on every state
abbrev pub AssumeLeaves : Header → ℕ → Header → Result Assuming Refusal → List ℕ → List ℕ → List ℕ → List ℕ → Type 0
AssumeLeaves old code h answer work literals work' literals' = go answer
  where
    value : ℕ
    value = assume_value answer

    go : Result Assuming Refusal → Type 0
    go (Err r) = (assume_number answer ≡ 12) × (h ≡ old) × (work' ≡ work) × (literals' ≡ literals)
    go (Ok Held) = (h ≡ old) × (work' ≡ work) × (literals' ≡ literals)
    go (Ok (Conflict v)) = (value ≡ variable code) × (h ≡ old) × (work' ≡ work) × (literals' ≡ literals)
    go (Ok (Taken x)) = (h ≡ at_depth old (old.depth + 1)) × (old.depth < old.n) × (value ≤ old.n) × Worked work work' × Used value literals literals'

-- on a state that the module made for p
pub record AssumeRight (p : Position) (code : ℕ) (h : Header) (answer : Result Assuming Refusal) (work' literals' : List ℕ) : Type 0 where
  pub said : AssumeAnswer
  pub says : assume_says answer literals' ≡ some said
  pub right : AnswersAssume p code said
  pub stands : Stands h work' (moved p code said)

pub record AssumePromise (old : Header) (work literals : List ℕ) (code : ℕ) (h : Header) (answer : Result Assuming Refusal)
    (work' literals' : List ℕ) : Type 0 where
  pub refused : (c : ℕ) → refusal (assume_checks old (length work) (length literals) code) ≡ suc c
      → IsRefused answer (suc c) × (h ≡ old) × (work' ≡ work) × (literals' ≡ literals)
  pub leaves : refusal (assume_checks old (length work) (length literals) code) ≡ 0 → AssumeLeaves old code h answer work literals work' literals'
  pub right : refusal (assume_checks old (length work) (length literals) code) ≡ 0 → (p : Position) → Stands old work p → AssumeRight p code h answer work' literals'

-- ---- back

pub record BackPromise (old : Header) (work : List ℕ) (depth : ℕ) (number : ℕ) (h : Header) (work' : List ℕ) : Type 0 where
  pub answer : number ≡ refusal (back_checks old (length work) depth)
  pub refused : (c : ℕ) → number ≡ suc c → (h ≡ old) × (work' ≡ work)
  pub done : number ≡ 0 → (h ≡ at_depth old depth) × Worked work work'
  pub right : number ≡ 0 → (p : Position) → Stands old work p → Stands h work' (withdrawn p depth)

-- ---- explain

abbrev pub ExplainLeaves : Header → Result Explained Refusal → List ℕ → List ℕ → List ℕ → List ℕ → Type 0
ExplainLeaves h answer clause rows clause' rows' = go answer
  where
    codes : ℕ
    codes = explain_codes answer

    numbers : ℕ
    numbers = explain_rows answer

    go : Result Explained Refusal → Type 0
    go (Err r) = (explain_number answer ≡ 10) × (clause' ≡ clause) × (rows' ≡ rows)
    go (Ok e) = (codes ≤ h.n) × (numbers ≤ h.m) × Used codes clause clause' × Used numbers rows rows'

abbrev pub ExplainRight : Position → ℕ → Result Explained Refusal → List ℕ → List ℕ → Type 0
ExplainRight p v (Err r) clause rows = Unexplained p v
ExplainRight p v (Ok e) clause rows = (Unexplained p v → ⊥) × ((said : ExplainAnswer) × (explain_says (Ok e) clause rows ≡ some said) × Explanation p v said)

pub record ExplainPromise (h : Header) (work clause rows : List ℕ) (v : ℕ) (answer : Result Explained Refusal) (clause' rows' : List ℕ) : Type 0 where
  pub refused : (c : ℕ) → refusal (explain_checks h (length work) (length clause) (length rows) v) ≡ suc c
      → IsRefused answer (suc c) × (clause' ≡ clause) × (rows' ≡ rows)
  pub leaves : refusal (explain_checks h (length work) (length clause) (length rows) v) ≡ 0 → ExplainLeaves h answer clause rows clause' rows'
  pub right : refusal (explain_checks h (length work) (length clause) (length rows) v) ≡ 0 → (p : Position) → Stands h work p → ExplainRight p v answer clause' rows'
