-- THE STEPS OF A SESSION: each is one call with its line. What the call answers and leaves is what its own promise says.
--   room                    so many bytes hold any line
--   OpeningFits, AssumingFits, ExplainingFits   the lists of an answer lie within their buffers, and its line within the room
--   Begins                  the opening, on bytes that are taken for the sheet
--   AssumeStep, BackStep, ExplainStep   a command other than 0
--   Turns                   any command
-- Assumes nothing.
use Rattle.std.specs.Prelude.{◌≡◌, true, false, List, ℕ, ◌≤◌, length, Result, Ok, Err}
use Rattle.format.specs.Refusals.{answered}
use Rattle.format.specs.declared.Refusal.{Refusal}
use Rattle.judge.specs.declared.Header.{Header}
use Rattle.lines.specs.Lines.{Put, text}
use Rattle.parity.specs.declared.Opening.{Opening}
use Rattle.parity.specs.declared.Opening.TheVariants.{Unsatisfiable, Opened}
use Rattle.parity.specs.declared.Assuming.{Assuming}
use Rattle.parity.specs.declared.Assuming.TheVariants.{Held, Conflict, Taken}
use Rattle.parity.specs.declared.Explained.{Explained}
use Rattle.parity.specs.Promises.{nothing_open, OpenPromise, AssumePromise, BackPromise, ExplainPromise}
use Rattle.dialogue.specs.declared.Step.{Step}
use Rattle.dialogue.specs.Dialogue.{kind, operand, said_opening, said_assuming, said_backing, said_explaining, goes_on}

abbrev pub room : ℕ
room = 16384

-- ---- lists

abbrev pub OpeningFits : Result Opening Refusal → List ℕ → List ℕ → Type 0
OpeningFits (Err r) literals rows = Unit
OpeningFits (Ok (Unsatisfiable count)) literals rows = (count ≤ 256) × (count ≤ length rows)
OpeningFits (Ok (Opened count)) literals rows = (count ≤ 512) × (count ≤ length literals)

abbrev pub AssumingFits : Result Assuming Refusal → List ℕ → Type 0
AssumingFits (Err r) literals = Unit
AssumingFits (Ok Held) literals = Unit
AssumingFits (Ok (Conflict variable)) literals = Unit
AssumingFits (Ok (Taken count)) literals = (count ≤ 512) × (count ≤ length literals)

abbrev pub ExplainingFits : Result Explained Refusal → List ℕ → List ℕ → Type 0
ExplainingFits (Err r) clause rows = Unit
ExplainingFits (Ok e) clause rows = (e.codes ≤ 512) × (e.codes ≤ length clause) × (e.numbers ≤ 256) × (e.numbers ≤ length rows)

-- ---- steps

pub record Begins (s store work literals rows line : List ℕ) (step : Step) (store' work' literals' rows' line' : List ℕ) : Type 0 where
  pub answer : Result Opening Refusal
  pub promise : OpenPromise nothing_open s store work literals rows step.header answer store' work' literals' rows'
  pub says : Put line 0 (text (said_opening answer step.header.kept literals' rows')) line' step.end
  pub more : step.more ≡ goes_on answer

pub record AssumeStep (h : Header) (work literals line : List ℕ) (code : ℕ) (step : Step) (work' literals' line' : List ℕ) : Type 0 where
  pub answer : Result Assuming Refusal
  pub promise : AssumePromise h work literals code step.header answer work' literals'
  pub says : Put line 0 (text (said_assuming answer literals')) line' step.end
  pub more : step.more ≡ true

pub record BackStep (h : Header) (work line : List ℕ) (depth : ℕ) (step : Step) (work' line' : List ℕ) : Type 0 where
  pub answer : Result (Unit {0}) Refusal
  pub promise : BackPromise h work depth (answered answer) step.header work'
  pub says : Put line 0 (text (said_backing answer step.header.depth)) line' step.end
  pub more : step.more ≡ true

pub record ExplainStep (h : Header) (work literals rows line : List ℕ) (variable : ℕ) (step : Step) (literals' rows' line' : List ℕ) : Type 0 where
  pub answer : Result Explained Refusal
  pub promise : ExplainPromise h work literals rows variable answer literals' rows'
  pub same : step.header ≡ h
  pub says : Put line 0 (text (said_explaining answer variable literals' rows')) line' step.end
  pub more : step.more ≡ true

pub data Turns (h : Header) (work literals rows line : List ℕ) (command : ℕ) : Step → List ℕ → List ℕ → List ℕ → List ℕ → Type 0 where
  ends : kind command ≡ 0 → Turns h work literals rows line command (record { header = h; end = 0; more = false }) work literals rows line
  assumes : {step : Step} {work' literals' line' : List ℕ}
      → kind command ≡ 1 → AssumeStep h work literals line (operand command) step work' literals' line'
      → Turns h work literals rows line command step work' literals' rows line'
  backs : {step : Step} {work' line' : List ℕ} → kind command ≡ 2 → BackStep h work line (operand command) step work' line'
      → Turns h work literals rows line command step work' literals rows line'
  explains : {step : Step} {literals' rows' line' : List ℕ}
      → kind command ≡ 3 → ExplainStep h work literals rows line (operand command) step literals' rows' line'
      → Turns h work literals rows line command step work literals' rows' line'
