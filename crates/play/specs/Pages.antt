-- WHAT THE PAGES OF A SESSION HOLD.
--   Roomy                          buffers that are large enough for every state and every answer, and a page for every line
--   Continued P s at h work text   more may follow: the state stands for a position, and `text`, and behind it what the commands from
--                                  place `at` on say from that position, has P
--   SoFar P s r work text          the session has come as far as r says: where it is over, `text` has P; else more may follow `text`
--   Paged P s r ..                 a page, and its text as the `text` of SoFar
--   Appended                       a command whose line was put into a page from place `at` on
--   Spoken P old new               a writer's known bytes grew by a text that has P
--   InPart old new text            they grew by a front of the text
--   Begun P old new                they grew by a front of the text that has P, where there is one
-- Assumes nothing.
use Rattle.std.specs.Prelude.{◌≡◌, true, false, List, ◌++◌, length, take, drop, ℕ, ◌+◌, ◌≤◌, Option}
use Rattle.std.specs.Io.KnownBytes.{Appends}
use Rattle.gf2.specs.Answers.{Position}
use Rattle.judge.specs.declared.Header.{Header}
use Rattle.lines.specs.Lines.{Put}
use Rattle.parity.specs.Promises.{Stands}
use Rattle.dialogue.specs.Steps.{room, Turns}
use Rattle.dialogue.specs.declared.Step.{Step}
use Rattle.play.specs.declared.Progress.{Progress}
use Rattle.play.specs.Session.{Commands}

pub record Roomy (work literals rows page : List ℕ) : Type 0 where
  pub work_long : 4096 ≤ length work
  pub literals_long : 512 ≤ length literals
  pub rows_long : 256 ≤ length rows
  pub page_long : room ≤ length page

pub record Continued (P : List ℕ → Type 0) (s : List ℕ) (at : ℕ) (h : Header) (work text : List ℕ) : Type 0 where
  pub position : Position
  pub stands : Stands h work position
  pub after : (more : List ℕ) → Commands position (drop at s) more → P (text ++ more)

pub record SoFar (P : List ℕ → Type 0) (s : List ℕ) (r : Progress) (work text : List ℕ) : Type 0 where
  pub within : r.at ≤ length s
  pub whole : r.more ≡ false → P text
  pub continued : r.more ≡ true → Continued P s r.at r.header work text

-- `put` says that the text of the page is what stands in it before `end`, which lies within it; that it keeps its length, and what stood in it from `end` on
pub record Paged (P : List ℕ → Type 0) (s : List ℕ) (r : Progress) (work' page page' : List ℕ) : Type 0 where
  pub put : Put page 0 (take r.end page') page' r.end
  pub so_far : SoFar P s r work' (take r.end page')

-- as `turn` left it in a line buffer of its own, which was the rest of the page
pub record Appended (h : Header) (work literals rows page : List ℕ) (at command : ℕ) (step : Step) (work' literals' rows' page' : List ℕ) : Type 0 where
  pub line' : List ℕ
  pub end : ℕ
  pub ends : step.end ≡ at + end
  pub turns : Turns h work literals rows (drop at page) command (record { header = step.header; end = end; more = step.more }) work' literals' rows' line'
  pub joined : page' ≡ take at page ++ line'

pub record Spoken (P : List ℕ → Type 0) (old new : Option (List ℕ)) : Type 0 where
  pub text : List ℕ
  pub says : P text
  pub grown : Appends old new text

abbrev pub InPart : Option (List ℕ) → Option (List ℕ) → List ℕ → Type 0
InPart old new text = (k : ℕ) × (k ≤ length text) × Appends old new (take k text)

abbrev pub Begun : (List ℕ → Type 0) → Option (List ℕ) → Option (List ℕ) → Type 0
Begun P old new = (text : List ℕ) → P text → InPart old new text
