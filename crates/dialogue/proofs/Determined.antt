-- EACH STEP OF A SESSION IS DETERMINED: two results that its promise allows are the same, all but the working buffer.
--   begin_same   for every input
--   turn_same    for every command; an assume or explain that the checks do not refuse is to meet a state that the module made
-- Assumes nothing.
use mathlib.Core.Path.{◌≡◌, refl, sym, ap, ap₂, ◌∙◌}
use mathlib.Core.Bool.{Bool}
use mathlib.Core.List.{List}
use Prim.Native.Nat.{ℕ}
use native.Mathlib.Omega.{arith}
use Rattle.std.specs.Prelude.{Result, Ok, Err}
use Rattle.format.specs.Refusals.{answered}
use Rattle.format.specs.declared.Refusal.{Refusal}
use Rattle.format.proofs.Answering.{number_pos}
use Rattle.gf2.specs.Answers.{Position}
use Rattle.judge.specs.declared.Header.{Header}
use Rattle.lines.specs.Lines.{Said, Put, text}
use Rattle.lines.proofs.Puts.{put_text, put_same}
use Rattle.parity.specs.Promises.{Stands, nothing_open}
use Rattle.history.proofs.Determined.{open_determined, back_determined, AssumeRefusal, assume_determined, ExplainRefusal, explain_determined}
use Rattle.dialogue.specs.declared.Step.{Step}
use Rattle.dialogue.specs.Dialogue.{kind, operand, said_opening, said_assuming, said_backing, said_explaining, goes_on}
use Rattle.dialogue.specs.Steps.{Begins, AssumeStep, BackStep, ExplainStep, Turns, ends, assumes, backs, explains}

-- two lines that say the same
line_same : {line line₁ line₂ : List ℕ} {a b : Said} {i j : ℕ} → a ≡ b → Put line 0 (text a) line₁ i → Put line 0 (text b) line₂ j → (line₁ ≡ line₂) × (i ≡ j)
line_same e f g = put_same f (put_text g (ap text (sym e)))

step_same : (r r' : Step) → r.header ≡ r'.header → r.end ≡ r'.end → r.more ≡ r'.more → r ≡ r'
step_same r r' a b c =
    ap (λ (h : Header). record { header = h; end = r.end; more = r.more }) a
    ∙ ap₂ (λ (e : ℕ) (m : Bool). record { header = r'.header; end = e; more = m }) b c

-- ---- the opening
pub begin_same : (s store work literals rows line : List ℕ) {r r' : Step} {store₁ store₂ work₁ work₂ literals₁ literals₂ rows₁ rows₂ line₁ line₂ : List ℕ}
    → Begins s store work literals rows line r store₁ work₁ literals₁ rows₁ line₁ → Begins s store work literals rows line r' store₂ work₂ literals₂ rows₂ line₂
    → (r ≡ r') × (store₁ ≡ store₂) × (literals₁ ≡ literals₂) × (rows₁ ≡ rows₂) × (line₁ ≡ line₂)
begin_same s store work literals rows line {r} {r'} {store₁} {store₂} {work₁} {work₂} {literals₁} {literals₂} {rows₁} {rows₂} {line₁} {line₂} p q =
    let d = open_determined nothing_open s store work literals rows r.header r'.header p.answer q.answer store₁ store₂ work₁ work₂ literals₁ literals₂ rows₁ rows₂ p.promise q.promise in
    let said : said_opening p.answer r.header.kept literals₁ rows₁ ≡ said_opening q.answer r'.header.kept literals₂ rows₂ = rw (d.answer, d.header, d.listed, d.numbers) in
    let l = line_same said p.says q.says in
    (step_same r r' d.header l.1 (p.more ∙ ap goes_on d.answer ∙ sym q.more), d.filled, d.listed, d.numbers, l.0)

-- ---- a command
assume_same : (h : Header) (work literals line : List ℕ) (code : ℕ) → (AssumeRefusal h work literals code ≡ 0 → (p : Position) × Stands h work p) → {r r' : Step} {work₁ work₂ literals₁ literals₂ line₁ line₂ : List ℕ}
    → AssumeStep h work literals line code r work₁ literals₁ line₁ → AssumeStep h work literals line code r' work₂ literals₂ line₂ → (r ≡ r') × (literals₁ ≡ literals₂) × (line₁ ≡ line₂)
assume_same h work literals line code made {r} {r'} {work₁} {work₂} {literals₁} {literals₂} p q =
    let d = assume_determined h work literals code made r.header r'.header p.answer q.answer work₁ work₂ literals₁ literals₂ p.promise q.promise in
    let l = line_same (ap₂ said_assuming d.answer d.listed) p.says q.says in
    (step_same r r' d.header l.1 (p.more ∙ sym q.more), d.listed, l.0)

-- where there is no value beside it, an answer is its number
said_same : (a b : Result (Unit {0}) Refusal) (d e : ℕ) → answered a ≡ answered b → d ≡ e → said_backing a d ≡ said_backing b e
said_same (Ok x) (Ok y) d e n m = ap Said.back m
said_same (Ok x) (Err q) d e n m = absurd (omega (arith, number_pos q))
said_same (Err r) (Ok y) d e n m = absurd (omega (arith, number_pos r))
said_same (Err r) (Err q) d e n m = ap Said.refused n

back_same : (h : Header) (work line : List ℕ) (depth : ℕ) {r r' : Step} {work₁ work₂ line₁ line₂ : List ℕ}
    → BackStep h work line depth r work₁ line₁ → BackStep h work line depth r' work₂ line₂ → (r ≡ r') × (line₁ ≡ line₂)
back_same h work line depth {r} {r'} {work₁} {work₂} p q =
    let d = back_determined h work depth (answered p.answer) (answered q.answer) r.header r'.header work₁ work₂ p.promise q.promise in
    let l = line_same (said_same p.answer q.answer r.header.depth r'.header.depth d.0 (ap (λ (k : Header). k.depth) d.1)) p.says q.says in
    (step_same r r' d.1 l.1 (p.more ∙ sym q.more), l.0)

explain_same : (h : Header) (work literals rows line : List ℕ) (v : ℕ) → (ExplainRefusal h work literals rows v ≡ 0 → (p : Position) × Stands h work p) → {r r' : Step} {literals₁ literals₂ rows₁ rows₂ line₁ line₂ : List ℕ}
    → ExplainStep h work literals rows line v r literals₁ rows₁ line₁ → ExplainStep h work literals rows line v r' literals₂ rows₂ line₂
    → (r ≡ r') × (literals₁ ≡ literals₂) × (rows₁ ≡ rows₂) × (line₁ ≡ line₂)
explain_same h work literals rows line v made {r} {r'} {literals₁} {literals₂} {rows₁} {rows₂} p q =
    let d = explain_determined h work literals rows v made p.answer q.answer literals₁ literals₂ rows₁ rows₂ p.promise q.promise in
    let said : said_explaining p.answer v literals₁ rows₁ ≡ said_explaining q.answer v literals₂ rows₂ = rw (d.answer, d.clauses, d.numbers) in
    let l = line_same said p.says q.says in
    (step_same r r' (p.same ∙ sym q.same) l.1 (p.more ∙ sym q.more), d.clauses, d.numbers, l.0)

module _ (h : Header) (work literals rows line : List ℕ) (command : ℕ) where
  pub turn_same : (kind command ≡ 1 → AssumeRefusal h work literals (operand command) ≡ 0 → (p : Position) × Stands h work p)
      → (kind command ≡ 3 → ExplainRefusal h work literals rows (operand command) ≡ 0 → (p : Position) × Stands h work p)
      → {r r' : Step} {work₁ work₂ literals₁ literals₂ rows₁ rows₂ line₁ line₂ : List ℕ}
      → Turns h work literals rows line command r work₁ literals₁ rows₁ line₁ → Turns h work literals rows line command r' work₂ literals₂ rows₂ line₂
      → (r ≡ r') × (literals₁ ≡ literals₂) × (rows₁ ≡ rows₂) × (line₁ ≡ line₂)
  turn_same m n (ends e) (ends f) = (refl, refl, refl, refl)
  turn_same m n (assumes e p) (assumes f q) =
      let d = assume_same h work literals line (operand command) (m e) p q in
      (d.0, d.1, refl, d.2)
  turn_same m n (backs e p) (backs f q) =
      let d = back_same h work line (operand command) p q in
      (d.0, refl, refl, d.1)
  turn_same m n (explains e p) (explains f q) = explain_same h work literals rows line (operand command) (n e) p q
  turn_same m n (ends e) (assumes f q) = absurd (omega arith)
  turn_same m n (ends e) (backs f q) = absurd (omega arith)
  turn_same m n (ends e) (explains f q) = absurd (omega arith)
  turn_same m n (assumes e p) (ends f) = absurd (omega arith)
  turn_same m n (assumes e p) (backs f q) = absurd (omega arith)
  turn_same m n (assumes e p) (explains f q) = absurd (omega arith)
  turn_same m n (backs e p) (ends f) = absurd (omega arith)
  turn_same m n (backs e p) (assumes f q) = absurd (omega arith)
  turn_same m n (backs e p) (explains f q) = absurd (omega arith)
  turn_same m n (explains e p) (ends f) = absurd (omega arith)
  turn_same m n (explains e p) (assumes f q) = absurd (omega arith)
  turn_same m n (explains e p) (backs f q) = absurd (omega arith)
