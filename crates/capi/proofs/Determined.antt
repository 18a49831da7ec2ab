-- WHAT C SEES IS DETERMINED: two results that the promise of one export allows are the same, the struct and every answer buffer.
--   read_same, write_same, open_same   for every input
--   assume_same, explain_same          for every input that the checks refuse, and on a state that the module made
-- Of the working buffer open_same and assume_same determine the length and the words past the first 4,096, and no others.
-- Back promises what its core does: `back_determined` of history speaks of it as it stands.
-- Assumes nothing.
use mathlib.Core.Path.{◌≡◌, sym, ap, ap₂, ◌∙◌}
use mathlib.Core.List.{List}
use lib.ListN.{get_or, length, drop}
use Prim.Native.Nat.{ℕ, ◌<◌, ◌^◌}
use Rattle.gf2.specs.Answers.{Position}
use Rattle.judge.specs.declared.Header.{Header}
use Rattle.sheet.proofs.Reader.{read_determined}
use Rattle.sheet.proofs.Writer.{write_determined}
use Rattle.tableau.specs.Layout.{size}
use Rattle.parity.specs.Promises.{Stands}
use Rattle.history.proofs.Determined.{open_determined, AssumeRefusal, assume_determined, ExplainRefusal, explain_determined}
use Rattle.capi.specs.declared.ReadNumbers.{ReadNumbers}
use Rattle.capi.specs.declared.WriteNumbers.{WriteNumbers}
use Rattle.capi.specs.declared.OpenNumbers.{OpenNumbers}
use Rattle.capi.specs.declared.AssumeNumbers.{AssumeNumbers}
use Rattle.capi.specs.declared.ExplainNumbers.{ExplainNumbers}
use Rattle.capi.specs.Exports.{read_numbers, ReadExport, write_numbers, WriteExport, open_numbers, OpenExport, assume_numbers, AssumeExport, explain_numbers, ExplainExport}

pub read_same : (s old : List ℕ) (r r' : ReadNumbers) (new new' : List ℕ) → ReadExport s old r new → ReadExport s old r' new' → (r ≡ r') × (new ≡ new')
read_same s old r r' new new' p q =
    let d = read_determined s old new new' p.answer q.answer p.promise q.promise in
    (p.numbers ∙ ap read_numbers d.0 ∙ sym q.numbers, d.1)

pub write_same : (n m : ℕ) (ws old : List ℕ) (r r' : WriteNumbers) (new new' : List ℕ) → ((i : ℕ) → get_or new i 0 < 2 ^ 8) → ((i : ℕ) → get_or new' i 0 < 2 ^ 8)
    → WriteExport n m ws old r new → WriteExport n m ws old r' new' → (r ≡ r') × (new ≡ new')
write_same n m ws old r r' new new' bytes bytes' p q =
    let d = write_determined n m ws old new new' p.answer q.answer bytes bytes' p.promise q.promise in
    (p.numbers ∙ ap write_numbers d.0 ∙ sym q.numbers, d.1)

pub open_same : (old : Header) (s store work literals rows : List ℕ) (r r' : OpenNumbers) (store₁ store₂ work₁ work₂ literals₁ literals₂ rows₁ rows₂ : List ℕ)
    → OpenExport old s store work literals rows r store₁ work₁ literals₁ rows₁ → OpenExport old s store work literals rows r' store₂ work₂ literals₂ rows₂
    → (r ≡ r') × (store₁ ≡ store₂) × (literals₁ ≡ literals₂) × (rows₁ ≡ rows₂) × (length work₁ ≡ length work₂) × (drop size work₁ ≡ drop size work₂)
open_same old s store work literals rows r r' store₁ store₂ work₁ work₂ literals₁ literals₂ rows₁ rows₂ p q =
    let d = open_determined old s store work literals rows p.after q.after p.answer q.answer store₁ store₂ work₁ work₂ literals₁ literals₂ rows₁ rows₂ p.promise q.promise in
    (p.numbers ∙ ap₂ open_numbers d.answer d.header ∙ sym q.numbers, d.filled, d.listed, d.numbers, d.long, d.past)

pub assume_same : (old : Header) (work literals : List ℕ) (code : ℕ) → (AssumeRefusal old work literals code ≡ 0 → (p : Position) × Stands old work p)
    → (r r' : AssumeNumbers) (work₁ work₂ literals₁ literals₂ : List ℕ)
    → AssumeExport old work literals code r work₁ literals₁ → AssumeExport old work literals code r' work₂ literals₂
    → (r ≡ r') × (literals₁ ≡ literals₂) × (length work₁ ≡ length work₂) × (drop size work₁ ≡ drop size work₂)
assume_same old work literals code made r r' work₁ work₂ literals₁ literals₂ a b =
    let d = assume_determined old work literals code made a.after b.after a.answer b.answer work₁ work₂ literals₁ literals₂ a.promise b.promise in
    (a.numbers ∙ ap₂ assume_numbers d.answer d.header ∙ sym b.numbers, d.listed, d.long, d.past)

pub explain_same : (h : Header) (work clause rows : List ℕ) (v : ℕ) → (ExplainRefusal h work clause rows v ≡ 0 → (p : Position) × Stands h work p)
    → (r r' : ExplainNumbers) (clause₁ clause₂ rows₁ rows₂ : List ℕ)
    → ExplainExport h work clause rows v r clause₁ rows₁ → ExplainExport h work clause rows v r' clause₂ rows₂ → (r ≡ r') × (clause₁ ≡ clause₂) × (rows₁ ≡ rows₂)
explain_same h work clause rows v made r r' clause₁ clause₂ rows₁ rows₂ a b =
    let d = explain_determined h work clause rows v made a.answer b.answer clause₁ clause₂ rows₁ rows₂ a.promise b.promise in
    (a.numbers ∙ ap explain_numbers d.answer ∙ sym b.numbers, d.clauses, d.numbers)
