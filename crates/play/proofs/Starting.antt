-- THE OPENING OF A SESSION, with buffers that are large enough for every sheet.
--   roomy_checks    its checks come to what the reader says of the sheet
--   start_paged     the line of an opening is the first page of its session
--   never_for_room  a session's sheet is never refused with 4, 6 or 7
-- Assumes nothing.
use mathlib.Core.Path.{◌≡◌, refl, sym, ◌∙◌, subst}
use mathlib.Core.Bool.{Bool, true, false}
use mathlib.Core.Logic.{inl, inr, ◌≢◌}
use mathlib.Core.List.{List}
use Prim.Native.Nat.{ℕ, suc, ◌*◌, ◌≤◌}
use native.Mathlib.Omega.{arith}
use lib.Dec.{ltb}
use lib.ListN.{length, take}
use borrow.Author.Tests.{ltb-false, le-ltb}
use Rattle.std.specs.Prelude.{Result, Ok, Err}
use Rattle.gf2.specs.Answers.{AnswersOpen}
use Rattle.format.specs.Refusals.{refusal}
use Rattle.format.specs.declared.Refusal.{Refusal}
use Rattle.format.proofs.Refusing.{never}
use Rattle.format.specs.Sheet.{n_of, m_of, sheet_rows, reader}
use Rattle.format.proofs.Answering.{RefusedOrNot, refused_or, refused_is}
use Rattle.judge.specs.declared.Header.{Header}
use Rattle.lines.specs.Lines.{text}
use Rattle.lines.proofs.Puts.{put_text}
use Rattle.parity.specs.declared.Opening.{Opening}
use Rattle.parity.specs.declared.Opening.TheVariants.{Unsatisfiable, Opened}
use Rattle.parity.specs.Promises.{nothing_open, open_checks, OpenPromise, OpenDone}
use Rattle.history.proofs.Demand.{some_one}
use Rattle.history.proofs.Determined.{OpenRefusal}
use Rattle.dialogue.specs.declared.Step.{Step}
use Rattle.dialogue.proofs.Parts.{never_longer}
use Rattle.dialogue.specs.Dialogue.{sheet_end, said_opening, goes_on}
use Rattle.dialogue.specs.Steps.{Begins}
use Rattle.play.specs.Session as session
use Rattle.play.specs.Session.{sheet_part, sheet_refusal, SessionOn}
use Rattle.play.specs.Pages.{Roomy, SoFar, Paged}
use Rattle.play.proofs.Continuing.{so_far_whole, so_far_more}

pub roomy_checks : (s : List ℕ) (store words literals rows : ℕ) → 2304 ≤ store → 4096 ≤ words → 512 ≤ literals → 256 ≤ rows
    → refusal (open_checks s store words literals rows) ≡ refusal (reader s (9 * m_of s))
roomy_checks s store words literals rows a b c d = go (ltb 512 (n_of s)) refl (ltb 256 (m_of s)) refl
  where
    go : (many : Bool) → ltb 512 (n_of s) ≡ many → (more : Bool) → ltb 256 (m_of s) ≡ more
        → refusal (open_checks s store words literals rows) ≡ refusal (reader s (9 * m_of s))
    go true e more f = rw e refl
    go false e true f = rw (e, f) refl
    go false e false f =
        let n = ltb-false 512 (n_of s) e in
        let m = ltb-false 256 (m_of s) f in
        rw (
          e,
          f,
          le-ltb store (9 * m_of s) (omega arith),
          le-ltb (9 * m_of s) (9 * m_of s) (omega arith),
          le-ltb words 4096 b,
          le-ltb literals (n_of s) (omega arith),
          le-ltb rows (m_of s) (omega arith),
        ) refl

-- what the line of an opening says of the session, by its answer
abbrev OpeningSoFar : List ℕ → Header → ℕ → List ℕ → List ℕ → List ℕ → Result Opening Refusal → Type 0
OpeningSoFar s h end work' literals' rows' a =
    SoFar (SessionOn s) s (record { at = sheet_end s; header = h; end = end; more = goes_on a }) work' (text (said_opening a h.kept literals' rows'))

module _ {s store work literals rows page : List ℕ} (large : 2304 ≤ length store) (roomy : Roomy work literals rows page) where
  opening_so_far : {h : Header} (a : Result Opening Refusal) {store' work' literals' rows' : List ℕ}
      → OpenPromise nothing_open (sheet_part s) store work literals rows h a store' work' literals' rows' → (end : ℕ)
      → OpeningSoFar s h end work' literals' rows' a
  opening_so_far {h} a {store'} {work'} {literals'} {rows'} promise end = go (refused_or (OpenRefusal (sheet_part s) store work literals rows))
    where
      same : OpenRefusal (sheet_part s) store work literals rows ≡ sheet_refusal (sheet_part s)
      same = roomy_checks (sheet_part s) (length store) (length work) (length literals) (length rows) large roomy.work_long roomy.literals_long roomy.rows_long

      within : sheet_end s ≤ length s
      within = omega arith

      done : (a : Result Opening Refusal) → OpenDone (sheet_part s) store work literals rows h a store' work' literals' rows'
          → sheet_refusal (sheet_part s) ≡ 0 → OpeningSoFar s h end work' literals' rows' a
      done (Err r) d z = absurd d.leaves
      done (Ok (Unsatisfiable x)) d z =
          let right = subst (AnswersOpen (n_of (sheet_part s)) (sheet_rows (sheet_part s))) (sym (some_one _ d.said d.says)) d.right in
          so_far_whole within (session.contradicted z right)
      done (Ok (Opened x)) d z =
          let right = subst (AnswersOpen (n_of (sheet_part s)) (sheet_rows (sheet_part s))) (sym (some_one _ d.said d.says)) d.right in
          so_far_more within (record { position = _; stands = d.leaves.4; after = λ more cs. session.commanded z right cs })

      go : RefusedOrNot (OpenRefusal (sheet_part s) store work literals rows) → OpeningSoFar s h end work' literals' rows' a
      go (inl w) =
          let r = refused_is a (suc w.0) (promise.refused w.0 w.1).0 in
          rw r.1 (so_far_whole within (rw r.2 (session.refused (sym same ∙ w.1))))
      go (inr z) = done a (promise.done z) (sym same ∙ z)

  pub start_paged : {at : ℕ} → at ≡ sheet_end s → {step : Step} {store' work' literals' rows' page' : List ℕ}
      → Begins (take at s) store work literals rows page step store' work' literals' rows' page'
      → Paged (SessionOn s) s (record { at = at; header = step.header; end = step.end; more = step.more }) work' page page'
  start_paged here {step} begun =
      let b = rw here at begun in
      record { put = put_text b.says (sym b.says.front); so_far = rw (here, b.says.front, b.more) (opening_so_far b.answer b.promise step.end) }

-- no session is refused for want of room, and none because its sheet is too long: 4, 6 and 7 do not occur
pub never_for_room : (s : List ℕ) (c : ℕ) → sheet_refusal (sheet_part s) ≡ suc c → (suc c ≢ 4) × (suc c ≢ 6) × (suc c ≢ 7)
never_for_room s c e = (
  λ f. never_longer s (9 * m_of (sheet_part s)) (e ∙ f),
  never 6 (reader (sheet_part s) (9 * m_of (sheet_part s))) (rw (le-ltb (9 * m_of (sheet_part s)) (9 * m_of (sheet_part s)) (omega arith)) refl) c e,
  never 7 (reader (sheet_part s) (9 * m_of (sheet_part s))) refl c e,
)
