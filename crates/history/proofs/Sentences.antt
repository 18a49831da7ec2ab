-- SENTENCES OF DOCUMENT 01, each as general as it is true: of the definitions, of the checks, and from the promises.
--   conflict_explained     after a conflict there is something to explain, unless the variable was assumed
--   conflict_contradicts   and if it was, then as the negation of the literal now offered
--   conflict_then_explain  from the promises: where assume answers conflict, explain of the variable that it names, with room for its lists, is refused with 10
--                          exactly if that variable was assumed, and answers exactly if it was not
--   out_of_range           assume of a code outside 2 .. 2n + 1 is 8; code_one: of code 1; no_variables: with n = 0, of every code
--   above_depth            back to a depth above the present one is 9; depth_zero: at depth 0, back to 0 answers, and back to 1 is 9
-- Assumes nothing.
use mathlib.Core.Path.{◌≡◌, refl, sym, ap, ◌∙◌, subst}
use mathlib.Core.Bool.{Bool, true, false, not}
use mathlib.Core.Logic.{◌⊎◌, inl, inr, ◌↔◌}
use mathlib.Core.List.{List}
use lib.ListN.{length, take}
use lib.Dec.{ltb}
use Prim.Native.Nat.{ℕ, ◌+◌, ◌*◌, ◌<◌, ◌≤◌}
use native.Mathlib.Omega.{arith}
use borrow.Author.Tests.{lt-ltb, le-ltb, ltb-true, ltb-false}
use Rattle.std.specs.Prelude.{Result, Ok, Err}
use Rattle.std.proofs.Math.Bool.{or-true}
use Rattle.gf2.specs.Lists.{◌∈◌}
use Rattle.gf2.specs.Rows.{Var}
use Rattle.gf2.specs.Answers as answers
use Rattle.gf2.specs.Answers.{variable, value, negation, Has, Position, Unexplained, Reached}
use Rattle.gf2.proofs.Lists.{all_at}
use Rattle.gf2.proofs.Literals.{same_literal, negation_variable, not_has}
use Rattle.gf2.proofs.Reach.{reached_solution}
use Rattle.format.specs.Refusals.{refusal, IsRefused}
use Rattle.format.specs.declared.Refusal.{Refusal}
use Rattle.format.proofs.Answering.{RefusedOrNot, refused_or}
use Rattle.judge.specs.declared.Header.{Header}
use Rattle.judge.specs.Checks.{Fit, assume_checks, back_checks}
use Rattle.judge.proofs.LineEleven.{is_fit}
use Rattle.judge.proofs.Judged.{back_passes}
use Rattle.tableau.specs.Layout.{size}
use Rattle.parity.specs.declared.Assuming.TheVariants.{Conflict}
use Rattle.parity.specs.declared.Explained.{Explained}
use Rattle.parity.specs.Promises.{Stands, AssumePromise, ExplainPromise, ExplainLeaves}
use Rattle.history.proofs.Memory.{front_stands}
use Rattle.history.proofs.Determined.{AssumeRefusal, ExplainRefusal}
use Rattle.history.proofs.Exactly.{conflict_exactly, unexplained_exactly}
use Rattle.history.proofs.Accepted.{assume_accepted, explain_accepted}

-- ---- explain after a conflict
module _ (p : Position) (l : ℕ) (c : answers.Conflict p l) where
  pub conflict_explained : Unexplained p (variable l) ↔ ((k : ℕ) × (k ∈ p.taken) × (variable k ≡ variable l))
  conflict_explained = (only, λ w. inr w)
    where
      only : Unexplained p (variable l) → (k : ℕ) × (k ∈ p.taken) × (variable k ≡ variable l)
      only (inl none) = absurd (none (not (value l)) (λ a s. not_has a l (c a s)))
      only (inr w) = w

  pub conflict_contradicts : Reached p → (k : ℕ) → k ∈ p.taken → variable k ≡ variable l → k ≡ negation l
  conflict_contradicts r k t e =
      let w = reached_solution p r in
      let a = w.0 in
      let has : Has a k = all_at (Has a) p.taken w.1.taken k t in
      let v : variable k ≡ variable (negation l) = e ∙ sym (negation_variable l) in
      same_literal k (negation l) v (sym has ∙ ap a v ∙ not_has a l (c a w.1))

-- the explain is lent the words of the same state, as many as its caller says
module _ (h : Header) (work literals : List ℕ) (code : ℕ) (p : Position) (st : Stands h work p)
    (h' : Header) (v : ℕ) (work' literals' : List ℕ) (assume : AssumePromise h work literals code h' (Ok (Conflict v)) work' literals')
    (lent clause rows : List ℕ) (same : take size work' ≡ take size lent) (codes : p.n ≤ length clause) (numbers : length p.rows ≤ length rows)
    (answer : Result Explained Refusal) (clause' rows' : List ℕ) (explain : ExplainPromise h' lent clause rows v answer clause' rows') where
  pub conflict_then_explain : (IsRefused answer 10 ↔ ((k : ℕ) × (k ∈ p.taken) × (variable k ≡ v)))
      × (((x : Explained) × (answer ≡ Ok x)) ↔ ((k : ℕ) × (k ∈ p.taken) × (variable k ≡ v) → ⊥))
  conflict_then_explain = (ten, (λ w b. refused_not w (ten.1 b), λ none. answers_else answer (explain.leaves accepted) (λ t. none (ten.0 t))))
    where
      zero_of : RefusedOrNot (AssumeRefusal h work literals code) → AssumeRefusal h work literals code ≡ 0
      zero_of (inl w) = absurd (assume.refused w.0 w.1).0
      zero_of (inr z) = z

      z : AssumeRefusal h work literals code ≡ 0
      z = zero_of (refused_or (AssumeRefusal h work literals code))

      of_code : v ≡ variable code
      of_code = (assume.leaves z).0

      clash : answers.Conflict p code
      clash = (conflict_exactly h work literals code z p st h' (Ok (Conflict v)) work' literals' assume).0 (ap (λ (u : ℕ). Ok (Conflict u)) of_code)

      st' : Stands h' lent p
      st' = front_stands same (rw ((assume.leaves z).1, (assume.leaves z).2) st)

      accepted : ExplainRefusal h' lent clause rows v ≡ 0
      accepted = (explain_accepted h' lent p st' clause rows v).1 (codes, numbers, subst (Var p.n) (sym of_code) ((assume_accepted h work p st literals code).0 z).1)

      exactly : Unexplained p v ↔ ((k : ℕ) × (k ∈ p.taken) × (variable k ≡ v))
      exactly = subst (λ (u : ℕ). Unexplained p u ↔ ((k : ℕ) × (k ∈ p.taken) × (variable k ≡ u))) (sym of_code) (conflict_explained p code clash)

      ten : IsRefused answer 10 ↔ ((k : ℕ) × (k ∈ p.taken) × (variable k ≡ v))
      ten =
          let u = unexplained_exactly h' lent clause rows v accepted p st' answer clause' rows' explain in
          (λ r. exactly.0 (u.0 r), λ w. u.1 (exactly.1 w))

      refused_not : (x : Explained) × (answer ≡ Ok x) → IsRefused answer 10 → ⊥
      refused_not w r = subst (λ (a : Result Explained Refusal). IsRefused a 10) w.1 r

      answers_else : (answer : Result Explained Refusal) → ExplainLeaves h' answer clause rows clause' rows'
          → (IsRefused answer 10 → ⊥) → (x : Explained) × (answer ≡ Ok x)
      answers_else (Err r) l none = absurd (none l.0)
      answers_else (Ok x) l none = (x, refl)

-- ---- the code of an assume
pub out_of_range : (h : Header) (words room code : ℕ) → Fit h → 4096 ≤ words → h.n ≤ room → (code < 2) ⊎ (2 * h.n + 1 < code)
    → refusal (assume_checks h words room code) ≡ 8
out_of_range h words room code f w r (inl l) = rw (is_fit h f, le-ltb words 4096 w, le-ltb room h.n r, lt-ltb code 2 l) refl
out_of_range h words room code f w r (inr l) = rw (is_fit h f, le-ltb words 4096 w, le-ltb room h.n r, lt-ltb (2 * h.n + 1) code l, or-true) refl

pub code_one : (h : Header) (words room : ℕ) → Fit h → 4096 ≤ words → h.n ≤ room → refusal (assume_checks h words room 1) ≡ 8
code_one h words room f w r = out_of_range h words room 1 f w r (inl (omega arith))

pub no_variables : (h : Header) (words room code : ℕ) → Fit h → 4096 ≤ words → h.n ≡ 0 → refusal (assume_checks h words room code) ≡ 8
no_variables h words room code f w e = out_of_range h words room code f w (omega arith) (go (ltb code 2) refl)
  where
    go : (b : Bool) → ltb code 2 ≡ b → (code < 2) ⊎ (2 * h.n + 1 < code)
    go true t = inl (ltb-true code 2 t)
    go false t = inr (let l = ltb-false code 2 t in omega arith)

-- ---- the depth of a back
pub above_depth : (h : Header) (words depth : ℕ) → Fit h → 4096 ≤ words → h.depth < depth → refusal (back_checks h words depth) ≡ 9
above_depth h words depth f w d = rw (is_fit h f, le-ltb words 4096 w, lt-ltb h.depth depth d) refl

pub depth_zero : (h : Header) (words : ℕ) → Fit h → 4096 ≤ words → h.depth ≡ 0 → (refusal (back_checks h words 0) ≡ 0) × (refusal (back_checks h words 1) ≡ 9)
depth_zero h words f w e = (back_passes h words 0 f w (omega arith), above_depth h words 1 f w (omega arith))
