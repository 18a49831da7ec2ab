-- WHICH CALLS ON A STATE OF THE MODULE THE CHECKS LET THROUGH, exactly. Explain's 10 comes after them.
--   assume_accepted    assume: there is room for the literals, and the code is a literal of the position
--   back_accepted      back: so many literals are taken
--   explain_accepted   explain: there is room for the clause and the row numbers, and the variable is one of the position
-- Assumes nothing.
use mathlib.Core.Path.{◌≡◌, subst}
use mathlib.Core.Logic.{◌↔◌}
use mathlib.Core.List.{List}
use lib.ListN.{length}
use Prim.Native.Nat.{ℕ, ◌≤◌}
use native.Mathlib.Omega.{arith}
use Rattle.gf2.specs.Rows.{Var}
use Rattle.gf2.specs.Answers.{Literal, Position}
use Rattle.gf2.proofs.Literals.{range_of, of_range}
use Rattle.format.specs.Refusals.{refusal}
use Rattle.judge.specs.declared.Header.{Header}
use Rattle.judge.specs.Checks.{back_checks}
use Rattle.judge.proofs.Judged.{back_judged, assume_judged, explain_judged, back_passes, assume_passes, explain_passes}
use Rattle.parity.specs.Promises.{Stands}
use Rattle.history.specs.Calls.{Counted}
use Rattle.history.proofs.Memory.{long}
use Rattle.history.proofs.Demand.{counted}
use Rattle.history.proofs.Determined.{AssumeRefusal, ExplainRefusal}

module _ (h : Header) (work : List ℕ) (p : Position) (st : Stands h work p) where
  count : Counted h p
  count = counted h work p st

  pub assume_accepted : (literals : List ℕ) (code : ℕ) → (AssumeRefusal h work literals code ≡ 0) ↔ ((p.n ≤ length literals) × Literal p.n code)
  assume_accepted literals code =
      subst (λ (n : ℕ). (AssumeRefusal h work literals code ≡ 0) ↔ ((n ≤ length literals) × Literal n code)) count.variables (
        λ z. let j = assume_judged h (length work) (length literals) code z in (j.2, of_range h.n code j.3 (let l = j.4 in omega arith)),
        λ w. let r = range_of h.n code w.1 in assume_passes h (length work) (length literals) code st.fit (long st) w.0 r.0 (let l = r.1 in omega arith),
      )

  pub back_accepted : (d : ℕ) → (refusal (back_checks h (length work) d) ≡ 0) ↔ (d ≤ length p.taken)
  back_accepted d =
      subst (λ (k : ℕ). (refusal (back_checks h (length work) d) ≡ 0) ↔ (d ≤ k)) count.depth (λ z. (back_judged h (length work) d z).2, λ l. back_passes h (length work) d st.fit (long st) l)

  pub explain_accepted : (clause rows : List ℕ) (v : ℕ) → (ExplainRefusal h work clause rows v ≡ 0) ↔ ((p.n ≤ length clause) × (length p.rows ≤ length rows) × Var p.n v)
  explain_accepted clause rows v =
      subst (λ (n : ℕ). (ExplainRefusal h work clause rows v ≡ 0) ↔ ((n ≤ length clause) × (length p.rows ≤ length rows) × Var n v)) count.variables
      (subst (λ (m : ℕ). (ExplainRefusal h work clause rows v ≡ 0) ↔ ((h.n ≤ length clause) × (m ≤ length rows) × Var h.n v)) count.rows (
        λ z. let j = explain_judged h (length work) (length clause) (length rows) v z in (j.2, j.3, j.4),
        λ w. explain_passes h (length work) (length clause) (length rows) v st.fit (long st) w.0 w.1 w.2,
      ))
