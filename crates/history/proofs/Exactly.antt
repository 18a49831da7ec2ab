-- DEMAND 2 OF THE CALLS, from the promises alone: which answer comes, exactly, and what it lists.
--   unsatisfiable_exactly    open, where nothing is refused: no assignment satisfies the constraints of the sheet
--   opened_exactly           open, where nothing is refused: some assignment does
--   open_lists, fail_ascends   the literals listed are the implied ones; the row numbers of a contradiction ascend
--   held_exactly, conflict_exactly, taken_exactly   assume, on a state that the module made: every assignment that satisfies constraints
--                            and assumptions has the literal; none has; some have and some have not
--   taken_lists              the literals listed are the newly implied ones
--   unexplained_exactly      explain, on such a state, is refused with 10: the variable has no value, or its value was assumed
--   explain_ascends          the row numbers of an explanation ascend
-- Assumes nothing.
use mathlib.Core.Path.{◌≡◌, refl, sym, ap, subst}
use mathlib.Core.Logic.{◌↔◌}
use mathlib.Core.List.{List, map}
use lib.ListN.{take, drop}
use Prim.Native.Nat.{ℕ, suc}
use native.Mathlib.Omega.{arith}
use Rattle.gf2.specs.Lists.{◌∈◌, Ascending}
use Rattle.gf2.specs.Rows.{Assignment}
use Rattle.gf2.specs.Answers as answers
use Rattle.gf2.specs.Answers.{variable, Literal, Position, start, Solves, Implied, NoValue, New, opened, unsatisfiable, AnswersOpen, held, conflict, implied, AnswersAssume, ExplainAnswer, Unexplained}
use Rattle.gf2.proofs.Reach.{unsatisfiable_none, opened_reached, reached_solution}
use Rattle.gf2.proofs.Chosen.{placed_ascending}
use Rattle.gf2.proofs.Sure.{explain_ascending, unsatisfiable_ascending}
use Rattle.std.specs.Prelude.{Result, Ok, Err}
use Rattle.format.specs.Bits.{bits_of}
use Rattle.format.specs.Refusals.{IsRefused}
use Rattle.format.specs.declared.Refusal.{Refusal}
use Rattle.format.specs.Sheet.{n_of, m_of, sheet_rows}
use Rattle.format.proofs.Rows.{rows_ascend}
use Rattle.judge.specs.declared.Header.{Header}
use Rattle.parity.specs.declared.Opening.{Opening}
use Rattle.parity.specs.declared.Opening.TheVariants.{Unsatisfiable, Opened}
use Rattle.parity.specs.declared.Assuming.{Assuming}
use Rattle.parity.specs.declared.Assuming.TheVariants.{Held, Conflict, Taken}
use Rattle.parity.specs.declared.Explained.{Explained}
use Rattle.parity.specs.Promises.{Stands, OpenPromise, OpenDone, AssumePromise, AssumeLeaves, AssumeRight, ExplainPromise, ExplainLeaves, ExplainRight}
use Rattle.history.proofs.Demand.{some_one, none_some}
use Rattle.history.proofs.Determined.{OpenRefusal, AssumeRefusal, ExplainRefusal}

-- ---- open
module _ (old : Header) (s store work literals rows : List ℕ) (z : OpenRefusal s store work literals rows ≡ 0)
    (h : Header) (answer : Result Opening Refusal) (store' work' literals' rows' : List ℕ)
    (p : OpenPromise old s store work literals rows h answer store' work' literals' rows') where
  -- the sheet's constraints, with nothing taken
  abbrev sheet : Position
  sheet = start (n_of s) (sheet_rows s)

  -- what each answer says
  abbrev OpenSaid : Result Opening Refusal → Type 0
  OpenSaid (Err r) = ⊥
  OpenSaid (Ok (Unsatisfiable x)) = AnswersOpen (n_of s) (sheet_rows s) (unsatisfiable (take x rows'))
  OpenSaid (Ok (Opened x)) = AnswersOpen (n_of s) (sheet_rows s) (opened h.kept (take x literals'))

  open_said : (a : Result Opening Refusal) → OpenDone s store work literals rows h a store' work' literals' rows' → OpenSaid a
  open_said (Err r) d = d.leaves
  open_said (Ok (Unsatisfiable x)) d = subst (AnswersOpen (n_of s) (sheet_rows s)) (sym (some_one _ d.said d.says)) d.right
  open_said (Ok (Opened x)) d = subst (AnswersOpen (n_of s) (sheet_rows s)) (sym (some_one _ d.said d.says)) d.right

  said_here : OpenSaid answer
  said_here = open_said answer (p.done z)

  solved : (x : ℕ) → OpenSaid (Ok (Opened x)) → (a : Assignment) × Solves sheet a
  solved x f = reached_solution sheet (opened_reached (n_of s) (sheet_rows s) h.kept (take x literals') f)

  unsolved : (x : ℕ) → OpenSaid (Ok (Unsatisfiable x)) → (a : Assignment) → Solves sheet a → ⊥
  unsolved x f = unsatisfiable_none (n_of s) (sheet_rows s) (take x rows') f

  pub unsatisfiable_exactly : ((x : ℕ) × (answer ≡ Ok (Unsatisfiable x))) ↔ ((a : Assignment) → Solves sheet a → ⊥)
  unsatisfiable_exactly = (λ w. unsolved w.0 (subst OpenSaid w.1 said_here), λ none. go none answer said_here)
    where
      go : ((a : Assignment) → Solves sheet a → ⊥) → (a : Result Opening Refusal) → OpenSaid a → (x : ℕ) × (a ≡ Ok (Unsatisfiable x))
      go none (Err r) f = absurd f
      go none (Ok (Unsatisfiable x)) f = (x, refl)
      go none (Ok (Opened x)) f = let w = solved x f in absurd (none w.0 w.1)

  pub opened_exactly : ((x : ℕ) × (answer ≡ Ok (Opened x))) ↔ ((a : Assignment) × Solves sheet a)
  opened_exactly = (λ w. solved w.0 (subst OpenSaid w.1 said_here), λ some. go some answer said_here)
    where
      go : (a : Assignment) × Solves sheet a → (a : Result Opening Refusal) → OpenSaid a → (x : ℕ) × (a ≡ Ok (Opened x))
      go some (Err r) f = absurd f
      go some (Ok (Unsatisfiable x)) f = absurd (unsolved x f some.0 some.1)
      go some (Ok (Opened x)) f = (x, refl)

  pub open_lists : (x : ℕ) → answer ≡ Ok (Opened x) → (l : ℕ) → (l ∈ take x literals') ↔ (Literal (n_of s) l × Implied sheet l)
  open_lists x e l = let f = subst OpenSaid e said_here in f.3.exactly l

  pub fail_ascends : (x : ℕ) → answer ≡ Ok (Unsatisfiable x) → Ascending (take x rows')
  fail_ascends x e = unsatisfiable_ascending (n_of s) (sheet_rows s) (take x rows') (rows_ascend 1 (n_of s) (m_of s) (drop 19 (bits_of s))) (subst OpenSaid e said_here)

-- ---- assume
module _ (old : Header) (work literals : List ℕ) (code : ℕ) (z : AssumeRefusal old work literals code ≡ 0) (p : Position) (st : Stands old work p)
    (h : Header) (answer : Result Assuming Refusal) (work' literals' : List ℕ)
    (promise : AssumePromise old work literals code h answer work' literals') where
  abbrev AssumeSaid : Result Assuming Refusal → Type 0
  AssumeSaid (Err r) = ⊥
  AssumeSaid (Ok Held) = AnswersAssume p code held
  AssumeSaid (Ok (Conflict v)) = (v ≡ variable code) × AnswersAssume p code conflict
  AssumeSaid (Ok (Taken x)) = AnswersAssume p code (implied (take x literals'))

  assume_said : (a : Result Assuming Refusal) → AssumeLeaves old code h a work literals work' literals' → AssumeRight p code h a work' literals' → AssumeSaid a
  assume_said (Err e) l r = absurd (none_some _ r.says)
  assume_said (Ok Held) l r = subst (AnswersAssume p code) (sym (some_one held r.said r.says)) r.right
  assume_said (Ok (Conflict v)) l r = (l.0, subst (AnswersAssume p code) (sym (some_one conflict r.said r.says)) r.right)
  assume_said (Ok (Taken x)) l r = subst (AnswersAssume p code) (sym (some_one (implied (take x literals')) r.said r.says)) r.right

  answer_here : AssumeSaid answer
  answer_here = assume_said answer (promise.leaves z) (promise.right z p st)

  not_both : Implied p code → answers.Conflict p code → ⊥
  not_both i c = let a = reached_solution p st.reached in c a.0 a.1 (i a.0 a.1)

  pub held_exactly : (answer ≡ Ok Held) ↔ Implied p code
  held_exactly = (λ e. subst AssumeSaid e answer_here, λ i. go i answer answer_here)
    where
      go : Implied p code → (a : Result Assuming Refusal) → AssumeSaid a → a ≡ Ok Held
      go i (Err r) f = absurd f
      go i (Ok Held) f = refl
      go i (Ok (Conflict v)) f = absurd (not_both i f.1)
      go i (Ok (Taken x)) f = absurd (f.0 i)

  pub conflict_exactly : (answer ≡ Ok (Conflict (variable code))) ↔ answers.Conflict p code
  conflict_exactly = (λ e. (subst AssumeSaid e answer_here).1, λ c. go c answer answer_here)
    where
      go : answers.Conflict p code → (a : Result Assuming Refusal) → AssumeSaid a → a ≡ Ok (Conflict (variable code))
      go c (Err r) f = absurd f
      go c (Ok Held) f = absurd (not_both f c)
      go c (Ok (Conflict v)) f = ap (λ (u : ℕ). Ok (Conflict u)) f.0
      go c (Ok (Taken x)) f = absurd (f.1 c)

  pub taken_exactly : ((x : ℕ) × (answer ≡ Ok (Taken x))) ↔ NoValue p code
  taken_exactly = (λ w. let f = subst AssumeSaid w.1 answer_here in (f.0, f.1), λ n. go n answer answer_here)
    where
      go : NoValue p code → (a : Result Assuming Refusal) → AssumeSaid a → (x : ℕ) × (a ≡ Ok (Taken x))
      go n (Err r) f = absurd f
      go n (Ok Held) f = absurd (n.0 f)
      go n (Ok (Conflict v)) f = absurd (n.1 f.1)
      go n (Ok (Taken x)) f = (x, refl)

  pub taken_lists : (x : ℕ) → answer ≡ Ok (Taken x) → (l : ℕ) → (l ∈ take x literals') ↔ New p code l
  taken_lists x e l = let f = subst AssumeSaid e answer_here in f.2.exactly l

-- ---- explain
module _ (h : Header) (work clause rows : List ℕ) (v : ℕ) (z : ExplainRefusal h work clause rows v ≡ 0) (p : Position) (st : Stands h work p)
    (answer : Result Explained Refusal) (clause' rows' : List ℕ)
    (promise : ExplainPromise h work clause rows v answer clause' rows') where
  pub unexplained_exactly : IsRefused answer 10 ↔ Unexplained p v
  unexplained_exactly = (λ e. come answer e (promise.right z p st), λ u. go u answer (promise.leaves z) (promise.right z p st))
    where
      come : (a : Result Explained Refusal) → IsRefused a 10 → ExplainRight p v a clause' rows' → Unexplained p v
      come (Ok x) e r = absurd e
      come (Err q) e r = r

      go : Unexplained p v → (a : Result Explained Refusal) → ExplainLeaves h a clause rows clause' rows' → ExplainRight p v a clause' rows' → IsRefused a 10
      go u (Err q) l r = l.0
      go u (Ok x) l r = absurd (r.0 u)

  pub explain_ascends : (x : Explained) → answer ≡ Ok x → Ascending (take x.numbers rows')
  explain_ascends x e =
      let r = (subst (λ (a : Result Explained Refusal). ExplainRight p v a clause' rows') e (promise.right z p st)).1 in
      let g = some_one _ r.0 r.1 in
      subst (λ (a : ExplainAnswer). Ascending a.numbers) (sym g) (explain_ascending p v r.0 ordered r.2.answers)
    where
      ordered : Ascending (map (λ c. c.number) p.rows)
      ordered = rw (ap (λ (q : Position). q.rows) st.here) (placed_ascending h.m suc st.Sheet (λ i. omega arith))
