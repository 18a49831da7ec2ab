-- A LITERAL OFFERED to a state that the module made: what is read off the buffer is what the definitions answer.
--   offered_held, offered_conflict   the variable has a value
--   position_more                    the position with one literal more
--   taken_answer, taken_stands       a literal is taken: the answer, and the state afterwards
-- Assumes nothing.
use mathlib.Core.Path.{◌≡◌, refl, sym, ap, ap₂, ◌∙◌, subst}
use mathlib.Core.Bool.{Bool, true, false, not, ◌&&◌}
use mathlib.Core.Logic.{◌≢◌}
use mathlib.Core.List.{List, [], ◌∷◌, ◌++◌}
use lib.ListN.{length, take, drop}
use Prim.Native.Nat.{ℕ, suc, ◌+◌, ◌*◌, ◌-◌, ◌<◌, ◌≤◌}
use native.Mathlib.Omega.{arith}
use native.Mathlib.Numerals.{add-one}
use Rattle.gf2.specs.Field.{same}
use Rattle.gf2.specs.Rows.{Var, Assignment}
use Rattle.gf2.specs.Answers.{code, variable, value, Literal, Position, assumed, Solves, held, conflict, implied, AnswersAssume}
use Rattle.gf2.specs.Places.{scanned}
use Rattle.gf2.proofs.Sums.{same_refl, same_ne}
use Rattle.gf2.proofs.Literals.{code_of, of_range}
use Rattle.gf2.proofs.Scans.{scanned_same}
use Rattle.gf2.proofs.Values.{Values, free, answers_held, answers_conflict, new_listed}
use Rattle.gf2.proofs.Reach.{assumed_reached}
use Rattle.linear.specs.State.{with_at, with_bool}
use Rattle.linear.specs.Positions.{numbered, codes_of, position}
use Rattle.linear.proofs.Joined.{codes_same, made_values, made_solution}
use Rattle.judge.specs.declared.Header.{Header}
use Rattle.judge.specs.Checks.{at_depth}
use Rattle.words.specs.Words.{bit_at}
use Rattle.tableau.specs.Layout.{known_at, truth_at, size}
use Rattle.tableau.specs.View.{MadeAt}
use Rattle.exchange.proofs.Steps.{known_bit, truth_bit}
use Rattle.parity.specs.Promises.{Stands}
use Rattle.parity.proofs.Part.{replaced_front}

turned : (x y : Bool) → x ≢ y → x ≡ not y
turned true true h = absurd (h refl)
turned true false h = refl
turned false true h = refl
turned false false h = absurd (h refl)

-- the position with one literal more
pub position_more : (n m : ℕ) (Sheet : ℕ → ℕ → Bool) (d : ℕ) (x : ℕ → ℕ) (y : ℕ → Bool) (l : ℕ)
    → position n m Sheet (suc d) (with_at x d (variable l)) (with_bool y d (value l)) ≡ assumed (position n m Sheet d x y) l
unfolding codes_of with_at with_bool
position_more n m Sheet d x y l =
    ap (λ (ls : List ℕ). record { n = n; rows = numbered m Sheet; taken = ls })
    (ap₂ (λ (ls : List ℕ) (k : ℕ). ls ++ (k ∷ [])) (codes_same d (with_at x d (variable l)) x (with_bool y d (value l)) y at_below bool_below) last)
  where
    at_below : (j : ℕ) → j < d → with_at x d (variable l) j ≡ x j
    at_below j h = rw (same_ne j d (λ (z : j ≡ d). absurd (omega arith)))

    bool_below : (j : ℕ) → j < d → with_bool y d (value l) j ≡ y j
    bool_below j h = rw (same_ne j d (λ (z : j ≡ d). absurd (omega arith)))

    last : code (with_at x d (variable l) d) (with_bool y d (value l) d) ≡ l
    last = rw (same_refl d) (code_of l)

module _ (h : Header) (work : List ℕ) (p : Position) (s : Stands h work p) (l : ℕ) (lo : 2 ≤ l) (hi : l ≤ 2 * h.n + 1) where
  abbrev front : List ℕ
  front = take size work

  abbrev here : Position
  here = position h.n h.m s.Sheet h.depth s.var s.val

  mine : Literal h.n l
  mine = of_range h.n l lo (omega arith)

  known_is : bit_at front known_at (variable l - 1) ≡ s.made.known (variable l)
  known_is = known_bit h.n h.m s.Sheet s.kept h.depth s.var s.val h.kept front s.made (variable l) mine

  truth_is : bit_at front truth_at (variable l - 1) ≡ s.made.truth (variable l)
  truth_is = truth_bit h.n h.m s.Sheet s.kept h.depth s.var s.val h.kept front s.made (variable l) mine

  values : Values here s.made.known s.made.truth
  values = made_values h.n h.m s.Sheet h.depth s.var s.val s.kept h.kept s.made.R s.made.β s.made.S s.made.known s.made.truth s.made.made

  solution : (a : Assignment) × Solves here a
  solution = made_solution h.n h.m s.Sheet h.depth s.var s.val s.kept h.kept s.made.R s.made.β s.made.S s.made.known s.made.truth s.made.made

  pub offered_held : bit_at front known_at (variable l - 1) ≡ true → bit_at front truth_at (variable l - 1) ≡ value l → AnswersAssume p l held
  offered_held e f =
      subst (λ (q : Position). AnswersAssume q l held) (sym s.here) (answers_held here solution s.made.known s.made.truth values l mine (sym known_is ∙ e) (sym truth_is ∙ f))

  pub offered_conflict : bit_at front known_at (variable l - 1) ≡ true → bit_at front truth_at (variable l - 1) ≢ value l → AnswersAssume p l conflict
  offered_conflict e f =
      subst (λ (q : Position). AnswersAssume q l conflict) (sym s.here)
      (answers_conflict here solution s.made.known s.made.truth values l mine (sym known_is ∙ e) (sym truth_is ∙ turned (bit_at front truth_at (variable l - 1)) (value l) f))

  -- ---- the literal is taken
  module _ (w : List ℕ) (e : length w ≡ length (take size work)) (long : size ≤ length work) (deep : h.depth < h.n)
      (made : MadeAt w h.n h.m s.Sheet s.kept (suc h.depth) (with_at s.var h.depth (variable l)) (with_bool s.val h.depth (value l)) h.kept)
      (unknown : bit_at (take size work) known_at (variable l - 1) ≡ false) where
    more : position h.n h.m s.Sheet (suc h.depth) (with_at s.var h.depth (variable l)) (with_bool s.val h.depth (value l)) ≡ assumed here l
    more = position_more h.n h.m s.Sheet h.depth s.var s.val l

    now_values : Values (assumed here l) made.known made.truth
    now_values = subst (λ (q : Position). Values q made.known made.truth) more
        (made_values h.n h.m s.Sheet (suc h.depth) (with_at s.var h.depth (variable l)) (with_bool s.val h.depth (value l)) s.kept h.kept made.R made.β made.S made.known made.truth made.made)

    now_solution : (a : Assignment) × Solves (assumed here l) a
    now_solution = subst (λ (q : Position). (a : Assignment) × Solves q a) more
        (made_solution h.n h.m s.Sheet (suc h.depth) (with_at s.var h.depth (variable l)) (with_bool s.val h.depth (value l)) s.kept h.kept made.R made.β made.S made.known made.truth made.made)

    -- a scan by a test that says: known now, not known before, not the literal's own variable
    pub taken_answer : (t b : ℕ → Bool) → ((v : ℕ) → Var h.n v → t v ≡ made.known v && (not (s.made.known v) && not (same (variable l) v))) → ((v : ℕ) → Var h.n v → b v ≡ made.truth v)
        → AnswersAssume p l (implied (scanned h.n t b))
    taken_answer t b f g =
        let un : s.made.known (variable l) ≡ false = sym known_is ∙ unknown in
        let fr = free here solution s.made.known s.made.truth values l mine un in
        let nl = new_listed here l mine now_solution solution s.made.known s.made.truth made.known made.truth values now_values un in
        subst (λ (q : Position). AnswersAssume q l (implied (scanned h.n t b))) (sym s.here)
        (subst (λ (ls : List ℕ). AnswersAssume here l (implied ls)) (sym (scanned_same h.n t (λ v. made.known v && (not (s.made.known v) && not (same (variable l) v))) b made.truth f g)) (fr.0, fr.1, nl))

    pub taken_stands : (list : List ℕ) → AnswersAssume p l (implied list) → Stands (at_depth h (h.depth + 1)) (w ++ drop size work) (assumed p l)
    taken_stands list answers = record {
      Sheet = s.Sheet;
      kept = s.kept;
      var = with_at s.var h.depth (variable l);
      val = with_bool s.val h.depth (value l);
      fit = record { is_open = s.fit.is_open; vars = s.fit.vars; rows = s.fit.rows; kept = s.fit.kept; depth = omega arith };
      is_kept = s.is_kept;
      made = rw (replaced_front work w long e, add-one h.depth) made;
      here = ap (λ (q : Position). assumed q l) s.here ∙ sym more ∙ ap (λ (d : ℕ). position h.n h.m s.Sheet d (with_at s.var h.depth (variable l)) (with_bool s.val h.depth (value l))) (sym (add-one h.depth));
      reached = assumed_reached p s.reached l (subst (λ (q : Position). Literal q.n l) (sym s.here) mine) list answers;
    }
