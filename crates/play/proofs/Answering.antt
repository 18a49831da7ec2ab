-- WHAT A COMMAND SAYS IS WHAT THE DEFINITIONS SAY, on a state that the module made, with buffers that are large enough.
--   CommandSaid    a command was answered: what was said of it stands at the start of the line, and the state stands for the position after it
--   EndedOrSaid    the command is 0, which leaves the line as it was and ends the session, or it was answered
--   assume_line_right, back_line_right   what the line says is what the definitions say, and the state stands for the position after it
--   explain_line_right                   what the line says is what the definitions say
--   command_said   any command is ended or said
-- Assumes nothing.
use mathlib.Core.Path.{◌≡◌, refl, sym, ap, ◌∙◌, subst}
use mathlib.Core.Bool.{Bool, true, false, cond, ◌||◌}
use mathlib.Core.Logic.{◌⊎◌, inl, inr}
use mathlib.Core.Option.{some}
use mathlib.Core.List.{List}
use Prim.Native.Nat.{ℕ, suc, ◌+◌, ◌-◌, ◌*◌, ◌≤◌, ◌<◌}
use native.Mathlib.Omega.{arith}
use lib.Dec.{ltb}
use lib.ListN.{length, take}
use borrow.Author.Tests.{le-ltb}
use Rattle.std.proofs.lemmas.Bool.{cases_lt}
use Rattle.std.specs.Prelude.{Result, Ok, Err}
use Rattle.gf2.specs.Rows.{Var}
use Rattle.gf2.specs.Answers.{variable, Position, withdrawn, moved, AssumeAnswer, held, conflict, implied, ExplainAnswer}
use Rattle.format.specs.Refusals.{refusal, number, answered}
use Rattle.format.specs.declared.Refusal.{Refusal}
use Rattle.format.proofs.Answering.{number_pos, RefusedOrNot, refused_or, refused_is}
use Rattle.judge.specs.declared.Header.{Header}
use Rattle.judge.specs.Checks.{back_checks}
use Rattle.judge.proofs.LineEleven.{is_fit}
use Rattle.lines.specs.Lines.{Said, Put, text}
use Rattle.parity.specs.declared.Assuming.{Assuming}
use Rattle.parity.specs.declared.Assuming.TheVariants.{Held, Conflict, Taken}
use Rattle.parity.specs.declared.Explained.{Explained}
use Rattle.parity.specs.Numbers.{assume_says}
use Rattle.parity.specs.Promises.{Stands, AssumePromise, AssumeLeaves, BackPromise, ExplainPromise, ExplainLeaves, ExplainRight}
use Rattle.history.specs.Calls.{Counted}
use Rattle.history.proofs.Demand.{counted, some_one, none_some}
use Rattle.history.proofs.Determined.{AssumeRefusal, ExplainRefusal}
use Rattle.history.proofs.Accepted.{assume_accepted, back_accepted, explain_accepted}
use Rattle.dialogue.specs.declared.Step.{Step}
use Rattle.dialogue.specs.Dialogue.{kind, operand, assume_line, said_assuming, said_backing, said_explaining}
use Rattle.dialogue.specs.Steps.{Turns, ends, assumes, backs, explains}
use Rattle.play.specs.Session as session
use Rattle.play.specs.Session.{Command}
use Rattle.play.specs.Pages.{Roomy}

pub record CommandSaid (p : Position) (command : ℕ) (step : Step) (line work' line' : List ℕ) : Type 0 where
  pub said : Said
  pub next : Position
  pub answered : Command p (kind command) (operand command) said next
  pub stands : Stands step.header work' next
  pub put : Put line 0 (text said) line' step.end
  pub more : step.more ≡ true

abbrev pub EndedOrSaid : Position → ℕ → Step → List ℕ → List ℕ → List ℕ → Type 0
EndedOrSaid p command step line work' line' =
    ((kind command ≡ 0) × (line' ≡ line) × (step.more ≡ false)) ⊎ CommandSaid p command step line work' line'

-- the last check of a list, with a number of its own
last : (b : Bool) (k c : ℕ) → cond b k 0 ≡ suc c → suc c ≡ k
last true k c e = sym e
last false k c e = absurd (omega arith)

module _ {h : Header} {work literals rows page : List ℕ} {p : Position} (st : Stands h work p) (roomy : Roomy work literals rows page) where
  count : Counted h p
  count = counted h work p st

  -- ---- assume
  assume_eighth : (code c : ℕ) → AssumeRefusal h work literals code ≡ suc c → suc c ≡ 8
  assume_eighth code c e =
      let n = st.fit.vars in
      let l = roomy.literals_long in
      last (ltb code 2 || ltb (2 * h.n + 1) code) 8 c
      (rw (is_fit h st.fit, le-ltb (length work) 4096 roomy.work_long, le-ltb (length literals) h.n (omega arith)) at e)

  pub assume_line_right : {code : ℕ} {h' : Header} {answer : Result Assuming Refusal} {work' literals' : List ℕ}
      → AssumePromise h work literals code h' answer work' literals'
      → (next : Position) × Command p 1 code (said_assuming answer literals') next × Stands h' work' next
  assume_line_right {code} {h'} {answer} {work'} {literals'} promise = go (refused_or (AssumeRefusal h work literals code))
    where
      fits : p.n ≤ length literals
      fits = let e = count.variables in let n = st.fit.vars in let l = roomy.literals_long in omega arith

      line : (a : Result Assuming Refusal) → AssumeLeaves h code h' a work literals work' literals'
          → (said : AssumeAnswer) → assume_says a literals' ≡ some said → said_assuming a literals' ≡ assume_line (variable code) said
      line (Err r) f said e = absurd (none_some _ e)
      line (Ok Held) f said e = ap (assume_line (variable code)) (some_one held said e)
      line (Ok (Conflict v)) f said e = ap Said.conflict f.0 ∙ ap (assume_line (variable code)) (some_one conflict said e)
      line (Ok (Taken x)) f said e = ap (assume_line (variable code)) (some_one (implied (take x literals')) said e)

      go : RefusedOrNot (AssumeRefusal h work literals code)
          → (next : Position) × Command p 1 code (said_assuming answer literals') next × Stands h' work' next
      go (inl w) =
          let e = promise.refused w.0 w.1 in
          let r = refused_is answer (suc w.0) e.0 in (
            p,
            rw (r.1, r.2 ∙ assume_eighth code w.0 w.1)
                (session.no_literal (λ l. let z = (assume_accepted h work p st literals code).1 (fits, l) in absurd (omega (arith, w.1)))),
            rw (e.1, e.2) st,
          )
      go (inr z) =
          let a = promise.right z p st in
          let l = ((assume_accepted h work p st literals code).0 z).1 in (
            moved p code a.said,
            subst (λ (s : Said). Command p 1 code s (moved p code a.said)) (sym (line answer (promise.leaves z) a.said a.says))
                (session.assumed a.said l a.right),
            a.stands,
          )

  -- ---- back
  back_ninth : (depth c : ℕ) → refusal (back_checks h (length work) depth) ≡ suc c → suc c ≡ 9
  back_ninth depth c e = last (ltb h.depth depth) 9 c (rw (is_fit h st.fit, le-ltb (length work) 4096 roomy.work_long) at e)

  pub back_line_right : {depth : ℕ} {h' : Header} (answer : Result (Unit {0}) Refusal) {work' : List ℕ}
      → BackPromise h work depth (answered answer) h' work'
      → (next : Position) × Command p 2 depth (said_backing answer h'.depth) next × Stands h' work' next
  back_line_right {depth} (Ok x) promise =
      let e = ap (λ (k : Header). k.depth) (promise.done refl).0 in
      (withdrawn p depth, rw e (session.gone_back ((back_accepted h work p st depth).0 (sym promise.answer))), promise.right refl p st)
  back_line_right {depth} {h'} (Err r) promise =
      let q : number r ≡ suc (number r - 1) = omega (arith, number_pos r) in
      let e = sym promise.answer ∙ q in
      let same = promise.refused (number r - 1) q in
      (p, rw (q ∙ back_ninth depth (number r - 1) e) (session.too_deep (deeper (cases_lt (length p.taken) depth) e)), rw (same.0, same.1) st)
    where
      deeper : (length p.taken < depth) ⊎ (depth ≤ length p.taken)
          → refusal (back_checks h (length work) depth) ≡ suc (number r - 1) → length p.taken < depth
      deeper (inl l) e = l
      deeper (inr l) e = let z = (back_accepted h work p st depth).1 l in absurd (omega (arith, e))

  -- ---- explain
  explain_eighth : (v c : ℕ) → ExplainRefusal h work literals rows v ≡ suc c → suc c ≡ 8
  explain_eighth v c e =
      let n = st.fit.vars in
      let m = st.fit.rows in
      let l = roomy.literals_long in
      let k = roomy.rows_long in
      last (ltb v 1 || ltb h.n v) 8 c
      (rw (is_fit h st.fit, le-ltb (length work) 4096 roomy.work_long, le-ltb (length literals) h.n (omega arith), le-ltb (length rows) h.m (omega arith)) at e)

  pub explain_line_right : {v : ℕ} {answer : Result Explained Refusal} {literals' rows' : List ℕ}
      → ExplainPromise h work literals rows v answer literals' rows'
      → Command p 3 v (said_explaining answer v literals' rows') p
  explain_line_right {v} {answer} {literals'} {rows'} promise = go (refused_or (ExplainRefusal h work literals rows v))
    where
      accepted : Var p.n v → ExplainRefusal h work literals rows v ≡ 0
      accepted x =
          let e = count.variables in
          let f = count.rows in
          let n = st.fit.vars in
          let m = st.fit.rows in
          let l = roomy.literals_long in
          let k = roomy.rows_long in
          (explain_accepted h work p st literals rows v).1 (omega arith, omega arith, x)

      told : Var p.n v → (a : Result Explained Refusal) → ExplainLeaves h a literals rows literals' rows' → ExplainRight p v a literals' rows'
          → Command p 3 v (said_explaining a v literals' rows') p
      told x (Err r) f g = rw f.0 (session.unexplained x g)
      told x (Ok e) f g =
          subst (λ (y : ExplainAnswer). Command p 3 v (Said.explained v y.clause y.numbers) p) (sym (some_one _ g.1.0 g.1.1))
          (session.explained g.1.0 x g.0 g.1.2)

      go : RefusedOrNot (ExplainRefusal h work literals rows v) → Command p 3 v (said_explaining answer v literals' rows') p
      go (inl w) =
          let r = refused_is answer (suc w.0) (promise.refused w.0 w.1).0 in
          rw (r.1, r.2 ∙ explain_eighth v w.0 w.1) (session.no_variable (λ x. let z = accepted x in absurd (omega (arith, w.1))))
      go (inr z) = told ((explain_accepted h work p st literals rows v).0 z).2 answer (promise.leaves z) (promise.right z p st)

  -- ---- any command
  pub command_said : {line : List ℕ} {command : ℕ} {step : Step} {work' literals' rows' line' : List ℕ}
      → Turns h work literals rows line command step work' literals' rows' line'
      → EndedOrSaid p command step line work' line'
  command_said (ends e) = inl (e, refl, refl)
  command_said (assumes e t) =
      let s = assume_line_right t.promise in
      inr (record { said = _; next = s.0; answered = rw e s.1; stands = s.2; put = t.says; more = t.more })
  command_said (backs e t) =
      let s = back_line_right t.answer t.promise in
      inr (record { said = _; next = s.0; answered = rw e s.1; stands = s.2; put = t.says; more = t.more })
  command_said (explains e t) =
      inr (record { said = _; next = p; answered = rw e (explain_line_right t.promise); stands = rw t.same st; put = t.says; more = t.more })
