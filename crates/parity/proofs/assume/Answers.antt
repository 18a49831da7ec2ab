use Rattle.std.proofs.Common.{◌≡◌, ap₂, ◌∙◌, arith, length, rules, sym}
use Rattle.gf2.specs.Answers.{code}
use Rattle.gf2.proofs.Literals.{code_of}
use Rattle.judge.proofs.Judged.{assume_judged}
use Rattle.parity.proofs.Part.{front_long, replaced_worked}
use Rattle.parity.proofs.Assumed.{promise_held, promise_conflict, promise_stuck, promise_taken}
use Rattle.parity.proofs.assume.Goals as goal
use Rattle.parity.proofs.assume.Goals.{After-of-l}

-- the literal that is offered has the code that was given
offered : (c : After-of-l) → code c.of-l.result.variable.number c.of-l.result.value ≡ c.args.code
offered c = ap₂ code c.of-l.ensures.0 c.of-l.ensures.1 ∙ code_of c.args.code

pub slice_bounds-step-end-2 : goal.slice_bounds-step-end-2
slice_bounds-step-end-2 c =
    let a = c.args in
    sym (front_long a.work.now (assume_judged a.h (length a.work.now) (length a.literals.now) a.code (sym c.in_default.ensures)).1)

pub step-requires : goal.step-requires
step-requires c =
    let a = c.args in
    let j = assume_judged a.h (length a.work.now) (length a.literals.now) a.code (sym c.in_default.ensures) in
    (omega (arith, front_long a.work.now j.1), omega (arith, j.0.kept, j.0.rows), j.0.vars)

pub list_new-count-requires : goal.list_new-count-requires
list_new-count-requires c =
    let a = c.args in
    let j = assume_judged a.h (length a.work.now) (length a.literals.now) a.code (sym c.in_default.ensures) in
    let r = (replaced_worked a.work.now c.step.new.work j.1 c.step.auto.work).long in
    (omega (arith, r, j.1), search rules, j.0.vars, j.2)

pub of-l-requires : goal.of-l-requires
of-l-requires c =
    let a = c.args in
    let j = assume_judged a.h (length a.work.now) (length a.literals.now) a.code (sym c.in_default.ensures) in
    (j.3, omega (arith, j.4, j.0.vars))

pub returns-in-Held : goal.returns-in-Held
returns-in-Held c =
    let a = c.args in
    rw (c.done.ensures.0, c.done.ensures.1) (promise_held a.h a.work.now a.literals.now a.code (sym c.in_default.ensures) c.step.new.work (rw (offered (goal.at.returns-in-Held c).After-of-l) at c.in-Held.ensures))

pub returns-in-Conflict : goal.returns-in-Conflict
returns-in-Conflict c =
    let a = c.args in
    let done = c.done-in-Conflict.ensures in
    rw (done.0, done.1, c.of-l.ensures.0) (promise_conflict a.h a.work.now a.literals.now a.code (sym c.in_default.ensures) c.step.new.work (rw (offered (goal.at.returns-in-Conflict c).After-of-l) at c.in-Conflict.ensures))

pub returns-in-Taken : goal.returns-in-Taken
returns-in-Taken c =
    let a = c.args in
    let done = c.done-in-Taken.ensures in
    let list = c.list_new-count in
    rw (done.0, done.1)
    (promise_taken a.h a.work.now a.literals.now a.code (sym c.in_default.ensures) c.step.new.work (rw (offered (goal.at.returns-in-Taken c).After-of-l) at c.in-Taken.ensures)
    c.words_at-old.result c.words_at-old.ensures c.step.auto.work list.new.out list.result (rw c.of-l.ensures.0 at list.ensures))

pub returns-in-Stuck : goal.returns-in-Stuck
returns-in-Stuck c =
    let a = c.args in
    let refused = c.refused-in-Stuck.ensures in
    rw (refused.0, refused.1) (promise_stuck a.h a.work.now a.literals.now a.code (sym c.in_default.ensures) c.step.new.work (rw (offered (goal.at.returns-in-Stuck c).After-of-l) at c.in-Stuck.ensures))
