use Rattle.std.proofs.Common.{arith, length, sym}
use Rattle.judge.proofs.Judged.{explain_judged}
use Rattle.parity.proofs.Explaineds.{promise_no_value, promise_assumed, promise_explained}
use Rattle.parity.proofs.explain.Goals as goal

pub invariant_of-variable : goal.invariant_of-variable
invariant_of-variable c =
    let a = c.args in
    let j = explain_judged a.h (length a.work.now) (length a.clause.now) (length a.rows.now) a.v (sym c.in_ok-judge_explain.ensures) in
    record { first = j.4.low; last = omega (arith, j.4.high, j.0.vars) }

pub returns-then-not-bit : goal.returns-then-not-bit
returns-then-not-bit c =
    let a = c.args in
    promise_no_value a.h a.work.now a.clause.now a.rows.now a.v (sym c.in_ok-judge_explain.ensures) (sym c.if-not-bit.ensures)

pub find-requires : goal.find-requires
find-requires c =
    let a = c.args in
    let j = explain_judged a.h (length a.work.now) (length a.clause.now) (length a.rows.now) a.v (sym c.in_ok-judge_explain.ensures) in
    (j.1, omega (arith, j.0.kept, j.0.rows))

pub returns-in_default : goal.returns-in_default
returns-in_default c =
    let a = c.args in
    promise_assumed a.h a.work.now a.clause.now a.rows.now a.v (sym c.in_ok-judge_explain.ensures) (sym c.if-not-bit.ensures) c.in_default.ensures

pub list_clause-codes-requires : goal.list_clause-codes-requires
list_clause-codes-requires c =
    let a = c.args in
    let j = explain_judged a.h (length a.work.now) (length a.clause.now) (length a.rows.now) a.v (sym c.in_ok-judge_explain.ensures) in
    (j.1, omega (arith, c.in-Some.ensures.below, j.0.kept, j.0.rows), j.0.vars, j.2, j.4.high)

pub list_rows-numbers-requires : goal.list_rows-numbers-requires
list_rows-numbers-requires c =
    let a = c.args in
    let j = explain_judged a.h (length a.work.now) (length a.clause.now) (length a.rows.now) a.v (sym c.in_ok-judge_explain.ensures) in
    (j.1, omega (arith, c.in-Some.ensures.below, j.0.kept, j.0.rows), j.0.rows, j.3)

pub returns : goal.returns
returns c =
    let a = c.args in
    let codes = c.list_clause-codes in
    let numbers = c.list_rows-numbers in
    promise_explained a.h a.work.now a.clause.now a.rows.now a.v (sym c.in_ok-judge_explain.ensures) c.in-Some.r c.in-Some.ensures (sym c.if-not-bit.ensures)
    codes.new.out numbers.new.out codes.result numbers.result codes.ensures numbers.ensures
