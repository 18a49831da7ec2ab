use Rattle.std.proofs.Common.{arith, refl, ◌≡◌, ◌*◌, ◌+◌, ◌-◌, ◌<◌, ◌^◌}
use Rattle.tableau.proofs.Columns.{gathered_small, gathered_join, gathered_drop, column_done}
use Rattle.tableau.proofs.column.Goals as goal
use Rattle.tableau.proofs.column.Goals.{After-four, In-loop-i}

-- there is room for eight digits more, and four rows have four
small : (c : In-loop-i) → c.loop-i.x < 2 ^ 56
small c = gathered_small _ _ _ _ _ 56 (omega arith) c.loop-i.invariant

few : (c : After-four) → c.four.result < 2 ^ 4
few c = gathered_small _ _ _ _ _ 4 (omega arith) c.four.ensures

pub overflow_mul-x : goal.overflow_mul-x
overflow_mul-x c = omega (arith, small c)

pub overflow_add-x : goal.overflow_add-x
overflow_add-x c = omega (arith, small (goal.at.overflow_add-x c).In-loop-i, few c)

pub overflow_mul-x-in-loop-i : goal.overflow_mul-x-in-loop-i
overflow_mul-x-in-loop-i c = omega (arith, small (goal.at.overflow_mul-x-in-loop-i c).In-loop-i, few c)

pub overflow_add-x-in-loop-i : goal.overflow_add-x-in-loop-i
overflow_add-x-in-loop-i c =
    let at = goal.at.overflow_add-x-in-loop-i c in
    omega (arith, small at.In-loop-i, few at.After-four, gathered_small _ _ _ _ _ 4 (omega arith) c.four-in-loop-i.ensures)

pub loop-i-preserved : goal.loop-i-preserved
loop-i-preserved c =
    let a = c.args in
    let r = a.q + 8 * c.loop-i.i in
    let upper = gathered_join a.work.now a.q r (r + 4) 4 (a.v.number - 1) _ _ (omega arith) refl c.loop-i.invariant c.four.ensures in
    gathered_join a.work.now a.q (r + 4) _ 4 (a.v.number - 1) _ _ (omega arith) (omega arith) upper c.four-in-loop-i.ensures

pub returns : goal.returns
returns c =
    let a = c.args in
    let n : a.q + 8 * c.loop-i.i - a.e ≡ 8 * c.div_ceil-eights.result - (a.e - a.q) = omega arith in
    let rows = gathered_drop a.work.now a.q a.e (a.q + 8 * c.loop-i.i) (a.v.number - 1) c.loop-i.x (omega arith) (omega arith) c.loop-i.invariant in
    column_done a.work.now a.q a.e (a.v.number - 1) _ (omega arith) (omega arith) (rw n at rows)
