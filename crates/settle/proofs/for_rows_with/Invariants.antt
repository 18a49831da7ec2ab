use Rattle.std.proofs.Common.{min, ◌*◌, ◌-◌}
use Rattle.tableau.specs.Buffer.{Chain}
use Rattle.settle.specs.Values.{RowTaken}
use Rattle.settle.proofs.Blocks.{Block}
use Rattle.settle.proofs.for_rows_with.Given as goal

abbrev pub invariant-loop-block : goal.invariant-loop-block
invariant-loop-block g l = Chain (RowTaken (goal.F-post g l.step) (l.v.number - 1)) (min (64 * l.block) l.k) l.initial.work l.work

abbrev pub invariant-loop-i : goal.invariant-loop-i
invariant-loop-i g l = Block (goal.F-post g l.step) (l.fn.v.number - 1) l.q l.e l.initial.i-iterator.0 l.fn.work l.initial.work l.work l.i-iterator.0
