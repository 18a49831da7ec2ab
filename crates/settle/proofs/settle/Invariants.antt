use Rattle.tableau.specs.Buffer.{Chain}
use Rattle.settle.specs.Values.{RowSettled}
use Rattle.settle.proofs.settle.Given as goal

abbrev pub invariant-loop-r : goal.invariant-loop-r
invariant-loop-r l = Chain RowSettled l.r l.initial.work l.work
