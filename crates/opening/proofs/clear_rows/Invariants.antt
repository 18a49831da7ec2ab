use Rattle.std.proofs.Common.{◌*◌, ◌-◌}
use Rattle.tableau.specs.Buffer.{Chain}
use Rattle.exchange.specs.Steps.{RowCleared}
use Rattle.opening.proofs.clear_rows.Given as goal

abbrev pub invariant-loop-i : goal.invariant-loop-i
invariant-loop-i l = Chain (RowCleared l.k (l.v.number - 1)) (2 * l.i) l.initial.work l.work
