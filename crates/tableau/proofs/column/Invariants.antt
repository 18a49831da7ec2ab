use Rattle.std.proofs.Common.{◌*◌, ◌+◌, ◌-◌}
use Rattle.tableau.specs.Buffer.{Gathered}
use Rattle.tableau.proofs.column.Given as goal

abbrev pub invariant-loop-i : goal.invariant-loop-i
invariant-loop-i l = Gathered l.work l.q (l.q + 8 * l.i) (l.v.number - 1) l.x
