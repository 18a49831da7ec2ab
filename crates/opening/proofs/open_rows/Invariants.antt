use Rattle.std.proofs.Common.{◌≤◌}
use Rattle.opening.specs.Opened.{Opens}
use Rattle.opening.proofs.open_rows.Given as goal

abbrev pub invariant-loop-q : goal.invariant-loop-q
invariant-loop-q l = (l.k ≤ l.q) × Opens l.rows l.initial.work l.q l.k l.work
