use Rattle.tableau.specs.Buffer.{Chain}
use Rattle.settle.specs.Values.{EntrySet}
use Rattle.settle.proofs.put_entries.Given as goal

abbrev pub invariant-loop-j : goal.invariant-loop-j
invariant-loop-j l = Chain EntrySet l.j l.initial.work l.work
