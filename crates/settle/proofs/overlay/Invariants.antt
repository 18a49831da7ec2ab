use Rattle.settle.specs.Values.{Overlay}
use Rattle.settle.proofs.overlay.Given as goal

abbrev pub invariant-loop-j : goal.invariant-loop-j
invariant-loop-j l = Overlay l.j l.work l.r l.over
