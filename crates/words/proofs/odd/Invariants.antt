use Rattle.words.proofs.Parity.{Counted}
use Rattle.words.proofs.odd.Given as goal

abbrev pub invariant-loop-i : goal.invariant-loop-i
invariant-loop-i l = Counted 8 l.row l.truth l.ones l.i
