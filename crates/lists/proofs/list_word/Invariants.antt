use Rattle.lists.proofs.Digits.{Rest}
use Rattle.lists.proofs.list_word.Given as goal

abbrev pub invariant-loop-i : goal.invariant-loop-i
invariant-loop-i l = Rest l.x l.t l.s l.base l.at l.initial.out l.out l.i-iterator.0 l.c
