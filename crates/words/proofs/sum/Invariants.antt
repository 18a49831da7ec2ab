-- The words before i are those of the sum, the others as they were.
use Rattle.std.proofs.Common.{◌≡◌, length, take, drop}
use Rattle.words.specs.Words.{xor_words}
use Rattle.words.proofs.sum.Given as goal

abbrev pub invariant-loop-i : goal.invariant-loop-i
invariant-loop-i g l = (length l.out ≡ length l.initial.out) × (take l.i l.out ≡ take l.i (xor_words l.initial.out l.b)) × (drop l.i l.out ≡ drop l.i l.initial.out)
