use Rattle.std.proofs.Common.{drop, take, ◌*◌, ◌≡◌}
use Rattle.format.specs.Bits.{bits_of, value_of}
use Rattle.bits.proofs.word.Given as goal

abbrev pub invariant-loop-i : goal.invariant-loop-i
invariant-loop-i l = (l.v ≡ value_of (take (8 * l.i) (drop (8 * l.q) (bits_of l.s))))
