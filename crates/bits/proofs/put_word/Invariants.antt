use Rattle.std.proofs.Common.{length, ◌*◌, ◌-◌, ◌/◌, ◌^◌, ◌≡◌}
use Rattle.format.specs.Bits.{bits_n, bits_of, put_at}
use Rattle.bits.proofs.put_word.Given as goal

abbrev pub invariant-loop-i : goal.invariant-loop-i
invariant-loop-i l =
    (length l.s ≡ length l.initial.s) × (bits_of l.s ≡ put_at (bits_of l.initial.s) (8 * l.q) (bits_n (8 * l.i) (l.v / 2 ^ (64 - 8 * l.i))))
