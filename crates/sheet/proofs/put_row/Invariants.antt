use Rattle.std.proofs.Common.{length, ◌*◌, ◌+◌, ◌≡◌}
use Rattle.format.specs.Bits.{bits_of, put_at}
use Rattle.format.specs.Sheet.{packed}
use Rattle.sheet.proofs.put_row.Given as goal

abbrev pub invariant-loop-w : goal.invariant-loop-w
invariant-loop-w l =
    (length l.out ≡ length l.initial.out) × (l.c.at ≡ l.initial.c.at + 64 * l.w) × (bits_of l.out ≡ put_at (bits_of l.initial.out) l.initial.c.at (packed l.w l.row))
