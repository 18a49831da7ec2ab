use Rattle.std.proofs.Common.{length, ◌*◌, ◌+◌, ◌≡◌}
use Rattle.format.specs.Bits.{bits_of, put_at}
use Rattle.format.specs.Sheet.{body_bits}
use Rattle.sheet.proofs.put_rows.Given as goal

abbrev pub invariant-loop-r : goal.invariant-loop-r
invariant-loop-r l =
    (l.c.at ≡ l.initial.c.at + l.r * (l.shape.n + 1)) × (length l.out ≡ length l.initial.out) × (bits_of l.out ≡ put_at (bits_of l.initial.out) l.initial.c.at (body_bits l.shape.n l.r l.store))
