use Rattle.std.proofs.Common.{drop, length, take, ◌*◌, ◌+◌, ◌≡◌}
use Rattle.format.proofs.Rows.{front}
use Rattle.format.specs.Bits.{bits_of}
use Rattle.sheet.proofs.row_at.Given as goal

abbrev pub invariant-loop-w : goal.invariant-loop-w
invariant-loop-w l =
    (length l.words ≡ 8) × (l.c.at ≡ l.initial.c.at + 64 * l.w) × (l.words ≡ front (take l.fn.shape.n (drop l.initial.c.at (bits_of l.s))) l.w)
