use Rattle.std.proofs.Common.{drop, length, ◌*◌, ◌++◌, ◌+◌, ◌≡◌}
use Rattle.format.specs.Bits.{bits_of}
use Rattle.format.specs.Sheet.{store_words}
use Rattle.sheet.proofs.fill.Given as goal

abbrev pub invariant-loop-r : goal.invariant-loop-r
invariant-loop-r l =
    (l.c.at ≡ 19 + l.r * (l.shape.n + 1)) × (length l.store ≡ length l.initial.store) × (l.store ≡ store_words l.shape.n l.r (drop 19 (bits_of l.s)) ++ drop (9 * l.r) l.initial.store)
