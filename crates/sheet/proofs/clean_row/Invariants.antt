use Rattle.std.proofs.Common.{drop, ◌*◌, ◌-◌, ◌≡◌, ◌≤◌}
use Rattle.format.specs.Bits.{value_of}
use Rattle.format.specs.Sheet.{packed}
use Rattle.sheet.proofs.clean_row.Given as goal

abbrev pub invariant-loop-w : goal.invariant-loop-w
invariant-loop-w l =
    (l.left ≡ l.fn.shape.n - l.w * 64) × (l.left ≤ 64) × (value_of (drop l.fn.shape.n (packed l.w l.row)) ≡ 0)
