use Rattle.std.proofs.Common.{true, ◌≡◌}
use Rattle.format.specs.Sheet.{clean}
use Rattle.sheet.proofs.clean_rows.Given as goal

abbrev pub invariant-loop-r : goal.invariant-loop-r
invariant-loop-r l = clean l.shape.n l.r l.store ≡ true
