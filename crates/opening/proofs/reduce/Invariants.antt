use Rattle.std.proofs.Common.{◌≡◌}
use Rattle.tableau.specs.Buffer.{Chain}
use Rattle.opening.specs.Opened.{Reduced}
use Rattle.opening.proofs.reduce.Given as goal

-- the row is reduced from the first row on
abbrev pub invariant-loop-r : goal.invariant-loop-r
invariant-loop-r l = (l.initial.r ≡ 0) × Chain (Reduced l.k) l.r l.initial.work l.work
