use Rattle.std.proofs.Common.{ℕ, ◌*◌, ◌-◌, ◌<◌, ◌≡◌}
use Rattle.gf2.specs.Field.{same}
use Rattle.settle.specs.Values.{lacks}
use Rattle.settle.proofs.alone.Given as goal

abbrev pub invariant-loop-j : goal.invariant-loop-j
invariant-loop-j l = (i : ℕ) → i < l.j * 64 → lacks l.work l.r i ≡ same (l.v.number - 1) i
