use Rattle.std.proofs.Common.{drop, take, ◌-◌, ◌≡◌, ◌≤◌}
use Rattle.format.specs.Bits.{bits_of, value_of}
use Rattle.cursor.proofs.Cursor.field_bytes.Given as goal

abbrev pub invariant-loop-done : goal.invariant-loop-done
invariant-loop-done l = (l.done ≤ l.count) × (l.value ≡ value_of (take l.done (drop l.at (bits_of l.s))))

abbrev pub decreases-loop-done : goal.decreases-loop-done
decreases-loop-done l = l.count - l.done
