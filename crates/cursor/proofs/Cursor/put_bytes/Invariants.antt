use Rattle.std.proofs.Common.{length, ◌-◌, ◌/◌, ◌^◌, ◌≡◌, ◌≤◌}
use Rattle.format.specs.Bits.{bits_n, bits_of, put_at}
use Rattle.cursor.proofs.Cursor.put_bytes.Given as goal

abbrev pub invariant-loop-done : goal.invariant-loop-done
invariant-loop-done l =
    (l.done ≤ l.count) × (length l.s ≡ length l.initial.s) × (bits_of l.s ≡ put_at (bits_of l.initial.s) l.at (bits_n l.done (l.value / 2 ^ (l.count - l.done))))

abbrev pub decreases-loop-done : goal.decreases-loop-done
decreases-loop-done l = l.count - l.done
