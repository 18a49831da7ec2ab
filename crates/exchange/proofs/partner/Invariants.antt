use Rattle.std.proofs.Common.{None, false, ℕ, ◌*◌, ◌-◌, ◌<◌, ◌≡◌, ◌≢◌}
use Rattle.settle.specs.Values.{lacks}
use Rattle.exchange.proofs.Partners.{Scan}
use Rattle.exchange.proofs.partner.Given as goal

abbrev pub invariant-loop-i : goal.invariant-loop-i
invariant-loop-i l = (l.found ≡ None) × Scan l.work l.r (l.v.number - 1) l.w l.i-iterator.0

abbrev pub invariant-scan : goal.invariant-scan
invariant-scan l = (l.found ≡ None) × ((i : ℕ) → i < l.w * 64 → i ≢ l.v.number - 1 → lacks l.work l.r i ≡ false)
