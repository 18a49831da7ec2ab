use Rattle.std.proofs.Common.{◌+◌, ◌≤◌, length, ◌-◌}
use Rattle.dialogue.specs.Steps.{room}
use Rattle.play.specs.Pages.{Roomy}
use Rattle.play.proofs.Playing.{Playing}
use Rattle.play.proofs.play.Given as goal

abbrev pub invariant-loop-at : goal.invariant-loop-at
invariant-loop-at l =
    Playing l.s l.first l.fn.opened l.fn.work l.fn.page l.at l.header l.end l.work l.page
    × Roomy l.work l.literals l.rows l.page
    × (l.end + room ≤ length l.page)

abbrev pub decreases-loop-at : goal.decreases-loop-at
decreases-loop-at l = length l.s - l.at
