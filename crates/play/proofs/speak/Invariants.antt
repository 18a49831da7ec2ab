use Rattle.std.proofs.Common.{◌+◌, ◌-◌, length, cond}
use Rattle.play.specs.Pages.{Roomy}
use Rattle.play.proofs.Speaking.{Speaking}
use Rattle.play.proofs.speak.Given as goal

abbrev pub invariant-loop-progress : goal.invariant-loop-progress
invariant-loop-progress g l =
    Roomy l.work l.literals l.rows l.page × Speaking l.s (g.W.Write.contents l.fn.out) (g.W.Write.contents l.out) l.progress l.work

-- nothing is left to do once no more follows
abbrev pub decreases-loop-progress : goal.decreases-loop-progress
decreases-loop-progress g l = cond l.progress.more (length l.s - l.progress.at + 1) 0
