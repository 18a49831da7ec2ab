use Rattle.std.proofs.Common.{rules}
use Rattle.play.proofs.Putting.{put_on}
use Rattle.play.proofs.put.Goals as goal

pub loop-done-preserved : goal.loop-done-preserved
loop-done-preserved g c = (
  put_on _ _ _ _ _ _ c.loop-done.invariant.1 c.in_ok-n.ensures.bound c.loop-done.invariant.0 c.in_ok-n.ensures.bytes,
  search rules,
)
