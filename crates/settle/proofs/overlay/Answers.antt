use Rattle.settle.proofs.Testing.{overlay_more}
use Rattle.settle.proofs.overlay.Goals as goal

pub loop-j-preserved : goal.loop-j-preserved
loop-j-preserved c =
    let l = c.loop-j in rw c.without-over.ensures (overlay_more c.args.work.now c.args.r l.j l.over l.invariant)
