use Rattle.std.proofs.Common.{arith, ◌-◌}
use Rattle.settle.proofs.Putting.{put_done}
use Rattle.settle.proofs.put.Goals as goal
use Rattle.settle.proofs.put.Goals.{then-l, else-l}

pub returns : goal.returns
returns c =
    let a = c.args in
    let o = c.own-mask in
    let w = c.place-w.ensures.0 in
    rw w (put_done a.work.now (a.l.variable.number - 1) a.l.value o.result c.if-l.bit (omega arith) (omega arith) (rw w at o.ensures)
    (elim c.if-l.branch [ then-l w ↦ rw w.if-l.true w.bit-is | else-l w ↦ rw w.if-l.false w.bit-is ]))
