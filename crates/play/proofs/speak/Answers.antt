use Rattle.std.proofs.Common.{rules}
use Rattle.play.proofs.Speaking.{speaking_on, bytes_are, so_far_front, speaking_front, on_err, fewer}
use Rattle.play.proofs.speak.Goals as goal

pub slice_bounds-page-end-in-loop-progress : goal.slice_bounds-page-end-in-loop-progress
slice_bounds-page-end-in-loop-progress g c =
    let here = c.loop-progress.invariant.1.so_far.continued c.loop-progress-test.true in
    (c.play-progress.ensures.paged here.position here.stands).put.counts.0

pub slice_bounds-put-end-in-loop-progress : goal.slice_bounds-put-end-in-loop-progress
slice_bounds-put-end-in-loop-progress g c =
    let here = c.loop-progress.invariant.1.so_far.continued c.loop-progress-test.true in
    (c.play-progress.ensures.paged here.position here.stands).put.counts.1

pub loop-progress-smaller : goal.loop-progress-smaller
loop-progress-smaller g c =
    let here = c.loop-progress.invariant.1.so_far.continued c.loop-progress-test.true in
    fewer _ _ _ _ _ c.loop-progress-test.true (c.play-progress.ensures.paged here.position here.stands).so_far.within c.play-progress.ensures.onward

pub loop-progress-preserved : goal.loop-progress-preserved
loop-progress-preserved g c = (
  search rules,
  speaking_on c.loop-progress.invariant.1 c.loop-progress-test.true c.play-progress.ensures.paged c.in_ok-put-2.ensures.whole,
)

pub returns-in_err-put-clause-front : goal.returns-in_err-put-clause-front
returns-in_err-put-clause-front g c =
    on_err c.from_residual.result
    (so_far_front (g.W.Write.contents c.args.out.now) (g.W.Write.contents c.put.new.out) (bytes_are c.args.s.now c.type_inv.s) c.start-progress.ensures.so_far c.in_err-put.ensures.front)

pub returns-in_err-put-2-clause-front : goal.returns-in_err-put-2-clause-front
returns-in_err-put-2-clause-front g c =
    on_err c.from_residual-in_err-put-2.result
    (speaking_front (g.W.Write.contents c.args.out.now) (g.W.Write.contents c.loop-progress.out) (g.W.Write.contents c.put-in-loop-progress.new.out) (bytes_are c.args.s.now c.type_inv.s)
    c.loop-progress.invariant.1 c.loop-progress-test.true c.play-progress.ensures.paged c.in_err-put-2.ensures.front)
