use Rattle.std.proofs.Common.{arith, min, ◌*◌, ◌+◌, ◌-◌, ◌≡◌, ◌∙◌, refl}
use Rattle.settle.proofs.Blocks.{block-init, block-end, Next, block-next}
use Rattle.settle.proofs.for_rows_with.Goals as goal
use Rattle.settle.proofs.for_rows_with.Goals.{In-Some}

-- the turn of the loop over a block
turn : (g : _) (c : In-Some g)
    → let a = c.args in
    let l = c.loop-block in
    Next (goal.F-post g a.step) (a.v.number - 1) (64 * l.block) c.min-e.result c.into_iter-i-iterator.result.0 a.work.now l.work c.loop-i.work c.in-Some.i c.next.new.self.0
turn g c =
    let i = c.into_iter-i-iterator in
    block-next _ _ c.args.k _ _ _ _ _ _ _ (omega arith) (omega arith) (omega arith) (omega arith) c.requires.apart (rw i.ensures.into_iter_gives c.column.ensures)
    c.loop-i.invariant _ _ c.in-Some.ensures.steps

pub loop-i-init : goal.loop-i-init
loop-i-init g c =
    let l = c.loop-block in
    let m : min (64 * l.block) c.args.k ≡ 64 * l.block = omega arith in
    block-init _ _ _ _ _ _ _ (omega arith) (omega arith) l.auto.work (rw m at l.invariant)

pub step-requires : goal.step-requires
step-requires g c =
    let t = turn g (goal.at.step-requires g c).In-Some in
    let l = t.row in
    c.requires.callable (64 * c.loop-block.block + c.in-Some.i) _ (omega arith) (c.loop-i.auto.work ∙ c.loop-block.auto.work) t.before t.has

pub loop-i-preserved : goal.loop-i-preserved
loop-i-preserved g c = (turn g (goal.at.loop-i-preserved g c).In-Some).next _ _ refl c.step.auto.arg2 c.step.ensures

pub loop-block-preserved : goal.loop-block-preserved
loop-block-preserved g c =
    let l = c.loop-block in
    let n : c.min-e.result ≡ min (64 * (l.block + 1)) c.args.k = omega arith in
    let i = c.into_iter-i-iterator in
    rw n at (block-end _ _ c.args.k _ _ _ _ _ _ _ (omega arith) (omega arith) (omega arith) (omega arith) c.requires.apart (rw i.ensures.into_iter_gives c.column.ensures)
    c.loop-i.invariant c.in-None.ensures.steps.0)
