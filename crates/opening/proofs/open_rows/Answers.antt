use Rattle.std.proofs.Common.{arith, inl, inr, rules}
use Rattle.opening.specs.Opened.{start}
use Rattle.opening.proofs.Opens.{opens_next, opens_basics}
use Rattle.opening.proofs.open_rows.Goals as goal
use Rattle.opening.proofs.open_rows.Goals.{then-branch, else-branch}

pub loop-q-init : goal.loop-q-init
loop-q-init c = (omega arith, start)

pub open_row-requires : goal.open_row-requires
open_row-requires c = let l = c.loop-q in let b = opens_basics _ _ (search rules) _ _ _ (omega arith) l.invariant.1 in search rules

pub loop-q-preserved : goal.loop-q-preserved
loop-q-preserved c =
    let l = c.loop-q in
    let done = c.in_ok-open_row.ensures in (
      elim c.if-branch.branch [ then-branch w ↦ omega arith | else-branch w ↦ omega arith ],
      opens_next _ _ l.q l.k l.work _ _ l.invariant.1 l.auto.work
          (elim c.if-branch.branch [ then-branch w ↦ inl (rw w.if-branch.true at done, w.k-is) | else-branch w ↦ inr (rw w.if-branch.false at done, w.k-is) ]),
    )
