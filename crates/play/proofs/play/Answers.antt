use Rattle.std.proofs.Common.{arith, rules}
use Rattle.play.proofs.Playing.{playing_none, playing_full, playing_over, text_put, playing_on, playing_ended}
use borrow.Author.Tests.{not-false}
use Rattle.gf2.proofs.Search.{not_true}
use Rattle.play.proofs.play.Goals as goal

pub loop-at-init : goal.loop-at-init
loop-at-init c =
    (playing_none c.args.s.now c.args.first c.args.opened c.args.work.now c.args.page.now c.requires.0, c.requires.1, c.requires.1.page_long)

pub overflow_sub-s : goal.overflow_sub-s
overflow_sub-s c = c.loop-at.invariant.0.within

pub append-step-requires : goal.append-step-requires
append-step-requires c = c.loop-at.invariant.2

pub overflow_sub-page : goal.overflow_sub-page
overflow_sub-page c = (text_put c.loop-at.invariant.0 c.append-step.ensures).counts.0

pub returns-then-not-step-clause-paged : goal.returns-then-not-step-clause-paged
returns-then-not-step-clause-paged c =
    playing_ended c.loop-at.invariant.0 c.append-step.ensures c.command-command.ensures (omega (arith, c.if-s-at-lt2.false)) c.loop-at.invariant.1
    (not_true _ c.if-not-step.true)

pub returns-then-page-end-lt-ROOM-clause-paged : goal.returns-then-page-end-lt-ROOM-clause-paged
returns-then-page-end-lt-ROOM-clause-paged c =
    playing_full
    (playing_on c.loop-at.invariant.0 c.append-step.ensures c.command-command.ensures (omega (arith, c.if-s-at-lt2.false)) c.loop-at.invariant.1
    (not-false _ c.if-not-step.false))

pub loop-at-preserved : goal.loop-at-preserved
loop-at-preserved c = (
  playing_on c.loop-at.invariant.0 c.append-step.ensures c.command-command.ensures (omega (arith, c.if-s-at-lt2.false)) c.loop-at.invariant.1
      (not-false _ c.if-not-step.false),
  search rules,
  omega arith,
)

pub returns-then-s-at-lt2-clause-paged : goal.returns-then-s-at-lt2-clause-paged
returns-then-s-at-lt2-clause-paged c = playing_over c.loop-at.invariant.0 (omega (arith, c.if-s-at-lt2.true))
