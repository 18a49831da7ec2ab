use Rattle.std.proofs.Common.{rules, sym, subst}
use Rattle.std.specs.Io.KnownBytes.{Consumes}
use Rattle.play.proofs.Filling.{take_read, consumed_on}
use Rattle.play.proofs.filled.Goals as goal

pub loop-done-preserved : goal.loop-done-preserved
loop-done-preserved g c =
    let invariant = c.loop-done.invariant in
    let e = take_read c.loop-done.done _ c.in_ok-n.n c.loop-done.buffer c.read.new.buf invariant.1 c.in_ok-n.ensures.bound.0 in (
      subst (Consumes _ _) (sym e) (consumed_on _ _ _ _ _ invariant.0 c.in_ok-n.ensures.bytes.0),
      search rules,
    )
