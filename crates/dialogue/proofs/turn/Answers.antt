use Rattle.std.proofs.Common.{arith}
use Rattle.dialogue.specs.Steps.{ends, assumes, backs, explains}
use Rattle.dialogue.proofs.turn.Goals as goal

pub returns-in-0 : goal.returns-in-0
returns-in-0 c = ends c.in-0.is

pub returns-in-1 : goal.returns-in-1
returns-in-1 c = assumes c.in-1.is c.assume.ensures

pub returns-in-2 : goal.returns-in-2
returns-in-2 c = backs c.in-2.is c.back.ensures

pub returns-in-3-to-65535 : goal.returns-in-3-to-65535
returns-in-3-to-65535 c = explains (omega arith) c.explain.ensures
