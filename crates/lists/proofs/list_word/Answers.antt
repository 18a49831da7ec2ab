use Rattle.std.proofs.Common.{arith, rules}
use Rattle.lists.proofs.Digits.{rest_start, rest_room, rest_next, rest_end}
use Rattle.lists.proofs.list_word.Goals as goal

pub loop-i-init : goal.loop-i-init
loop-i-init c = rw c.into_iter-i-iterator.ensures.into_iter_gives (rest_start _ _ _ _ _ _ (search rules) (omega arith))

pub bounds-out-c : goal.bounds-out-c
bounds-out-c c = rest_room _ _ _ _ _ _ _ _ _ _ _ c.loop-i.invariant c.in-Some.ensures.steps c.requires.2

pub loop-i-preserved : goal.loop-i-preserved
loop-i-preserved c = rest_next _ _ _ _ _ _ _ _ _ _ _ c.loop-i.invariant c.in-Some.ensures.steps c.requires.2

pub returns : goal.returns
returns c = rest_end _ _ _ _ _ _ _ _ _ c.loop-i.invariant c.in-None.ensures.steps.0
