use Rattle.std.proofs.Common.{arith, rules}
use Rattle.opening.proofs.Basics.{basics_chain}
use Rattle.opening.proofs.reduce.Goals as goal

pub reduce_by-requires : goal.reduce_by-requires
reduce_by-requires c = let l = c.loop-r in let b = basics_chain _ _ _ _ l.invariant.1 c.requires.2 l.r (omega arith) in search rules
