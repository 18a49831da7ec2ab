use Rattle.std.proofs.Common.{arith, ◌-◌}
use Rattle.tableau.proofs.Columns.{gathered_two}
use Rattle.tableau.proofs.two.Goals as goal

pub returns : goal.returns
returns c = let a = c.args in gathered_two a.work.now a.r (a.v.number - 1) _ _ _ (omega arith) (omega arith) c.place-w.ensures.1
