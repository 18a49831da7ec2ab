use Rattle.std.proofs.Common.{arith, ◌+◌}
use Rattle.tableau.proofs.Columns.{gathered_join}
use Rattle.tableau.proofs.four.Goals as goal

pub returns : goal.returns
returns c =
    let a = c.args in gathered_join _ a.r (a.r + 2) (a.r + 4) 2 _ _ _ (omega arith) (omega arith) c.two.ensures c.two-2.ensures
