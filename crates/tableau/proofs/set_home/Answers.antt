use Rattle.std.proofs.Common.{arith}
use Rattle.tableau.proofs.Records.{home_done}
use Rattle.tableau.proofs.set_home.Goals as goal

pub returns : goal.returns
returns c = home_done _ _ _ _ (omega arith) (omega arith) (omega arith) (omega arith) (omega arith)
