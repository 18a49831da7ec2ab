use Rattle.std.proofs.Common.{arith}
use Rattle.tableau.proofs.Records.{record_done}
use Rattle.tableau.proofs.set_entry.Goals as goal

pub returns : goal.returns
returns c = record_done _ _ _ _ (omega arith) (omega arith) (omega arith) (omega arith)
