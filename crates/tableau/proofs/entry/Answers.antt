use Rattle.std.proofs.Common.{refl}
use Rattle.tableau.specs.Buffer.{entry_at}
use Rattle.tableau.proofs.entry.Goals as goal

pub returns : goal.returns
unfolding entry_at
returns c = refl
