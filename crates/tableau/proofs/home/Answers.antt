use Rattle.std.proofs.Common.{refl}
use Rattle.tableau.specs.Buffer.{home_at}
use Rattle.tableau.proofs.home.Goals as goal

pub returns : goal.returns
unfolding home_at
returns c = refl
