use Rattle.play.proofs.Starting.{start_paged}
use Rattle.play.proofs.start.Goals as goal

pub returns : goal.returns
returns c = start_paged c.requires.0 c.requires.1 c.sheet_end-at.ensures c.begin-end.ensures
