use Rattle.std.proofs.Common.{rules}
use Rattle.dialogue.proofs.Fits.{assume_fits}
use Rattle.dialogue.proofs.assume.Goals as goal

pub line_of_assuming-end-requires : goal.line_of_assuming-end-requires
line_of_assuming-end-requires c = (search rules, assume_fits c.assume-answer.ensures)
