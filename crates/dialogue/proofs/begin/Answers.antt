use Rattle.std.proofs.Common.{rules}
use Rattle.dialogue.proofs.Fits.{open_fits}
use Rattle.dialogue.proofs.begin.Goals as goal

pub line_of_opening-end-requires : goal.line_of_opening-end-requires
line_of_opening-end-requires c = (search rules, open_fits c.open-answer.ensures)
