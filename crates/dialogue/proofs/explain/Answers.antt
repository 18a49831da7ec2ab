use Rattle.std.proofs.Common.{rules}
use Rattle.dialogue.proofs.Fits.{explain_fits}
use Rattle.dialogue.proofs.explain.Goals as goal

pub line_of_explaining-end-requires : goal.line_of_explaining-end-requires
line_of_explaining-end-requires c = (search rules, explain_fits c.explain-answer.ensures)
