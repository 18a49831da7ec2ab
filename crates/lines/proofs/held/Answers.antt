use Rattle.std.proofs.Common.{rules}
use Rattle.lines.specs.Lines.{spaced}
use Rattle.lines.proofs.held.Goals as goal

pub returns : goal.returns
unfolding spaced
returns c = search rules
