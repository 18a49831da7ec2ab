use Rattle.std.proofs.Common.{◌∙◌}
use Rattle.exchange.specs.Steps.{added, centre}
use Rattle.exchange.proofs.turn_row.Goals as goal
use Rattle.exchange.proofs.turn_row.Goals.{then-r-p, else-r-p}

pub returns : goal.returns
returns c =
    elim c.if-r-p.branch [
      | then-r-p w ↦ centre w.if-r-p.true (rw (w.work-is ∙ w.point.ensures) at c.settle_row.ensures)
      | else-r-p w ↦ added w.add_row.new.work w.if-r-p.false c.requires.3 w.add_row.ensures (rw w.work-is at c.settle_row.ensures)
    ]
