use Rattle.std.proofs.Common.{ap, arith, ◌∙◌}
use Rattle.gf2.specs.Answers.{code}
use Rattle.lists.proofs.Picking.{listed_cons}
use Rattle.lists.proofs.list_clause.Goals as goal

pub returns : goal.returns
returns c =
    rw (c.code.ensures ∙ ap (code c.args.v.number) c.bit-value.ensures)
    at (listed_cons c.args.n _ c.args.out.now _ _ c.code.result (omega arith) c.list_others.ensures)
