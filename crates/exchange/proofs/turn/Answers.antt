use Rattle.std.proofs.Common.{arith, inl, rules, ◌+◌, ◌-◌, ◌/◌, ◌∙◌}
use Rattle.words.proofs.Bits.{bit_same}
use Rattle.tableau.specs.Layout.{row_at}
use Rattle.settle.proofs.Blocks.{chain_taken}
use Rattle.exchange.specs.Steps.{RowTurned}
use Rattle.exchange.proofs.Passes.{turned_idle, turned_after}
use Rattle.exchange.proofs.turn.Goals as goal

pub for_rows_with-requires-clause-apart : goal.for_rows_with-requires-clause-apart
for_rows_with-requires-clause-apart c = λ r x y l t. turned_after c.args.p c.args.u.number r x.now y.now (search rules)

pub returns : goal.returns
returns c =
    let a = c.args in
    let u = a.u.number in
    let p = row_at a.p in
    -- row p has u when the pass begins
    let has = bit_same _ c.put.new.work p p (u - 1) (c.put.ensures.rest (p + (u - 1) / 64) (inl (omega arith))) ∙ c.requires.3 in
    record {
      begun = c.put.new.work;
      given = c.put.ensures;
      turned = chain_taken _ (u - 1) _ (RowTurned a.p u) a.k _ (λ r w l d f. turned_idle a.p u (omega arith) (omega arith) r _ w has d f) (λ r x y l e d f t. search rules)
          c.for_rows_with.ensures;
    }
