use Rattle.std.proofs.Common.{rules, inl, inr, refl, ◌-◌}
use Rattle.settle.specs.Values.{RowFollowed}
use Rattle.settle.proofs.Blocks.{chain_taken}
use Rattle.settle.proofs.follow.Goals as goal

pub returns : goal.returns
returns c =
    let p = c.args.l.variable.number - 1 in
    record {
      begun = c.put.new.work;
      given = c.put.ensures;
      settled = chain_taken _ p _ (RowFollowed p) _ _ (λ r u l d f. inl (refl, f)) (λ r x y l e d f t. inr (f, search rules)) c.for_rows_with.ensures;
    }
