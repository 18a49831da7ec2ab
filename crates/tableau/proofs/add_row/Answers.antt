use Rattle.std.proofs.Common.{arith}
use Rattle.tableau.specs.Layout.{row_at, from_at}
use Rattle.tableau.proofs.Runs.{slice_at}
use Rattle.tableau.proofs.Adding.{add_done}
use Rattle.tableau.proofs.add_row.Goals as goal

pub returns : goal.returns
returns c =
    let a = c.args in
    add_done a.from a.to a.work.now _ _ _ _ _ _ _ _ (omega arith) (omega arith) (omega arith)
    c.load.ensures (slice_at 8 _ (row_at a.from) _ _ c.load-2.ensures (omega arith))
    c.words_at.ensures (slice_at 4 _ (from_at a.from) _ _ c.words_at-2.ensures (omega arith))
    c.sum-row.ensures c.sum-rows.ensures c.store.ensures c.put_words.ensures
