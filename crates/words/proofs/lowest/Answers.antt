use Rattle.std.proofs.Common.{rules, ◌<◌, arith, slice_index_or}
use Rattle.words.proofs.Bits.{lowest_none, lowest_found}
use Rattle.words.proofs.lowest.Goals as goal

pub returns-then-word-ne0 : goal.returns-then-word-ne0
returns-then-word-ne0 c =
    let l = c.loop-i in
    let pos : 0 < slice_index_or c.args.row l.i 0 = omega (arith, c.if-word-ne0.true) in
    lowest_found c.args.row l.i pos (search rules) 8 (omega arith) l.invariant

pub returns : goal.returns
returns c = lowest_none 8 c.args.row (λ j h. c.loop-i.invariant j (omega arith))
