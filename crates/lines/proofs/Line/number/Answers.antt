-- The digits that `io::decimal` gives are `dec n`, at most 20.
use Rattle.std.proofs.Common.{rules}
use Rattle.lines.specs.Lines.{dec}
use Rattle.lines.proofs.Decimal.{fewest_dec}
use Rattle.lines.proofs.Puts.{put_then, spaced_one}
use Rattle.lines.proofs.Line.number.Goals as goal

pub returns-clause-put : goal.returns-clause-put
returns-clause-put c =
    let n = c.args.n in
    let k = c.decimal-k in
    let first = c.bytes.ensures.put in
    let digits = rw (k.ensures.digits, fewest_dec n _ (search rules) k.ensures.len) at c.bytes-2.ensures.put in
    rw (spaced_one (dec n)) (put_then first digits)
