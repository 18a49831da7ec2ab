use Rattle.std.proofs.Common.{refl, rules}
use Rattle.lines.specs.Lines.{spaced}
use Rattle.lines.proofs.Puts.{put_none, put_then, spaced_more}
use Rattle.lines.proofs.Line.numbers.Goals as goal

pub loop-n-init : goal.loop-n-init
unfolding spaced
loop-n-init c =
    let s = c.args.self.now in
    record { same = refl; upper_bound = search rules; put = put_none s.out.now s.at (search rules) }

pub loop-n-preserved : goal.loop-n-preserved
loop-n-preserved c =
    let l = c.loop-n in
    let put = put_then l.invariant.put c.number.ensures.put in
    record { same = search rules; upper_bound = search rules; put = rw (spaced_more l.n-index c.args.ns.now (search rules)) put }
