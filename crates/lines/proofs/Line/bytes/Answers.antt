use Rattle.std.proofs.Common.{arith}
use Rattle.lines.proofs.Puts.{put_run}
use Rattle.lines.proofs.Line.bytes.Goals as goal

pub returns-clause-put : goal.returns-clause-put
returns-clause-put c =
    let s = c.args.self.now in
    put_run s.at _ s.out.now c.copy_from_slice.new.self c.args.bytes.now c.copy_from_slice.ensures.after (omega arith) c.requires
