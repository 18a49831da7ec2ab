-- The six texts, one after another, are the line.
use Rattle.std.proofs.Common.{rules}
use Rattle.lines.specs.Lines.{Put, Said, spaced, text}
use Rattle.lines.proofs.Puts.{put_then, put_text, flat}
use Rattle.lines.proofs.opened.Goals as goal

pub returns : goal.returns
unfolding spaced
returns c =
    let end = c.bytes-3.new.self in
    let said : Put c.args.out.now 0 (text (Said.opened c.args.kept c.args.codes.now)) end.out.now end.at = put_text
    (put_then c.bytes.ensures.put
    (put_then c.number.ensures.put
    (put_then c.bytes-2.ensures.put
    (put_then c.number-2.ensures.put
    (put_then c.numbers.ensures.put c.bytes-3.ensures.put))))) (simp flat) in
    search rules
