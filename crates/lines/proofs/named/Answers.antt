-- The three texts, one after another, are the line.
use Rattle.std.proofs.Common.{rules, [], ◌∷◌}
use Rattle.lines.specs.Lines.{Put, dec, line, spaced}
use Rattle.lines.proofs.Puts.{put_then, put_text, flat}
use Rattle.lines.proofs.named.Goals as goal

pub returns : goal.returns
unfolding spaced
returns c =
    let end = c.bytes-2.new.self in
    let said : Put c.args.out.now 0 (line c.args.word.now (dec c.args.n ∷ [])) end.out.now end.at = put_text
    (put_then c.bytes.ensures.put
    (put_then c.number.ensures.put c.bytes-2.ensures.put)) (simp flat) in
    search rules
