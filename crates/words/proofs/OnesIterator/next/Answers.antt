use Rattle.std.proofs.Common.{arith, rules}
use Rattle.words.proofs.Tops.{top_taken}
use Rattle.words.proofs.OnesIterator.next.Goals as goal
use Rattle.words.proofs.OnesIterator.next.Goals.{Start}

pub returns-clause-steps : goal.returns-clause-steps
returns-clause-steps c = top_taken c.args.self.now.0 (omega (arith, c.if-self-eq0.false)) (search rules)

pub returns-clause-goes : goal.returns-clause-goes
returns-clause-goes c =
    let less = (top_taken c.args.self.now.0 (omega (arith, c.if-self-eq0.false)) (search rules)).less in search (rules, less)
