use Rattle.std.proofs.Common.{sym, ◌∙◌}
use Rattle.words.proofs.Bits.{own_here, own_away}
use Rattle.words.proofs.own.Goals as goal

pub returns-then-w-j : goal.returns-then-w-j
returns-then-w-j c = rw c.place-w.ensures.1 (own_here c.args.v.number c.args.j (sym c.place-w.ensures.0 ∙ c.if-w-j.true))

pub returns-else-w-j : goal.returns-else-w-j
returns-else-w-j c = own_away c.args.v.number c.args.j (λ e. c.if-w-j.false (c.place-w.ensures.0 ∙ e))
