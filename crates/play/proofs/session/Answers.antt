use Rattle.std.proofs.Common.{rules}
use Rattle.play.specs.Session.{SessionOn}
use Rattle.play.specs.Pages.{Spoken, Begun}
use Rattle.play.proofs.Filling.{heard, heard_front, left_behind}
use Rattle.play.proofs.session.Goals as goal

pub returns-clause-whole : goal.returns-clause-whole
returns-clause-whole g c =
    heard c.speak.result (g.R.Read.remaining c.args.input.now) c.in_ok-n.n c.filled.new.buffer
    (λ s. Spoken (SessionOn s) (g.W.Write.contents c.args.out.now) (g.W.Write.contents c.speak.new.out)) (search rules) c.in_ok-n.ensures.bytes c.speak.ensures.whole

pub returns-clause-front : goal.returns-clause-front
returns-clause-front g c =
    heard_front c.speak.result (g.R.Read.remaining c.args.input.now) c.in_ok-n.n c.filled.new.buffer
    (λ s. Begun (SessionOn s) (g.W.Write.contents c.args.out.now) (g.W.Write.contents c.speak.new.out)) (search rules) c.in_ok-n.ensures.bytes c.speak.ensures.front

pub returns-clause-left : goal.returns-clause-left
returns-clause-left g c =
    left_behind c.speak.result (g.R.Read.remaining c.args.input.now) (g.R.Read.remaining c.filled.new.input) c.in_ok-n.n c.filled.new.buffer
    (search rules) c.in_ok-n.ensures.bytes c.in_ok-n.ensures.taken
