use Rattle.std.proofs.Common.{arith, rules, ◌-◌}
use mathlib.Core.Bool.{false≢true}
use Rattle.settle.proofs.Testing.{sole_more, word_bad}
use Rattle.settle.proofs.alone.Goals as goal

pub returns-then-open-own-ne0 : goal.returns-then-open-own-ne0
returns-then-open-own-ne0 c =
    let a = c.args in
    let bad = word_bad a.work.now a.r (a.v.number - 1) c.loop-j.j (omega arith) (search rules) in
    record { yes = λ e. absurd (false≢true e); no = λ e h. c.if-open-own-ne0.true (rw (c.without-open.ensures, c.own.ensures) (bad h)) }

pub loop-j-preserved : goal.loop-j-preserved
loop-j-preserved c =
    let a = c.args in
    let l = c.loop-j in
    sole_more a.work.now a.r (a.v.number - 1) l.j l.invariant (rw (← c.own.ensures, ← c.without-open.ensures) c.if-open-own-ne0.false)
