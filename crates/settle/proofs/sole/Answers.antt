use Rattle.std.proofs.Common.{Fits, rules, w64, ◌-◌}
use mathlib.Core.Bool.{false≢true}
use Rattle.settle.proofs.Testing.{overlay_bad}
use Rattle.settle.proofs.sole.Goals as goal

pub returns-then-without-ne0 : goal.returns-then-without-ne0
returns-then-without-ne0 c =
    let a = c.args in
    let f : Fits w64 c.overlay-over.result = search rules in
    record {
      yes = λ e. absurd (false≢true e);
      no = λ e h. c.if-without-ne0.true (rw (c.without.ensures, c.own-mine.ensures, c.place-w.ensures.0) (overlay_bad a.work.now a.r (a.v.number - 1) c.overlay-over.result f.fits c.overlay-over.ensures h));
    }
