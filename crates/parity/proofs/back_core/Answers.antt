use Rattle.std.proofs.Common.{arith, length, refl, sym}
use Rattle.judge.proofs.Judged.{back_judged}
use Rattle.parity.proofs.Part.{front_long, replaced_worked}
use Rattle.parity.proofs.Going.{back_stands}
use Rattle.parity.proofs.back_core.Goals as goal

pub slice_bounds-restart-end-2 : goal.slice_bounds-restart-end-2
slice_bounds-restart-end-2 c = let a = c.args in sym (front_long a.work.now (back_judged a.h (length a.work.now) a.depth (sym c.in_default.ensures)).1)

pub restart-requires : goal.restart-requires
restart-requires c =
    let a = c.args in
    let j = back_judged a.h (length a.work.now) a.depth (sym c.in_default.ensures) in
    (omega (arith, front_long a.work.now j.1), omega (arith, j.0.kept, j.0.rows), omega (arith, j.0.depth, j.0.vars, j.2))

pub returns : goal.returns
returns c =
    let a = c.args in
    let j = back_judged a.h (length a.work.now) a.depth (sym c.in_default.ensures) in
    let r = c.restart in
    rw (c.done.ensures.0, c.done.ensures.1)
    (record {
      answer = c.in_default.ensures;
      refused = λ x e. absurd (omega arith);
      done = λ z. (refl, replaced_worked a.work.now r.new.work j.1 r.auto.work);
      right = λ z p s. back_stands a.h a.work.now r.new.work p s j.1 r.auto.work a.depth j.2 r.ensures;
    })
