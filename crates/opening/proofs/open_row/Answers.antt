use Rattle.std.proofs.Common.{ap, arith, get_or, refl, ◌%◌, ◌∙◌, ◌≡◌}
use Rattle.words.specs.Words.{digit}
use Rattle.tableau.specs.Layout.{last_at}
use Rattle.opening.specs.Opened.{Spent}
use Rattle.opening.proofs.Loads.{lowest_read, none_read}
use Rattle.opening.proofs.open_row.Goals as goal
use Rattle.opening.proofs.open_row.Goals.{In_default}

-- no variable is left in the row
spent : (c : In_default) → Spent c.args.q c.args.k c.args.rows.now c.args.work.now c.reduce.new.work
spent c =
    record { begun = c.load_row.new.work; loaded = c.load_row.ensures; reduced = c.reduce.ensures; empty = none_read _ _ _ c.load.ensures c.in_default.ensures }

pub returns-in-Some : goal.returns-in-Some
returns-in-Some c =
    let l = c.load_row in
    let d = c.reduce in
    let h = c.set_home in
    record {
      begun = l.new.work;
      left = d.new.work;
      u = c.in-Some.u.number;
      loaded = l.ensures;
      reduced = d.ensures;
      lowest = lowest_read _ _ _ c.load.ensures _ c.in-Some.ensures;
      long = d.auto.work ∙ l.auto.work;
      housed = h.new.work;
      home = h.ensures;
      moved = c.enter.ensures;
    }

pub returns-then-work-k-eq1 : goal.returns-then-work-k-eq1
returns-then-work-k-eq1 c = (spent (goal.at.returns-then-work-k-eq1 c).In_default, ap digit c.if-work-k-eq1.true, refl)

pub returns : goal.returns
returns c =
    let w = c.reduce.new.work in
    let e : get_or w (last_at c.args.k) 0 % 2 ≡ 0 = omega (arith, c.if-work-k-eq1.false) in
    (spent (goal.at.returns c).In_default, ap digit e)
