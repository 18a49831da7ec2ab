use Rattle.std.proofs.Common.{ap, arith, get_or, not, ◌%◌, ◌&&◌, ◌∙◌, ◌≡◌}
use Rattle.gf2.specs.Field.{xsum}
use Rattle.words.specs.Words.{bit_at}
use Rattle.tableau.specs.Layout.{max_vars, row_at, last_at, truth_at}
use Rattle.tableau.proofs.Runs.{slice_sum}
use Rattle.settle.proofs.value.Goals as goal
use Rattle.settle.proofs.value.Goals.{After-odd-b}

sum : (c : After-odd-b) → c.odd-b.result ≡ xsum max_vars (λ i. bit_at c.args.work.now (row_at c.args.r) i && bit_at c.args.work.now truth_at i)
sum c = c.odd-b.ensures ∙ slice_sum 8 (row_at c.args.r) truth_at c.args.work.now _ _ c.load.ensures c.words_at.ensures

pub returns-then-work-r-eq1 : goal.returns-then-work-r-eq1
returns-then-work-r-eq1 c =
    let a = c.args in
    let e : get_or a.work.now (last_at a.r) 0 % 2 ≡ 1 = omega (arith, c.if-work-r-eq1.true) in
    rw e (ap not (sum (goal.at.returns-then-work-r-eq1 c).After-odd-b))

pub returns-else-work-r-eq1 : goal.returns-else-work-r-eq1
returns-else-work-r-eq1 c =
    let a = c.args in
    let e : get_or a.work.now (last_at a.r) 0 % 2 ≡ 0 = omega (arith, c.if-work-r-eq1.false) in
    rw e (sum (goal.at.returns-else-work-r-eq1 c).After-odd-b)
