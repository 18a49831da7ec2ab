use Rattle.std.proofs.Common.{ap, ◌*◌, add-one, arith, refl, sym, ◌∙◌}
use Rattle.format.proofs.Clean.{rows_cleaned, rows_spoiled}
use Rattle.format.specs.Sheet.{clean, clean_row}
use Rattle.sheet.proofs.Parts.{rest_is}
use Rattle.sheet.proofs.clean_rows.Goals as goal

pub loop-r-init : goal.loop-r-init
unfolding clean
loop-r-init c = refl

pub returns-then-not-clean_row : goal.returns-then-not-clean_row
returns-then-not-clean_row c =
    let a = c.args in
    let l = c.loop-r in
    let row = c.clean_row in
    sym (rows_spoiled a.shape.n a.shape.m l.r a.store.now (omega arith) (ap (clean_row a.shape.n) (sym (rest_is a.store.now (9 * l.r))) ∙ sym row.ensures ∙ c.if-not-clean_row.true))

pub loop-r-preserved : goal.loop-r-preserved
loop-r-preserved c =
    let a = c.args in
    let l = c.loop-r in
    let row = c.clean_row in
    rw add-one (rows_cleaned a.shape.n l.r a.store.now l.invariant (ap (clean_row a.shape.n) (sym (rest_is a.store.now (9 * l.r))) ∙ sym row.ensures ∙ c.if-not-clean_row.false))
