use Rattle.parity.specs.Openings.{all_in, stopped}
use Rattle.parity.proofs.Opens.{all_zero}
use Rattle.parity.proofs.open_all.Goals as goal

pub returns-in-Ok : goal.returns-in-Ok
returns-in-Ok c =
    let done = c.done.ensures in
    rw (done.0, done.1) (all_in c.in-Ok.kept c.open_rows.new.work c.list_known-count.result _ c.open_rows.auto.work c.in-Ok.ensures c.list_known-count.ensures)

pub returns-in-Err : goal.returns-in-Err
returns-in-Err c =
    let done = c.done-in-Err.ensures in
    rw (done.0, done.1, all_zero c.default.result c.default.ensures)
    (stopped c.in-Err.field-0.row c.open_rows.new.work c.list_rows-count.result _ c.open_rows.auto.work c.in-Err.ensures c.list_rows-count.ensures)
