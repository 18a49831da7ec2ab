use Rattle.parity.proofs.Opens.{promise_filled}
use Rattle.parity.proofs.open.Goals as goal

pub returns-in-Ok : goal.returns-in-Ok
returns-in-Ok c =
    let a = c.args in
    let all = c.open_all in
    promise_filled a.old a.s.now a.store.now a.work.now a.literals.now a.rows.now c.in-Ok.shape c.in-Ok.ensures c.fill.new.store c.fill.ensures
    all.result.header all.result.answer all.new.work all.new.literals all.new.rows all.ensures
