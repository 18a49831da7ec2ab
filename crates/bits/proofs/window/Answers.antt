use Rattle.std.proofs.Common.{arith, ◌+◌}
use Rattle.bits.proofs.Windows.{window_calc}
use Rattle.bits.proofs.window.Goals as goal

pub returns : goal.returns
returns c =
    let a = c.args in
    window_calc a.s.now a.q a.off c.word-w.result c.from-b.result (omega arith) (omega arith) (rw c.from-b.ensures (c.shared_slice_known-2-1.given (a.q + 8)).fits) c.from-b.ensures c.word-w.ensures
