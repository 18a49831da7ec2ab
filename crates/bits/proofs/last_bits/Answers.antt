use Rattle.std.proofs.Common.{arith}
use lib.Bits.{and_mask}
use Rattle.bits.proofs.Masks.{last_calc}
use Rattle.bits.proofs.last_bits.Goals as goal

pub returns : goal.returns
returns c =
    let a = c.args in
    last_calc a.v a.count a.p c.lowered.result _ (omega arith) (omega arith) c.lowered.ensures (and_mask a.p 1)
