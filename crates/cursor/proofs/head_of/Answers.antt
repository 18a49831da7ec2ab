use Rattle.std.proofs.Common.{arith}
use Rattle.format.proofs.Bytes.{length-bits_of}
use Rattle.format.proofs.Values.{field_lt}
use Rattle.format.specs.Bits.{bits_of}
use Rattle.cursor.proofs.head_of.Goals as goal

pub invariant_of-head : goal.invariant_of-head
invariant_of-head c =
    let s = c.args.s.now in
    let l = length-bits_of s in
    record {
      n_fits = omega (arith, field_lt 10 0 (bits_of s) (omega (arith, c.requires)), c.field-n.ensures.0);
      m_fits = omega (arith, field_lt 9 c.field-n.result.next.at (bits_of s) (omega (arith, c.requires, c.field-n.ensures.1)), c.field-m.ensures.0);
    }
