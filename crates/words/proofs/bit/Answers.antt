use Rattle.words.proofs.Bits.{bit_read}
use Rattle.words.proofs.bit.Goals as goal

pub returns : goal.returns
returns c = rw (c.place-w.ensures.0, c.place-w.ensures.1) (bit_read _ _ _)
