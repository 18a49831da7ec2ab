use Rattle.std.proofs.Common.{rules, refl}
use Rattle.format.specs.Bits.{value_of, bits_n, odd}
use Rattle.format.specs.Sheet.{clean, clean_row, packed}
use Rattle.sheet_vectors.proofs.buffers.Goals as goal

pub writes-requires-2 : goal.writes-requires-2
unfolding value_of bits_n odd clean clean_row packed
writes-requires-2 c = (search rules, search rules, refl)
