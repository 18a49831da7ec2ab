use Rattle.std.proofs.Common.{rules, refl}
use Rattle.format.specs.Bits.{value_of, bits_n, odd}
use Rattle.format.specs.Sheet.{clean, clean_row, packed}
use Rattle.sheet_vectors.proofs.values.Goals as goal

pub writes-requires : goal.writes-requires
unfolding clean
writes-requires c = (search rules, search rules, refl)

pub writes-requires-4 : goal.writes-requires-4
unfolding value_of bits_n odd clean clean_row packed
writes-requires-4 c = (search rules, search rules, refl)

pub writes-requires-5 : goal.writes-requires-5
unfolding value_of bits_n odd clean clean_row packed
writes-requires-5 c = (search rules, search rules, refl)

pub writes-requires-6 : goal.writes-requires-6
unfolding value_of bits_n odd clean clean_row packed
writes-requires-6 c = (search rules, search rules, refl)

pub writes-requires-7 : goal.writes-requires-7
unfolding value_of bits_n odd clean clean_row packed
writes-requires-7 c = (search rules, search rules, refl)
