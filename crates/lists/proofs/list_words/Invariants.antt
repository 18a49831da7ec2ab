use Rattle.std.proofs.Common.{◌*◌, min}
use Rattle.lists.specs.Listing.{WordsPut}
use Rattle.lists.proofs.list_words.Given as goal

abbrev pub invariant-loop-w : goal.invariant-loop-w
invariant-loop-w g l = WordsPut (goal.F-post g l.word) (min (l.w * 64) l.n) l.s l.n l.at l.initial.out l.out l.c
