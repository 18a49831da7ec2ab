use Rattle.std.proofs.Common.{rules}
use Rattle.lists.proofs.Lists.{same_known, few_ones}
use Rattle.lists.proofs.list_known.Goals as goal

pub list_words-requires-clause-room : goal.list_words-requires-clause-room
list_words-requires-clause-room c = λ k words le given. few_ones words 2 _ k le

pub returns : goal.returns
returns c =
    let h = c.list_words.ensures in
    rw (same_known c.args.work.now c.args.n h.words (λ w l. let g = h.given w l in search rules)) at h.listed
