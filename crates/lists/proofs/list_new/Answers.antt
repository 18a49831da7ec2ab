use Rattle.std.proofs.Common.{rules}
use Rattle.lists.proofs.Lists.{same_new, few_ones}
use Rattle.lists.proofs.list_new.Goals as goal

pub list_words-requires-clause-room : goal.list_words-requires-clause-room
list_words-requires-clause-room c = λ k words le given. few_ones words 2 _ k le

pub returns : goal.returns
returns c =
    let a = c.args in
    let h = c.list_words.ensures in
    rw (same_new a.work.now a.n h.words a.old.now a.v.number a.v.first (λ w l. let g = h.given w l in search rules)) at h.listed
