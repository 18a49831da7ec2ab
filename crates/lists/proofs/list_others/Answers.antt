use Rattle.std.proofs.Common.{arith, rules}
use Rattle.lists.proofs.Lists.{same_others, few_others}
use Rattle.lists.proofs.list_others.Goals as goal

pub list_words-requires-clause-room : goal.list_words-requires-clause-room
list_words-requires-clause-room c = λ k words le given.
    let a = c.args in
    rw (same_others a.work.now k words a.r a.v.number a.v.first (λ w l. let g = given w l in search rules))
    (few_others a.work.now a.r a.v.number a.n k a.v.first (omega arith) le)

pub returns : goal.returns
returns c =
    let a = c.args in
    let h = c.list_words.ensures in
    rw (same_others a.work.now a.n h.words a.r a.v.number a.v.first (λ w l. let g = h.given w l in search rules)) at h.listed
