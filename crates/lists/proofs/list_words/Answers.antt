use Rattle.std.proofs.Common.{arith, ◌*◌}
use Rattle.lists.specs.Listing.{items}
use Rattle.lists.proofs.ByWord.{Turn, words_start, words_turn}
use Rattle.lists.proofs.list_words.Goals as goal
use Rattle.lists.proofs.list_words.Goals.{After-list_word-arg-1}

-- the turn of the loop
turn : (g : _) (c : After-list_word-arg-1 g)
    → let a = c.args in
    let l = c.loop-w in
    Turn (goal.F-post g a.word) a.n a.s a.at l.w a.out.now l.out l.c (items 64 c.first_ones.result c.word-x.result.1 a.s (l.w * 64))
turn g c =
    let a = c.args in
    let l = c.loop-w in
    words_turn _ a.n a.s a.at l.w _ _ _ a.out.now l.out l.c c.requires.room (omega arith) (omega arith) l.invariant c.word-x.ensures c.first_ones.ensures

pub loop-w-init : goal.loop-w-init
loop-w-init g c = words_start _ _ _ _ _ c.requires.room

pub list_word-c-requires : goal.list_word-c-requires
list_word-c-requires g c = (omega arith, omega arith, (turn g c).room)

pub loop-w-preserved : goal.loop-w-preserved
loop-w-preserved g c = (turn g (goal.at.loop-w-preserved g c).After-list_word-arg-1).turn _ _ _ c.list_word-c.ensures
