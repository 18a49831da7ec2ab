use Rattle.words.specs.Words.{own_word}
use Rattle.tableau.specs.Buffer.{Run}
use Rattle.opening.proofs.mark_row.Given as goal

abbrev pub invariant-loop-j : goal.invariant-loop-j
invariant-loop-j l = Run l.a l.j (λ i. own_word l.q i) l.initial.work l.work
