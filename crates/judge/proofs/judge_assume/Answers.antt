use Rattle.std.proofs.Common.{rules, ◌+◌, ◌*◌, [], ◌∷◌, ◌||◌, ltb}
use Rattle.format.specs.Refusals.{check}
use Rattle.judge.specs.Checks.{unfit}
use Rattle.judge.proofs.Judged.{refused_more}
use Rattle.judge.proofs.judge_assume.Goals as goal

-- the checks of the state come first, and then those of assume alone
pub returns-in_err-judge_state : goal.returns-in_err-judge_state
returns-in_err-judge_state c =
    let a = c.args in
    let rest = check 7 (ltb a.room a.h.n) ∷ check 8 (ltb a.code 2 || ltb (2 * a.h.n + 1) a.code) ∷ [] in
    let e = refused_more (check 11 (unfit a.h) ∷ check 6 (ltb a.words 4096) ∷ []) rest c.in_err-judge_state.field-0.0 c.in_err-judge_state.ensures in
    search (rules, e)
