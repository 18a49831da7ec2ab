use Rattle.std.proofs.Common.{rules}
use Rattle.capi.proofs.parity_assume.Goals as goal

-- in full, so that the edits are refused at the struct
pub returns-in-Ok-Held : goal.returns-in-Ok-Held
returns-in-Ok-Held c =
    let a = c.assume-answer in
    record { answer = a.result.answer; after = a.result.header; promise = a.ensures; numbers = search rules }

pub returns-in-Ok-Conflict : goal.returns-in-Ok-Conflict
returns-in-Ok-Conflict c =
    let a = c.assume-answer in
    record { answer = a.result.answer; after = a.result.header; promise = a.ensures; numbers = search rules }
