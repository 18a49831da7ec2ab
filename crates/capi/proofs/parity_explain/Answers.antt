use Rattle.std.proofs.Common.{Err, ap}
use Rattle.capi.proofs.parity_explain.Goals as goal

-- in full, so that the edit is refused at the struct
pub returns-in-Err : goal.returns-in-Err
returns-in-Err c = record { answer = Err c.in-Err.r; promise = c.in-Err.ensures; numbers = ap (λ k. record { number = k; clause = 0; rows = 0 }) c.number.ensures }
