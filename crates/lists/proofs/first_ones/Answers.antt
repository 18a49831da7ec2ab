use Rattle.std.proofs.Common.{arith, rules}
use Rattle.lists.proofs.Digits.{first_shifted, first_all}
use Rattle.lists.proofs.first_ones.Goals as goal

pub returns-then-k-lt64 : goal.returns-then-k-lt64
returns-then-k-lt64 c = first_shifted c.args.x c.args.k (search rules) (omega arith) (omega arith)

pub returns-else-k-lt64 : goal.returns-else-k-lt64
returns-else-k-lt64 c = first_all c.args.x c.args.k (omega arith)
