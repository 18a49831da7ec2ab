use Rattle.std.proofs.Common.{add-one, ap, arith, drop, get_or, rules, sym, ℕ, ◌%◌, ◌*◌, ◌/◌, ◌^◌, ◌∙◌, ◌≡◌}
use Rattle.format.proofs.Clean.{row_cleaned, past_none, past_more, row_spoiled}
use Rattle.format.specs.Bits.{value_of}
use Rattle.format.specs.Sheet.{packed}
use Rattle.sheet.proofs.clean_row.Goals as goal

pub loop-w-init : goal.loop-w-init
loop-w-init c =
    let a = c.args in
    (omega arith, search rules, past_none a.shape.n (a.shape.n / 64) a.row.now (omega arith))

pub returns-then-past-gt0 : goal.returns-then-past-gt0
returns-then-past-gt0 c =
    let a = c.args in
    let l = c.loop-w in
    let ws = a.row.now in
    let e : c.raised-past.result ≡ get_or ws l.w 0 * 2 ^ l.left % 2 ^ 64 = c.raised-past.ensures in
    sym (row_spoiled a.shape.n l.w l.left c.raised-past.result ws l.invariant.0 l.invariant.1 e (omega arith) (omega arith))

pub loop-w-preserved : goal.loop-w-preserved
loop-w-preserved c =
    let a = c.args in
    let l = c.loop-w in
    let ws = a.row.now in
    let e : c.raised-past.result ≡ get_or ws l.w 0 * 2 ^ l.left % 2 ^ 64 = c.raised-past.ensures in
    (omega arith, search rules, rw add-one (past_more a.shape.n l.w l.left c.raised-past.result ws l.invariant.0 l.invariant.1 e l.invariant.2 (omega arith)))

pub returns : goal.returns
returns c =
    let a = c.args in
    let l = c.loop-w in
    let ws = a.row.now in
    let w8 : l.w ≡ 8 = omega arith in
    let z : value_of (drop a.shape.n (packed 8 ws)) ≡ 0 = ap (λ (k : ℕ). value_of (drop a.shape.n (packed k ws))) (sym w8) ∙ l.invariant.2 in
    sym (row_cleaned a.shape.n ws z)
