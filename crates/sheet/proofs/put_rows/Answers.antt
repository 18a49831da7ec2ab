use Rattle.std.proofs.Common.{ℕ, Bool, List, add-one, ap, arith, drop, mul-le-mul_right, rules, suc, ◌*◌, ◌+◌, ◌∙◌, ◌≤◌}
use Rattle.format.proofs.Bytes.{length-bits_of}
use Rattle.format.proofs.Packed.{length-body_bits}
use Rattle.format.proofs.Puts.{put_at-none, put_at-next}
use Rattle.format.specs.Bits.{bits_of, put_at}
use Rattle.format.specs.Sheet.{row_bits, body_bits}
use Rattle.sheet.proofs.Parts.{rest_is}
use Rattle.sheet.proofs.put_rows.Goals as goal

pub loop-r-init : goal.loop-r-init
unfolding body_bits
loop-r-init c = (omega arith, search rules, put_at-none (bits_of c.args.out.now) c.args.at.at)

pub loop-r-preserved : goal.loop-r-preserved
unfolding body_bits
loop-r-preserved c =
    let a = c.args in
    let l = c.loop-r in
    let put = c.put_row-c in
    let bs = bits_of a.out.now in
    let ws = a.store.now in
    let h : suc l.r * (a.shape.n + 1) ≤ a.shape.m * (a.shape.n + 1) = mul-le-mul_right (a.shape.n + 1) (omega arith) in
    let ls = length-body_bits a.shape.n l.r ws (omega arith) in (
      omega (arith, put.ensures.1),
      put.auto.out ∙ l.invariant.1,
      rw add-one (put.ensures.0
          ∙ ap (λ (row : List ℕ). put_at (bits_of l.out) l.c.at (row_bits a.shape.n row)) (rest_is ws (9 * l.r))
          ∙ ap (λ (r : List Bool). put_at r l.c.at (row_bits a.shape.n (drop (9 * l.r) ws))) l.invariant.2
          ∙ put_at-next bs a.at.at (body_bits a.shape.n l.r ws) (row_bits a.shape.n (drop (9 * l.r) ws)) l.c.at (omega (arith, ls)) (omega (arith, length-bits_of a.out.now, h))),
    )
