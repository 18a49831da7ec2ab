use Rattle.std.proofs.Common.{arith, get_or, refl, rules, ◌%◌, ◌*◌, ◌+◌, ◌-◌, ◌/◌, ◌^◌, ◌∙◌, ◌≡◌}
use Rattle.format.proofs.Bytes.{length-bits_of}
use Rattle.format.proofs.Packed.{words_step, row_put}
use Rattle.format.proofs.Puts.{put_at-none}
use Rattle.format.specs.Bits.{bits_of}
use Rattle.format.specs.Sheet.{packed}
use Rattle.sheet.proofs.put_row.Goals as goal

pub loop-w-init : goal.loop-w-init
unfolding packed
loop-w-init c =
    let a = c.args in
    (refl, search rules, put_at-none (bits_of a.out.now) a.at.at)

pub loop-w-preserved : goal.loop-w-preserved
loop-w-preserved c =
    let a = c.args in
    let l = c.loop-w in
    let p = c.put-c in (
      p.auto.s ∙ l.invariant.0,
      omega (arith, p.ensures.1),
      words_step (bits_of a.out.now) (bits_of l.out) (bits_of p.new.s) a.at.at l.c.at l.w (get_or a.row.now l.w 0) a.row.now (omega arith) (rw length-bits_of (omega arith)) refl l.invariant.2 p.ensures.0,
    )

pub returns : goal.returns
returns c =
    let a = c.args in
    let l = c.loop-w in
    let v = c.last_bits-v in
    let p = c.put in
    let last : v.result ≡ get_or a.row.now (a.shape.n / 64) 0 / 2 ^ (64 - a.shape.n % 64) * 2 ^ 1 + get_or a.row.now 8 0 % 2 ^ 1 = omega (arith, v.ensures) in (
      row_put (bits_of a.out.now) (bits_of l.out) (bits_of p.new.s) a.at.at a.shape.n l.w l.c.at a.row.now v.result (omega arith) (rw length-bits_of (omega arith)) (omega arith) (omega arith) l.invariant.2 last p.ensures.0,
      omega (arith, p.ensures.1),
    )
