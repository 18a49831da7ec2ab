use Rattle.std.proofs.Common.{arith, rules, ◌*◌, ◌+◌, ◌-◌, ◌≡◌}
use Rattle.exchange.proofs.Partners.{lack_made, scan_start, scan_end, scan_top, scan_under, scan_next}
use Rattle.exchange.proofs.partner.Goals as goal

-- in full, so that the edit that passes over the true ones is refused at the place of the word
pub loop-i-init : goal.loop-i-init
loop-i-init c =
    let a = c.args in
    let s = c.scan in
    let made = lack_made a.work.now a.r s.w _ _ c.without.ensures (omega arith) in
    (s.invariant.0, rw c.into_iter-i-iterator.ensures.into_iter_gives (scan_start a.work.now a.r (a.v.number - 1) s.w _ made (search rules) s.invariant.1))

pub loop-i-preserved : goal.loop-i-preserved
loop-i-preserved c =
    let l = c.loop-i in
    (l.invariant.0, scan_next _ _ _ _ _ l.invariant.1 _ _ c.in-Some.ensures.steps (omega (arith, c.if-u-v.false)))

pub scan-preserved : goal.scan-preserved
scan-preserved c =
    let l = c.loop-i in (l.invariant.0, scan_end _ _ _ _ _ l.invariant.1 c.in-None.ensures.steps.0)

pub returns-then-u-v : goal.returns-then-u-v
returns-then-u-v c =
    let l = c.loop-i in
    let w = c.scan.w in
    let i = c.in-Some.i in
    let t = c.in-Some.ensures.steps in
    let p = t.place in
    let e : w * 64 + i + 1 - 1 ≡ w * 64 + i = omega arith in
    record {
      first = omega arith;
      last = omega arith;
      other = λ z. c.if-u-v.true (omega arith);
      free = rw e (scan_top _ _ _ _ _ l.invariant.1 _ _ t);
      least = λ j h. scan_under _ _ _ _ _ l.invariant.1 _ _ t j (omega arith);
    }
