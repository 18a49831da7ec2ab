-- WHAT A CALL MAY RELY ON once no check holds; and where that is so, no check holds.
--   back_judged, assume_judged, explain_judged   the header is within its bounds, the buffers are long enough, and the number offered is in range
--   refused_more   a refusal that the first of some checks come to, they all come to
--   back_passes, assume_passes, explain_passes   the other way round
-- Assumes nothing.
use mathlib.Core.List.{List, ◌++◌}
use mathlib.Core.Path.{◌≡◌, refl, sym, ◌∙◌}
use Prim.Native.Nat.{ℕ, suc, ◌+◌, ◌-◌, ◌*◌, ◌≤◌}
use native.Mathlib.Omega.{arith}
use lib.Dec.{ltb}
use borrow.Author.Tests.{le-ltb, ltb-false}
use Rattle.gf2.specs.Rows.{Var}
use Rattle.format.specs.Refusals.{Check, refusal, number}
use Rattle.format.specs.declared.Refusal.{Refusal}
use Rattle.format.proofs.Answering.{number_pos}
use Rattle.format.proofs.Refusing.{accepted, append-some, none_either}
use Rattle.judge.specs.declared.Header.{Header}
use Rattle.judge.specs.Checks.{Fit, assume_checks, back_checks, explain_checks}
use Rattle.judge.proofs.LineEleven.{not_unfit, is_fit}

pub refused_more : (cs ds : List Check) (r : Refusal) → number r ≡ refusal cs → number r ≡ refusal (cs ++ ds)
refused_more cs ds r e =
    let p = number_pos r in
    let q : number r ≡ suc (number r - 1) = omega (arith, p) in
    q ∙ sym (append-some cs ds (number r - 1) (sym e ∙ q))

pub back_judged : (h : Header) (words depth : ℕ) → refusal (back_checks h words depth) ≡ 0 → Fit h × (4096 ≤ words) × (depth ≤ h.depth)
back_judged h words depth e =
    let a = accepted (back_checks h words depth) refl e in
    (not_unfit h a.0, ltb-false words 4096 a.1.0, ltb-false h.depth depth a.1.1.0)

pub assume_judged : (h : Header) (words room code : ℕ) → refusal (assume_checks h words room code) ≡ 0 → Fit h × (4096 ≤ words) × (h.n ≤ room) × (2 ≤ code) × (code ≤ 2 * h.n + 1)
assume_judged h words room code e =
    let a = accepted (assume_checks h words room code) refl e in
    let b = none_either (ltb code 2) (ltb (2 * h.n + 1) code) a.1.1.1.0 in
    (not_unfit h a.0, ltb-false words 4096 a.1.0, ltb-false room h.n a.1.1.0, ltb-false code 2 b.0, ltb-false (2 * h.n + 1) code b.1)

pub explain_judged : (h : Header) (words codes numbers v : ℕ) → refusal (explain_checks h words codes numbers v) ≡ 0 → Fit h × (4096 ≤ words) × (h.n ≤ codes) × (h.m ≤ numbers) × Var h.n v
explain_judged h words codes numbers v e =
    let a = accepted (explain_checks h words codes numbers v) refl e in
    let b = none_either (ltb codes h.n) (ltb numbers h.m) a.1.1.0 in
    let c = none_either (ltb v 1) (ltb h.n v) a.1.1.1.0 in
    (not_unfit h a.0, ltb-false words 4096 a.1.0, ltb-false codes h.n b.0, ltb-false numbers h.m b.1, record { low = ltb-false v 1 c.0; high = ltb-false h.n v c.1 })

pub back_passes : (h : Header) (words depth : ℕ) → Fit h → 4096 ≤ words → depth ≤ h.depth → refusal (back_checks h words depth) ≡ 0
back_passes h words depth f w d = rw (is_fit h f, le-ltb words 4096 w, le-ltb h.depth depth d)

pub assume_passes : (h : Header) (words room code : ℕ) → Fit h → 4096 ≤ words → h.n ≤ room → 2 ≤ code → code ≤ 2 * h.n + 1 → refusal (assume_checks h words room code) ≡ 0
assume_passes h words room code f w r lo hi = rw (is_fit h f, le-ltb words 4096 w, le-ltb room h.n r, le-ltb code 2 lo, le-ltb (2 * h.n + 1) code hi)

pub explain_passes : (h : Header) (words codes numbers v : ℕ) → Fit h → 4096 ≤ words → h.n ≤ codes → h.m ≤ numbers → Var h.n v → refusal (explain_checks h words codes numbers v) ≡ 0
explain_passes h words codes numbers v f w c r x =
    rw (is_fit h f, le-ltb words 4096 w, le-ltb codes h.n c, le-ltb numbers h.m r, le-ltb v 1 x.low, le-ltb h.n v x.high)
