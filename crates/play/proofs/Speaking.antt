-- THE PAGES OF A SESSION, written one after another.
--   Speaking      up to here: what was written, and how far the session has come
--   speaking_on   one page more
--   bytes_are     the bytes of a slice are bytes
--   so_far_front, speaking_front   where a write fails, a front of the text of the session is written
--   on_err        what holds, holds on an error
--   fewer         a page brings the end nearer
-- Assumes nothing.
use mathlib.Core.Path.{◌≡◌, refl, sym, subst}
use mathlib.Core.Bool.{Bool, true, false, cond}
use mathlib.Core.List.{List, [], ◌∷◌, ◌++◌}
use Prim.Native.Nat.{ℕ, suc, ◌+◌, ◌-◌, ◌<◌, ◌≤◌}
use native.Mathlib.Omega.{arith}
use lib.ListN.{length, take, drop, length-append}
use Rattle.std.proofs.Common.{Fits, w8, slice_index_or}
use Rattle.std.proofs.lemmas.List.{take-append-le}
use Rattle.std.proofs.Math.Seq.{take-append-add}
use Rattle.std.specs.Prelude.{Option, Result, Ok, Err, OnErr}
use Rattle.std.specs.Io.KnownBytes.{Appends}
use Rattle.gf2.specs.Answers.{Position}
use Rattle.parity.specs.Promises.{Stands}
use Rattle.play.specs.declared.Progress.{Progress}
use Rattle.play.specs.Session.{SessionOn, Commands}
use Rattle.play.specs.Pages.{Continued, SoFar, Paged, InPart, Begun}
use Rattle.play.proofs.Continuing.{so_far_on}
use Rattle.play.proofs.OneText.{Bytes, all_drop, commands_one, session_same}
use Rattle.play.proofs.Putting.{appends_on}

pub record Speaking (s : List ℕ) (old now : Option (List ℕ)) (r : Progress) (work : List ℕ) : Type 0 where
  pub written : List ℕ
  pub grown : Appends old now written
  pub so_far : SoFar (SessionOn s) s r work written

pub speaking_on : {s : List ℕ} {old now new : Option (List ℕ)} {r q : Progress} {work work' page page' : List ℕ}
    → Speaking s old now r work → r.more ≡ true → ((p : Position) → Stands r.header work p → Paged (Commands p (drop r.at s)) s q work' page page')
    → Appends now new (take q.end page') → Speaking s old new q work'
speaking_on {s} {old} {now} {new} {r} {q} {work} {work'} {page} {page'} k e paged grown = record {
  written = k.written ++ take q.end page';
  grown = appends_on old now new k.written (take q.end page') k.grown grown;
  so_far = so_far_on here (paged here.position here.stands).so_far;
}
  where
    here : Continued (SessionOn s) s r.at r.header work k.written
    here = k.so_far.continued e

-- what a u8 is
pub bytes_are : (s : List ℕ) → ((i : ℕ) → Fits w8 (slice_index_or s i 0)) → Bytes s
bytes_are [] f = tt
bytes_are (x ∷ s) f = ((f 0).fits, bytes_are s (λ i. f (suc i)))

pub on_err : {A E : Type 0} (r : Result A E) {P : Type 0} → P → OnErr r P
on_err (Ok x) p = tt
on_err (Err e) p = p

-- a front of what was written, or is to be written, is a front of the text of the session
pub so_far_front : (old new : Option (List ℕ)) {s : List ℕ} {r : Progress} {work text : List ℕ} → Bytes s → SoFar (SessionOn s) s r work text
    → InPart old new text → Begun (SessionOn s) old new
so_far_front old new {s} {r} {work} {text} bytes f (k, l, grown) said says = go r.more refl
  where
    go : (more : Bool) → r.more ≡ more → InPart old new said
    go false e = subst (InPart old new) (session_same (f.whole e) says) (k, l, grown)
    go true e =
        let c = f.continued e in
        let rest = commands_one c.position c.stands.reached (drop r.at s) (all_drop r.at s bytes) in
        let whole : InPart old new (text ++ rest.0) =
        (k, omega (arith, length-append text rest.0), subst (Appends old new) (sym (take-append-le k text rest.0 l)) grown) in
        subst (InPart old new) (session_same (c.after rest.0 rest.1) says) whole

pub speaking_front : (old now new : Option (List ℕ)) {s : List ℕ} {r q : Progress} {work work' page page' : List ℕ} → Bytes s
    → Speaking s old now r work → r.more ≡ true → ((p : Position) → Stands r.header work p → Paged (Commands p (drop r.at s)) s q work' page page')
    → InPart now new (take q.end page') → Begun (SessionOn s) old new
speaking_front old now new {s} {r} {q} {work} {work'} {page} {page'} bytes k e paged (n, l, grown) =
    so_far_front old new bytes (so_far_on here (paged here.position here.stands).so_far) (
      length k.written + n,
      omega (arith, length-append k.written (take q.end page')),
      subst (Appends old new) (sym (take-append-add k.written (take q.end page') n)) (appends_on old now new k.written (take n (take q.end page')) k.grown grown),
    )
  where
    here : Continued (SessionOn s) s r.at r.header work k.written
    here = k.so_far.continued e

pub fewer : (most at next : ℕ) (more again : Bool) → more ≡ true → next ≤ most → (again ≡ true → at < next)
    → cond again (most - next + 1) 0 < cond more (most - at + 1) 0
fewer most at next more true e l f = let h = f refl in rw e (omega arith)
fewer most at next more false e l f = rw e (omega arith)
