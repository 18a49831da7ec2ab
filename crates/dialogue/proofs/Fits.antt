-- THE LISTS OF AN ANSWER LIE WITHIN THEIR BUFFERS, by the promise of the call that gave it.
--   open_fits, assume_fits, explain_fits   the lists of an opening, of an assume, of an explain
-- Assumes nothing.
use mathlib.Core.Path.{◌≡◌, refl}
use mathlib.Core.List.{List}
use Prim.Native.Nat.{ℕ, zero, suc, ◌≤◌}
use native.Mathlib.Omega.{arith}
use lib.ListN.{length}
use Rattle.std.specs.Prelude.{Result, Ok, Err}
use Rattle.format.specs.Refusals.{refusal}
use Rattle.format.specs.Sheet.{n_of, m_of}
use Rattle.format.specs.declared.Refusal.{Refusal}
use Rattle.judge.specs.declared.Header.{Header}
use Rattle.judge.specs.Checks.{assume_checks, explain_checks}
use Rattle.judge.proofs.Judged.{assume_judged, explain_judged}
use Rattle.parity.specs.declared.Opening.{Opening}
use Rattle.parity.specs.declared.Opening.TheVariants.{Unsatisfiable, Opened}
use Rattle.parity.specs.declared.Assuming.{Assuming}
use Rattle.parity.specs.declared.Assuming.TheVariants.{Held, Conflict, Taken}
use Rattle.parity.specs.declared.Explained.{Explained}
use Rattle.parity.specs.Promises.{open_checks, OpenLeaves, OpenPromise, AssumeLeaves, AssumePromise, ExplainLeaves, ExplainPromise}
use Rattle.parity.proofs.Opens.{open_judged}
use Rattle.dialogue.specs.Steps.{OpeningFits, AssumingFits, ExplainingFits}

-- ---- open

open_leaves : (s : List ℕ) (h : Header) (a : Opening) (work literals rows literals' rows' : List ℕ) → n_of s ≤ 512 → m_of s ≤ 256 → n_of s ≤ length literals → m_of s ≤ length rows
    → OpenLeaves s h (Ok a) work literals rows literals' rows' → OpeningFits (Ok a) literals' rows'
open_leaves s h (Unsatisfiable x) work literals rows literals' rows' n m a b l = let e = l.3.long in let u = l.1 in (omega arith, omega arith)
open_leaves s h (Opened x) work literals rows literals' rows' n m a b l = let e = l.2.long in let u = l.1 in (omega arith, omega arith)

pub open_fits : {old : Header} {s store work literals rows : List ℕ} {h : Header} {answer : Result Opening Refusal} {store' work' literals' rows' : List ℕ}
    → OpenPromise old s store work literals rows h answer store' work' literals' rows' → OpeningFits answer literals' rows'
open_fits {answer = Err r} p = tt
open_fits {old} {s} {store} {work} {literals} {rows} {h} {answer = Ok a} {store'} {work'} {literals'} {rows'} p = go (refusal (open_checks s (length store) (length work) (length literals) (length rows))) refl
  where
    go : (r : ℕ) → refusal (open_checks s (length store) (length work) (length literals) (length rows)) ≡ r → OpeningFits (Ok a) literals' rows'
    go (suc c) e = absurd (p.refused c e).0
    go zero e =
        let j = open_judged s (length store) (length work) (length literals) (length rows) e in
        open_leaves s h a work' literals rows literals' rows' j.0.n_small j.0.m_small j.2 j.3 (p.done e).leaves

-- ---- assume

assume_leaves : (old : Header) (code : ℕ) (h : Header) (a : Assuming) (work literals work' literals' : List ℕ) → old.n ≤ 512 → old.n ≤ length literals
    → AssumeLeaves old code h (Ok a) work literals work' literals' → AssumingFits (Ok a) literals'
assume_leaves old code h Held work literals work' literals' n a l = tt
assume_leaves old code h (Conflict v) work literals work' literals' n a l = tt
assume_leaves old code h (Taken x) work literals work' literals' n a l = let e = l.4.long in let u = l.2 in (omega arith, omega arith)

pub assume_fits : {old : Header} {work literals : List ℕ} {code : ℕ} {h : Header} {answer : Result Assuming Refusal} {work' literals' : List ℕ}
    → AssumePromise old work literals code h answer work' literals' → AssumingFits answer literals'
assume_fits {answer = Err r} p = tt
assume_fits {old} {work} {literals} {code} {h} {answer = Ok a} {work'} {literals'} p = go (refusal (assume_checks old (length work) (length literals) code)) refl
  where
    go : (r : ℕ) → refusal (assume_checks old (length work) (length literals) code) ≡ r → AssumingFits (Ok a) literals'
    go (suc c) e = absurd (p.refused c e).0
    go zero e =
        let j = assume_judged old (length work) (length literals) code e in
        assume_leaves old code h a work literals work' literals' j.0.vars j.2 (p.leaves e)

-- ---- explain

explain_leaves : (h : Header) (x : Explained) (clause rows clause' rows' : List ℕ) → h.n ≤ 512 → h.m ≤ 256 → h.n ≤ length clause → h.m ≤ length rows
    → ExplainLeaves h (Ok x) clause rows clause' rows' → ExplainingFits (Ok x) clause' rows'
explain_leaves h x clause rows clause' rows' n m a b l =
    let u = l.0 in let v = l.1 in let e = l.2.long in let f = l.3.long in (omega arith, omega arith, omega arith, omega arith)

pub explain_fits : {h : Header} {work clause rows : List ℕ} {v : ℕ} {answer : Result Explained Refusal} {clause' rows' : List ℕ}
    → ExplainPromise h work clause rows v answer clause' rows' → ExplainingFits answer clause' rows'
explain_fits {answer = Err r} p = tt
explain_fits {h} {work} {clause} {rows} {v} {answer = Ok x} {clause'} {rows'} p = go (refusal (explain_checks h (length work) (length clause) (length rows) v)) refl
  where
    go : (r : ℕ) → refusal (explain_checks h (length work) (length clause) (length rows) v) ≡ r → ExplainingFits (Ok x) clause' rows'
    go (suc c) e = absurd (p.refused c e).0
    go zero e =
        let j = explain_judged h (length work) (length clause) (length rows) v e in
        explain_leaves h x clause rows clause' rows' j.0.vars j.0.rows j.2 j.3 (p.leaves e)
