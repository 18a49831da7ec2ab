-- LINE 11.
--   not_unfit   a header that is not unfit is fit
--   is_fit      a fit header is not unfit
-- Assumes nothing.
use mathlib.Core.Path.{◌≡◌}
use mathlib.Core.Bool.{false, not}
use Prim.Native.Nat.{min}
use lib.Dec.{eqb, ltb}
use borrow.Author.Tests.{le-ltb, eq-eqb, ltb-false, eqb-true, not-false}
use Rattle.format.proofs.Refusing.{none_either}
use Rattle.judge.specs.declared.Header.{Header}
use Rattle.judge.specs.Checks.{unfit, Fit}

pub not_unfit : (h : Header) → unfit h ≡ false → Fit h
not_unfit h e =
    let a = none_either (not (eqb h.«open» 1)) _ e in
    let b = none_either (ltb 512 h.n) _ a.1 in
    let c = none_either (ltb 256 h.m) _ b.1 in
    let d = none_either (ltb (min h.n h.m) h.kept) (ltb h.n h.depth) c.1 in
    record {
      is_open = eqb-true h.«open» 1 (not-false (eqb h.«open» 1) a.0);
      vars = ltb-false 512 h.n b.0;
      rows = ltb-false 256 h.m c.0;
      kept = ltb-false (min h.n h.m) h.kept d.0;
      depth = ltb-false h.n h.depth d.1;
    }

pub is_fit : (h : Header) → Fit h → unfit h ≡ false
is_fit h f = rw (eq-eqb h.«open» 1 f.is_open, le-ltb 512 h.n f.vars, le-ltb 256 h.m f.rows, le-ltb (min h.n h.m) h.kept f.kept) (le-ltb h.n h.depth f.depth)
