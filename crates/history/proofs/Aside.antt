-- A CALL THAT ITS CHECKS REFUSE, whatever buffer it was lent.
--   refused_right   the refusals of a list of checks are right
--   refused_aside   such a refusal, under another number than 10 and 12, is right where it is given, and the header is as it was
-- Assumes nothing.
use mathlib.Core.Path.{◌≡◌, refl, sym, subst}
use mathlib.Core.Bool.{true}
use mathlib.Core.Logic.{inl, inr}
use mathlib.Core.Option.{Option, none, some}
use mathlib.Core.List.{List}
use lib.ListN.{length}
use Prim.Native.Nat.{ℕ, zero, suc}
use borrow.Author.Tests.{ne_eqb}
use Rattle.std.specs.Prelude.{Result, Ok, Err}
use Rattle.gf2.specs.Answers.{Position}
use Rattle.gf2.specs.History.{stuck, unexplained, refused, Right}
use Rattle.format.specs.Refusals.{Check, refusal}
use Rattle.format.specs.declared.Refusal.{Refusal}
use Rattle.format.proofs.Answering.{RefusedOrNot, refused_or, refused_is}
use Rattle.format.proofs.Refusing.{without, never}
use Rattle.judge.specs.declared.Header.{Header}
use Rattle.judge.specs.Checks.{Fit, assume_checks, back_checks, explain_checks}
use Rattle.judge.proofs.LineEleven.{is_fit}
use Rattle.parity.specs.declared.Opening.{Opening}
use Rattle.parity.specs.declared.Opening.TheVariants.{Unsatisfiable, Opened}
use Rattle.parity.specs.declared.Assuming.{Assuming}
use Rattle.parity.specs.declared.Assuming.TheVariants.{Held, Conflict, Taken}
use Rattle.parity.specs.declared.Explained.{Explained}
use Rattle.parity.specs.Promises.{OpenPromise, OpenDone, open_checks, AssumePromise, AssumeLeaves, BackPromise, ExplainPromise, ExplainLeaves}
use Rattle.history.specs.Calls.{Called, opening, assuming, backing, explaining, open_event, assume_event, back_event, explain_event, event, Matches}

-- where something is open, line 11 does not hold
pub refused_right : (s : Option Position) (h : Header) (mem : List ℕ) → Matches h mem s
    → (cs : List Check) → without 10 cs ≡ true → without 12 cs ≡ true → (Fit h → without 11 cs ≡ true)
    → (c : ℕ) → refusal cs ≡ suc c → Right s (refused (suc c))
refused_right none h mem m cs ten twelve eleven c e = (never 10 cs ten c e, never 12 cs twelve c e)
refused_right (some q) h mem m cs ten twelve eleven c e = (never 10 cs ten c e, never 11 cs (eleven m.fit) c e, never 12 cs twelve c e)

module _ (s : Option Position) (h : Header) (mem : List ℕ) (m : Matches h mem s) (other : List ℕ) (k : ℕ) where
  open_aside : (sheet store literals rows store' literals' rows' : List ℕ) (answer : Result Opening Refusal) (h' : Header) (other' : List ℕ)
      → OpenPromise h sheet store other literals rows h' answer store' other' literals' rows'
      → open_event sheet answer h'.kept literals' rows' ≡ refused k → Right s (refused k) × (h' ≡ h)
  open_aside sheet store literals rows store' literals' rows' answer h' other' p f =
      go (refused_or (refusal (open_checks sheet (length store) (length other) (length literals) (length rows)))) f
    where
      done : (a : Result Opening Refusal) → OpenDone sheet store other literals rows h' a store' other' literals' rows'
          → open_event sheet a h'.kept literals' rows' ≡ refused k → Right s (refused k) × (h' ≡ h)
      done (Err r) d f = absurd d.leaves
      done (Ok (Unsatisfiable x)) d f = cc
      done (Ok (Opened x)) d f = cc

      go : RefusedOrNot (refusal (open_checks sheet (length store) (length other) (length literals) (length rows)))
          → open_event sheet answer h'.kept literals' rows' ≡ refused k → Right s (refused k) × (h' ≡ h)
      go (inl w) f =
          let e = p.refused w.0 w.1 in
          let r = refused_is answer (suc w.0) e.0 in
          let cs = open_checks sheet (length store) (length other) (length literals) (length rows) in
          let g : refused (suc w.0) ≡ refused k = rw (r.1, r.2) at f in
          (subst (Right s) g (refused_right s h mem m cs refl refl (λ g. refl) w.0 w.1), e.1)
      go (inr z) f = done answer (p.done z) f

  assume_aside : (code : ℕ) (literals literals' : List ℕ) (answer : Result Assuming Refusal) (h' : Header) (other' : List ℕ)
      → AssumePromise h other literals code h' answer other' literals'
      → assume_event code answer literals' ≡ refused k → Right s (refused k) × (h' ≡ h)
  assume_aside code literals literals' answer h' other' p f = go (refused_or (refusal (assume_checks h (length other) (length literals) code))) f
    where
      done : (a : Result Assuming Refusal) → AssumeLeaves h code h' a other literals other' literals'
          → assume_event code a literals' ≡ refused k → Right s (refused k) × (h' ≡ h)
      done (Err r) l f = let g : stuck code ≡ refused k = rw l.0 at f in cc
      done (Ok Held) l f = cc
      done (Ok (Conflict v)) l f = cc
      done (Ok (Taken x)) l f = cc

      go : RefusedOrNot (refusal (assume_checks h (length other) (length literals) code))
          → assume_event code answer literals' ≡ refused k → Right s (refused k) × (h' ≡ h)
      go (inl w) f =
          let e = p.refused w.0 w.1 in
          let r = refused_is answer (suc w.0) e.0 in
          let cs = assume_checks h (length other) (length literals) code in
          let g : refused (suc w.0) ≡ refused k = rw (r.1, r.2, ne_eqb (suc w.0) 12 (never 12 cs refl w.0 w.1)) at f in
          (subst (Right s) g (refused_right s h mem m cs refl refl (λ f. rw (is_fit h f)) w.0 w.1), e.1)
      go (inr z) f = done answer (p.leaves z) f

  back_aside : (depth number : ℕ) (h' : Header) (other' : List ℕ) → BackPromise h other depth number h' other'
      → back_event depth number ≡ refused k → Right s (refused k) × (h' ≡ h)
  back_aside depth zero h' other' p f = cc
  back_aside depth (suc c) h' other' p f =
      (subst (Right s) f (refused_right s h mem m (back_checks h (length other) depth) refl refl (λ g. rw (is_fit h g)) c (sym p.answer)), (p.refused c refl).0)

  explain_aside : (v : ℕ) (clause rows clause' rows' : List ℕ) (answer : Result Explained Refusal)
      → ExplainPromise h other clause rows v answer clause' rows'
      → explain_event v answer clause' rows' ≡ refused k → Right s (refused k)
  explain_aside v clause rows clause' rows' answer p f = go (refused_or (refusal (explain_checks h (length other) (length clause) (length rows) v))) f
    where
      done : (a : Result Explained Refusal) → ExplainLeaves h a clause rows clause' rows'
          → explain_event v a clause' rows' ≡ refused k → Right s (refused k)
      done (Err r) l f = let g : unexplained v ≡ refused k = rw l.0 at f in cc
      done (Ok x) l f = cc

      go : RefusedOrNot (refusal (explain_checks h (length other) (length clause) (length rows) v))
          → explain_event v answer clause' rows' ≡ refused k → Right s (refused k)
      go (inl w) f =
          let r = refused_is answer (suc w.0) (p.refused w.0 w.1).0 in
          let cs = explain_checks h (length other) (length clause) (length rows) v in
          let g : refused (suc w.0) ≡ refused k = rw (r.1, r.2, ne_eqb (suc w.0) 10 (never 10 cs refl w.0 w.1)) at f in
          subst (Right s) g (refused_right s h mem m cs refl refl (λ f. rw (is_fit h f)) w.0 w.1)
      go (inr z) f = done answer (p.leaves z) f

pub refused_aside : (s : Option Position) {h h' : Header} (mem : List ℕ) {other other' : List ℕ} → Matches h mem s → (c : Called h other h' other') (k : ℕ)
    → event c ≡ refused k → Right s (refused k) × (h' ≡ h)
refused_aside s {h} {h'} mem {other} {other'} m (opening sheet store literals rows store' literals' rows' answer p) k f =
    open_aside s h mem m other k sheet store literals rows store' literals' rows' answer h' other' p f
refused_aside s {h} {h'} mem {other} {other'} m (assuming code literals literals' answer p) k f = assume_aside s h mem m other k code literals literals' answer h' other' p f
refused_aside s {h} {h'} mem {other} {other'} m (backing depth n p) k f = back_aside s h mem m other k depth n h' other' p f
refused_aside s {h} {h'} mem {other} m (explaining v clause rows clause' rows' answer p) k f =
    (explain_aside s h mem m other k v clause rows clause' rows' answer p f, refl)
