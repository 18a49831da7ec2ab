-- DEMAND 3, from the promises alone: after any calls, each answer is what the definitions give for what is open, and the state matches what is then open.
-- Each call is lent as many words of one memory as its caller says, one that its checks refuse any other buffer, and the state may be copied between calls.
--   some_one, none_some   an answer, or none
--   open_step ..     one call; open_done, opening_step: an opening that is not refused, whatever the header and the words before it
--   demand           any list of calls on a state that matches what is open
--   demand_opened    any list of calls, from an opening on that is not refused, whatever the header and the memory before the first call
--   demand_stands    where any calls leave something open, the state is one that the module made for it, whatever the header and the memory before them
--   counted          the numbers of a header are counted by the definitions; demand_counted: where any calls leave something open
-- Assumes nothing.
use mathlib.Core.Path.{◌≡◌, refl, sym, ap, ◌∙◌, subst}
use mathlib.Core.Bool.{Bool, true, false, true≢false, false≢true, cond}
use mathlib.Core.Logic.{inl, inr}
use mathlib.Core.Option.{Option, none, some}
use mathlib.Core.List.{List, [], ◌∷◌, ◌++◌}
use lib.ListN.{length, take, drop}
use lib.Dec.{eqb}
use Prim.Native.Nat.{ℕ, zero, suc, ◌≤◌}
use native.Mathlib.Omega.{arith}
use borrow.Author.Tests.{ne_eqb}
use Rattle.gf2.specs.Rows.{Var, Rows}
use Rattle.gf2.specs.Answers.{Literal, Position, withdrawn, OpenAnswer, AnswersOpen, AssumeAnswer, held, conflict, implied, AnswersAssume, moved, Explanation}
use Rattle.gf2.specs.History.{Event, opens, assumes, unexplained, stuck, refused, after, Right, Runs, at_end}
use Rattle.gf2.proofs.Literals.{of_range}
use Rattle.gf2.proofs.Parts.{cons_not_nil}
use Rattle.gf2.proofs.Unique.{kept_unique}
use Rattle.gf2.proofs.Chosen.{placed_length}
use Rattle.std.specs.Prelude.{Result, Ok, Err}
use Rattle.format.specs.Refusals.{refusal, number, IsRefused}
use Rattle.format.specs.declared.Refusal.{Refusal}
use Rattle.format.proofs.Answering.{RefusedOrNot, refused_or, refused_is}
use Rattle.format.specs.Sheet.{n_of, sheet_rows}
use Rattle.format.proofs.Refusing.{never}
use Rattle.linear.proofs.Joined.{codes_length}
use Rattle.linear.proofs.Taking.{kept_length}
use Rattle.linear.proofs.Explaining.{made_kept}
use Rattle.judge.specs.declared.Header.{Header}
use Rattle.judge.specs.Checks.{Fit, assume_checks, back_checks, explain_checks}
use Rattle.judge.proofs.LineEleven.{is_fit}
use Rattle.judge.proofs.Judged.{back_judged, assume_judged, explain_judged}
use Rattle.parity.specs.declared.Opening.{Opening}
use Rattle.parity.specs.declared.Opening.TheVariants.{Unsatisfiable, Opened}
use Rattle.parity.specs.declared.Assuming.{Assuming}
use Rattle.parity.specs.declared.Assuming.TheVariants.{Held, Conflict, Taken}
use Rattle.parity.specs.declared.Explained.{Explained}
use Rattle.parity.specs.Promises.{Stands, nothing_open, OpenPromise, OpenDone, open_checks, AssumePromise, AssumeRight, BackPromise, ExplainPromise, ExplainLeaves, ExplainRight}
use Rattle.history.specs.Calls.{Called, opening, assuming, backing, explaining, open_event, assume_event, back_event, explain_event, event, Calls, done, then, aside, copied, events, Matches, Counted}
use Rattle.history.proofs.Aside.{refused_right, refused_aside}
use Rattle.history.proofs.Memory.{front_matches, lent_matches, behind, unchanged}

-- ---- what is needed of answers and checks
pub some_one : {A : Type 0} (x y : A) → some x ≡ some y → x ≡ y
some_one x y e = cc

pub none_some : {A : Type 0} (x : A) → none ≡ some x → ⊥
none_some x e = cc

literal_of : (h : Header) (words room code : ℕ) → refusal (assume_checks h words room code) ≡ 0 → Literal h.n code
literal_of h words room code e = let j = assume_judged h words room code e in of_range h.n code j.3 (let hi = j.4 in omega arith)

-- ---- open
pub open_done : (s₀ : Option Position) (s store work literals rows store' literals' rows' : List ℕ)
    (answer : Result Opening Refusal) (h' : Header) (work' : List ℕ)
    → OpenDone s store work literals rows h' answer store' work' literals' rows'
    → Right s₀ (open_event s answer h'.kept literals' rows') × Matches h' work' (after s₀ (open_event s answer h'.kept literals' rows'))
open_done s₀ s store work literals rows store' literals' rows' (Err r) h' work' d = absurd d.leaves
open_done s₀ s store work literals rows store' literals' rows' (Ok (Unsatisfiable x)) h' work' d =
    (subst (AnswersOpen (n_of s) (sheet_rows s)) (sym (some_one _ d.said d.says)) d.right, λ e. shut d.leaves.0 e)
  where
    shut : h' ≡ nothing_open → h'.«open» ≡ 1 → ⊥
    shut e f = let g : h'.«open» ≡ 0 = ap (λ (k : Header). k.«open») e in absurd (omega arith)
open_done s₀ s store work literals rows store' literals' rows' (Ok (Opened x)) h' work' d =
    (subst (AnswersOpen (n_of s) (sheet_rows s)) (sym (some_one _ d.said d.says)) d.right, d.leaves.4)

open_step : (s₀ : Option Position) (h : Header) (mem : List ℕ) (words : ℕ) (s store literals rows store' literals' rows' : List ℕ)
    (answer : Result Opening Refusal) (h' : Header) (part : List ℕ) → Matches h mem s₀
    → OpenPromise h s store (take words mem) literals rows h' answer store' part literals' rows'
    → Right s₀ (open_event s answer h'.kept literals' rows') × Matches h' (part ++ drop words mem) (after s₀ (open_event s answer h'.kept literals' rows'))
open_step s₀ h mem words s store literals rows store' literals' rows' answer h' part m p =
    go (refused_or (refusal (open_checks s (length store) (length (take words mem)) (length literals) (length rows))))
  where
    go : RefusedOrNot (refusal (open_checks s (length store) (length (take words mem)) (length literals) (length rows)))
        → Right s₀ (open_event s answer h'.kept literals' rows') × Matches h' (part ++ drop words mem) (after s₀ (open_event s answer h'.kept literals' rows'))
    go (inl w) =
        let e = p.refused w.0 w.1 in
        let r = refused_is answer (suc w.0) e.0 in
        let cs = open_checks s (length store) (length (take words mem)) (length literals) (length rows) in
        rw (r.1, r.2) (refused_right s₀ h mem m cs refl refl (λ f. refl) w.0 w.1, unchanged mem part words s₀ e.1 e.3 m)
    go (inr z) =
        let d = open_done s₀ s store (take words mem) literals rows store' literals' rows' answer h' part (p.done z) in
        (d.0, behind h' part (drop words mem) (after s₀ (open_event s answer h'.kept literals' rows')) d.1)

-- ---- assume
assume_step : (s₀ : Option Position) (h : Header) (mem : List ℕ) (words code : ℕ) (literals literals' : List ℕ) (answer : Result Assuming Refusal)
    (h' : Header) (part : List ℕ) → Matches h mem s₀
    → AssumePromise h (take words mem) literals code h' answer part literals'
    → Right s₀ (assume_event code answer literals') × Matches h' (part ++ drop words mem) (after s₀ (assume_event code answer literals'))
assume_step s₀ h mem words code literals literals' answer h' part m p =
    go (refused_or (refusal (assume_checks h (length (take words mem)) (length literals) code))) s₀ m
  where
    given : (q : Position) → Stands h mem q → Literal h.n code → (a said : AssumeAnswer) → a ≡ said → AnswersAssume q code said
        → Stands h' part (moved q code said)
        → Right (some q) (assumes code a) × Matches h' (part ++ drop words mem) (after (some q) (assumes code a))
    given q st l a said e f g = (
      (rw (ap (λ (z : Position). z.n) st.here) l, subst (AnswersAssume q code) (sym e) f),
      behind h' part (drop words mem) (some (moved q code a)) (subst (λ (z : AssumeAnswer). Stands h' part (moved q code z)) (sym e) g),
    )

    right_step : (q : Position) → Stands h mem q → Literal h.n code → (answer : Result Assuming Refusal) → AssumeRight q code h' answer part literals'
        → Right (some q) (assume_event code answer literals') × Matches h' (part ++ drop words mem) (after (some q) (assume_event code answer literals'))
    right_step q st l (Err e) r = absurd (none_some _ r.says)
    right_step q st l (Ok Held) r = given q st l held r.said (some_one held r.said r.says) r.right r.stands
    right_step q st l (Ok (Conflict v)) r = given q st l conflict r.said (some_one conflict r.said r.says) r.right r.stands
    right_step q st l (Ok (Taken x)) r = given q st l (implied (take x literals')) r.said (some_one (implied (take x literals')) r.said r.says) r.right r.stands

    go : RefusedOrNot (refusal (assume_checks h (length (take words mem)) (length literals) code))
        → (s : Option Position) → Matches h mem s
        → Right s (assume_event code answer literals') × Matches h' (part ++ drop words mem) (after s (assume_event code answer literals'))
    go (inl w) s m =
        let e = p.refused w.0 w.1 in
        let r = refused_is answer (suc w.0) e.0 in
        let cs = assume_checks h (length (take words mem)) (length literals) code in
        rw (r.1, r.2, ne_eqb (suc w.0) 12 (never 12 cs refl w.0 w.1))
        (refused_right s h mem m cs refl refl (λ f. rw (is_fit h f)) w.0 w.1, unchanged mem part words s e.1 e.2 m)
    go (inr z) none m = absurd (m (assume_judged h (length (take words mem)) (length literals) code z).0.is_open)
    go (inr z) (some q) m =
        let j = assume_judged h (length (take words mem)) (length literals) code z in
        right_step q m (literal_of h (length (take words mem)) (length literals) code z) answer (p.right z q (lent_matches h mem words (some q) j.1 m))

-- ---- back
back_step : (s₀ : Option Position) (h : Header) (mem : List ℕ) (words depth number : ℕ) (h' : Header) (part : List ℕ)
    → Matches h mem s₀ → BackPromise h (take words mem) depth number h' part
    → Right s₀ (back_event depth number) × Matches h' (part ++ drop words mem) (after s₀ (back_event depth number))
back_step s₀ h mem words depth (suc c) h' part m p =
    let e = p.refused c refl in
    let cs = back_checks h (length (take words mem)) depth in
    (refused_right s₀ h mem m cs refl refl (λ f. rw (is_fit h f)) c (sym p.answer), unchanged mem part words s₀ e.0 e.1 m)
back_step none h mem words depth zero h' part m p = absurd (m (back_judged h (length (take words mem)) depth (sym p.answer)).0.is_open)
back_step (some q) h mem words depth zero h' part m p =
    (deep, behind h' part (drop words mem) (some (withdrawn q depth)) (p.right refl q (lent_matches h mem words (some q) judged.1 m)))
  where
    judged : Fit h × (4096 ≤ length (take words mem)) × (depth ≤ h.depth)
    judged = back_judged h (length (take words mem)) depth (sym p.answer)

    deep : depth ≤ length q.taken
    deep =
        let e : length q.taken ≡ h.depth = ap (λ (z : Position). length z.taken) m.here ∙ codes_length h.depth m.var m.val in
        let l = judged.2 in
        omega arith

-- ---- explain
explain_step : (s₀ : Option Position) (h : Header) (mem : List ℕ) (words v : ℕ) (clause rows clause' rows' : List ℕ) (answer : Result Explained Refusal)
    → Matches h mem s₀
    → ExplainPromise h (take words mem) clause rows v answer clause' rows'
    → Right s₀ (explain_event v answer clause' rows') × Matches h (take words mem ++ drop words mem) (after s₀ (explain_event v answer clause' rows'))
explain_step s₀ h mem words v clause rows clause' rows' answer m p =
    go (refused_or (refusal (explain_checks h (length (take words mem)) (length clause) (length rows) v))) s₀ m
  where
    right_step : (q : Position) → Stands h mem q → Var h.n v → (answer : Result Explained Refusal)
        → ExplainLeaves h answer clause rows clause' rows' → ExplainRight q v answer clause' rows'
        → Right (some q) (explain_event v answer clause' rows')
        × Matches h (take words mem ++ drop words mem) (after (some q) (explain_event v answer clause' rows'))
    right_step q st l (Err e) f r = rw f.0 ((rw (ap (λ (z : Position). z.n) st.here) l, r), unchanged mem (take words mem) words (some q) refl refl st)
    right_step q st l (Ok e) f r = (
      (rw (ap (λ (z : Position). z.n) st.here) l, r.0, subst (Explanation q v) (sym (some_one _ r.1.0 r.1.1)) r.1.2),
      unchanged mem (take words mem) words (some q) refl refl st,
    )

    go : RefusedOrNot (refusal (explain_checks h (length (take words mem)) (length clause) (length rows) v))
        → (s : Option Position) → Matches h mem s
        → Right s (explain_event v answer clause' rows') × Matches h (take words mem ++ drop words mem) (after s (explain_event v answer clause' rows'))
    go (inl w) s m =
        let e = p.refused w.0 w.1 in
        let r = refused_is answer (suc w.0) e.0 in
        let cs = explain_checks h (length (take words mem)) (length clause) (length rows) v in
        rw (r.1, r.2, ne_eqb (suc w.0) 10 (never 10 cs refl w.0 w.1))
        (refused_right s h mem m cs refl refl (λ f. rw (is_fit h f)) w.0 w.1, unchanged mem (take words mem) words s refl refl m)
    go (inr z) none m = absurd (m (explain_judged h (length (take words mem)) (length clause) (length rows) v z).0.is_open)
    go (inr z) (some q) m =
        let j = explain_judged h (length (take words mem)) (length clause) (length rows) v z in
        right_step q m j.4 answer (p.leaves z) (p.right z q (lent_matches h mem words (some q) j.1 m))

-- ---- any calls
called_step : (s : Option Position) {h h' : Header} (mem part : List ℕ) (words : ℕ) → Matches h mem s → (c : Called h (take words mem) h' part)
    → Right s (event c) × Matches h' (part ++ drop words mem) (after s (event c))
called_step s {h} {h'} mem part words m (opening sh store literals rows store' literals' rows' answer p) =
    open_step s h mem words sh store literals rows store' literals' rows' answer h' part m p
called_step s {h} {h'} mem part words m (assuming code literals literals' answer p) = assume_step s h mem words code literals literals' answer h' part m p
called_step s {h} {h'} mem part words m (backing depth number p) = back_step s h mem words depth number h' part m p
called_step s {h} {h'} mem part words m (explaining v clause rows clause' rows' answer p) = explain_step s h mem words v clause rows clause' rows' answer m p

-- DEMAND 3
pub demand : (s : Option Position) {h h' : Header} {mem mem' : List ℕ} → Matches h mem s → (cs : Calls h mem h' mem')
    → Runs s (events cs) × Matches h' mem' (at_end s (events cs))
demand s m done = (tt, m)
demand s {mem = mem} m (then {part = part} words c cs) =
    let e = called_step s mem part words m c in
    let f = demand (after s (event c)) e.1 cs in
    ((e.0, f.0), f.1)
demand s {h} {mem = mem} m (aside {h' = h'} number c e cs) =
    let r = refused_aside s mem m c number e in
    let f = demand s (subst (λ (k : Header). Matches k mem s) (sym r.1) m) cs in
    ((r.0, f.0), f.1)
demand s {h} {mem = mem} m (copied {mem' = mem'} same cs) = demand s (front_matches h mem mem' s same m) cs

-- ---- from an opening on, whatever was there before
abbrev is_opening : Event → Bool
is_opening (opens n rows answer) = true
is_opening e = false

abbrev begins_opening : List Event → Bool
begins_opening [] = false
begins_opening (e ∷ es) = is_opening e

abbrev later_events : List Event → List Event
later_events [] = []
later_events (e ∷ es) = es

-- a refusal is no opening, also where it is an event of its own
refused_as : (own : Event) → is_opening own ≡ false → (b : Bool) (k : ℕ) → is_opening (cond b own (refused k)) ≡ true → ⊥
refused_as own n true k e = false≢true (sym n ∙ e)
refused_as own n false k e = false≢true e

opening_step : (s : Option Position) {h h' : Header} {work work' : List ℕ} (c : Called h work h' work') → is_opening (event c) ≡ true
    → Right s (event c) × Matches h' work' (after s (event c))
opening_step s {h} {h'} {work} {work'} (opening sh store literals rows store' literals' rows' answer p) f =
    go (refused_or (refusal (open_checks sh (length store) (length work) (length literals) (length rows))))
  where
    none_here : (answer : Result Opening Refusal) (k : ℕ) → IsRefused answer k → is_opening (open_event sh answer h'.kept literals' rows') ≡ true → ⊥
    none_here (Ok x) k e g = e
    none_here (Err r) k e g = false≢true g

    go : RefusedOrNot (refusal (open_checks sh (length store) (length work) (length literals) (length rows)))
        → Right s (open_event sh answer h'.kept literals' rows') × Matches h' work' (after s (open_event sh answer h'.kept literals' rows'))
    go (inl w) = absurd (none_here answer (suc w.0) (p.refused w.0 w.1).0 f)
    go (inr z) = open_done s sh store work literals rows store' literals' rows' answer h' work' (p.done z)
opening_step s (assuming code literals literals' answer p) f = absurd (go answer f)
  where
    go : (answer : Result Assuming Refusal) → is_opening (assume_event code answer literals') ≡ true → ⊥
    go (Err r) e = refused_as (stuck code) refl (eqb (number r) 12) (number r) e
    go (Ok Held) e = false≢true e
    go (Ok (Conflict v)) e = false≢true e
    go (Ok (Taken x)) e = false≢true e
opening_step s (backing depth zero p) f = absurd (false≢true f)
opening_step s (backing depth (suc c) p) f = absurd (false≢true f)
opening_step s (explaining v clause rows clause' rows' answer p) f = absurd (go answer f)
  where
    go : (answer : Result Explained Refusal) → is_opening (explain_event v answer clause' rows') ≡ true → ⊥
    go (Err r) e = refused_as (unexplained v) refl (eqb (number r) 10) (number r) e
    go (Ok x) e = false≢true e

after_opening : {h h' h'' : Header} (mem part mem'' : List ℕ) (words : ℕ) (c : Called h (take words mem) h' part)
    (cs : Calls h' (part ++ drop words mem) h'' mem'') → is_opening (event c) ≡ true
    → Runs none (event c ∷ events cs) × Matches h'' mem'' (at_end none (event c ∷ events cs))
after_opening {h' = h'} mem part mem'' words c cs f =
    let e = opening_step none c f in
    let g = demand (after none (event c)) (behind h' part (drop words mem) (after none (event c)) e.1) cs in
    ((e.0, g.0), g.1)

pub demand_opened : {h h' : Header} {mem mem' : List ℕ} (cs : Calls h mem h' mem')
    (before later : List Event) (n : ℕ) (rows : Rows) (answer : OpenAnswer)
    → events cs ≡ before ++ (opens n rows answer ∷ later)
    → Runs none (opens n rows answer ∷ later) × Matches h' mem' (at_end none (opens n rows answer ∷ later))
demand_opened done [] later n rows answer e = absurd (cons_not_nil _ _ (sym e))
demand_opened done (b ∷ before) later n rows answer e = absurd (cons_not_nil _ _ (sym e))
demand_opened {h' = h'} {mem = mem} {mem' = mem'} (then {part = part} words c cs) [] later n rows answer e =
    subst (λ (es : List Event). Runs none es × Matches h' mem' (at_end none es)) e (after_opening mem part mem' words c cs (ap begins_opening e))
demand_opened (then words c cs) (b ∷ before) later n rows answer e = demand_opened cs before later n rows answer (ap later_events e)
demand_opened (aside number c f cs) [] later n rows answer e = absurd (not_opening e)
  where
    not_opening : refused number ∷ events cs ≡ opens n rows answer ∷ later → ⊥
    not_opening g = false≢true (ap begins_opening g)
demand_opened (aside number c f cs) (b ∷ before) later n rows answer e = demand_opened cs before later n rows answer (ap later_events e)
demand_opened (copied same cs) before later n rows answer e = demand_opened cs before later n rows answer e

-- only an opening opens something where nothing is
nothing_after : (e : Event) → is_opening e ≡ false → after none e ≡ none
nothing_after (opens n rows answer) f = absurd (true≢false f)
nothing_after e f = refl

pub demand_stands : {h h' : Header} {mem mem' : List ℕ} (cs : Calls h mem h' mem') (p : Position) → at_end none (events cs) ≡ some p → Stands h' mem' p
demand_stands done p e = absurd (none_some p e)
demand_stands {h' = h'} {mem = mem} {mem' = mem'} (then {part = part} words c cs) p e = go (λ f. demand_stands cs p f) (is_opening (event c)) refl
  where
    go : (at_end none (events cs) ≡ some p → Stands h' mem' p) → (b : Bool) → is_opening (event c) ≡ b → Stands h' mem' p
    go rest true f = subst (Matches h' mem') e (after_opening mem part mem' words c cs f).1
    go rest false f = rest (subst (λ (s : Option Position). at_end s (events cs) ≡ some p) (nothing_after (event c) f) e)
demand_stands (aside number c f cs) p e = demand_stands cs p e
demand_stands (copied same cs) p e = demand_stands cs p e

-- ---- the numbers of a header
pub counted : (h : Header) (work : List ℕ) (p : Position) → Stands h work p → Counted h p
counted h work p st =
    record {
      variables = sym (ap (λ (z : Position). z.n) st.here);
      rows = sym (placed_length h.m suc st.Sheet) ∙ sym (ap (λ (z : Position). length z.rows) st.here);
      depth = sym (codes_length h.depth st.var st.val) ∙ sym (ap (λ (z : Position). length z.taken) st.here);
      kept = λ ks k.
          let s = st.made in
          let own = made_kept h.n h.m st.Sheet st.kept h.depth st.var st.val h.kept s.R s.β s.S s.known s.truth s.made st.is_kept in
          s.made.built.count ∙ sym (kept_length h.m st.Sheet st.kept) ∙ ap length (kept_unique _ _ _ ks own (rw st.here at k));
    }

pub demand_counted : {h h' : Header} {mem mem' : List ℕ} (cs : Calls h mem h' mem') (p : Position) → at_end none (events cs) ≡ some p → Counted h' p
demand_counted {h' = h'} {mem' = mem'} cs p e = counted h' mem' p (demand_stands cs p e)
