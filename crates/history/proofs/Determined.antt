-- EACH PROMISE DETERMINES ITS RESULT: two results that one promise allows are the same.
--   OpenRefusal, AssumeRefusal, ExplainRefusal   what the checks of a call come to: the number of its refusal, or 0
--   OpenSame, AssumeSame, ExplainSame   two results of a call are the same, so far as its promise determines them
--   same_buffer          two answer buffers with the same used part are equal
--   open_keeps, back_keeps, assume_keeps   for every input: the working buffer keeps its length, and what it had past its first 4,096 words
--   open_determined      for every input: answer, header, row store and answer buffers
--   back_determined      for every input: number and header
--   assume_determined, explain_determined   for every input that the checks refuse, and on a state that the module made: answer, header and answer buffers
--   open_both, assume_both, explain_both    the same from two working buffers of which the checks say the same, and which, but for open, stand for one position
-- Of the working buffer the length and the words past the first 4,096 are determined too. Its first 4,096 words are not,
-- nor are the answers on a foreign state where the checks refuse nothing.
-- Assumes nothing.
use mathlib.Core.Path.{◌≡◌, refl, sym, ap, ap₂, ◌∙◌}
use mathlib.Core.Logic.{inl, inr}
use mathlib.Core.List.{List, ◌++◌}
use lib.ListN.{length, take, drop, take-append-drop, length-take}
use lib.Dec.{ltb}
use Prim.Native.Nat.{ℕ, zero, suc, ◌≤◌}
use native.Mathlib.Omega.{arith}
use borrow.Author.Tests.{ltb-false}
use Rattle.gf2.specs.Answers.{Position, opened, unsatisfiable, implied, ExplainAnswer, Reached}
use Rattle.gf2.proofs.Unique.{open_unique, assume_unique}
use Rattle.gf2.proofs.Explained.{explain_unique}
use Rattle.gf2.proofs.Reach.{reached_solution}
use Rattle.std.specs.Prelude.{Result, Ok, Err}
use Rattle.format.specs.Refusals.{refusal}
use Rattle.format.specs.declared.Refusal.{Refusal}
use Rattle.format.proofs.Answering.{number_same, RefusedOrNot, refused_or, refused_same}
use Rattle.format.specs.Sheet.{n_of, m_of, sheet_rows}
use Rattle.format.proofs.Refusing.{accepted, none_either}
use Rattle.judge.specs.declared.Header.{Header}
use Rattle.judge.specs.Checks.{assume_checks, explain_checks}
use Rattle.tableau.specs.Layout.{size}
use Rattle.parity.specs.declared.Opening.{Opening}
use Rattle.parity.specs.declared.Opening.TheVariants.{Unsatisfiable, Opened}
use Rattle.parity.specs.declared.Assuming.{Assuming}
use Rattle.parity.specs.declared.Assuming.TheVariants.{Held, Conflict, Taken}
use Rattle.parity.specs.declared.Explained.{Explained}
use Rattle.parity.specs.Promises.{Stands, Used, Worked, OpenPromise, OpenDone, open_checks, opens_with, AssumePromise, AssumeRight, AssumeLeaves, BackPromise, ExplainPromise, ExplainRight, ExplainLeaves}
use Rattle.history.proofs.Demand.{some_one}

-- ---- buffers
used : (x : ℕ) (a : List ℕ) → x ≤ length a → length (take x a) ≡ x
used x a l = let e = length-take x a in omega arith

pub same_buffer : (x y : ℕ) (old a b : List ℕ) → Used x old a → Used y old b → x ≤ length old → y ≤ length old → take x a ≡ take y b → (x ≡ y) × (a ≡ b)
same_buffer x y old a b p q lx ly e = (same, sym (take-append-drop x a) ∙ ap₂ ◌++◌ e (p.rest ∙ ap (λ (z : ℕ). drop z old) same ∙ sym q.rest) ∙ take-append-drop y b)
  where
    same : x ≡ y
    same =
        let f = used x a (let h = p.long in omega arith) in
        let g = used y b (let h = q.long in omega arith) in
        let k : length (take x a) ≡ length (take y b) = ap length e in
        omega arith

as_it_was : {work work₁ : List ℕ} → work₁ ≡ work → Worked work work₁
as_it_was e = record { long = ap length e; rest = ap (λ (z : List ℕ). drop size z) e }

-- ---- open
pub record OpenSame (h k : Header) (x y : Result Opening Refusal) (store store' work work' literals literals' rows rows' : List ℕ) : Type 0 where
  pub header : h ≡ k
  pub answer : x ≡ y
  pub filled : store ≡ store'
  pub long : length work ≡ length work'
  pub past : drop size work ≡ drop size work'
  pub listed : literals ≡ literals'
  pub numbers : rows ≡ rows'

abbrev pub OpenRefusal : List ℕ → List ℕ → List ℕ → List ℕ → List ℕ → ℕ
OpenRefusal s store work literals rows = refusal (open_checks s (length store) (length work) (length literals) (length rows))

pub open_keeps : (old : Header) (s store work literals rows : List ℕ) (h : Header) (x : Result Opening Refusal) (store₁ work₁ literals₁ rows₁ : List ℕ)
    → OpenPromise old s store work literals rows h x store₁ work₁ literals₁ rows₁ → Worked work work₁
open_keeps old s store work literals rows h x store₁ work₁ literals₁ rows₁ p = go (refused_or (OpenRefusal s store work literals rows))
  where
    go : RefusedOrNot (OpenRefusal s store work literals rows) → Worked work work₁
    go (inl w) = as_it_was (p.refused w.0 w.1).3
    go (inr z) = (p.done z).worked

-- two working buffers of which the checks say the same: what they hold does not matter
module _ (old : Header) (s store work work' literals rows : List ℕ)
    (same : OpenRefusal s store work' literals rows ≡ OpenRefusal s store work literals rows) where
  room : OpenRefusal s store work literals rows ≡ 0 → (n_of s ≤ length literals) × (m_of s ≤ length rows)
  room z =
      let a = accepted (open_checks s (length store) (length work) (length literals) (length rows)) refl z in
      let f = none_either (ltb (length literals) (n_of s)) (ltb (length rows) (m_of s)) a.1.1.1.1.1.1.1.1.0 in
      (ltb-false (length literals) (n_of s) f.0, ltb-false (length rows) (m_of s) f.1)

  pub open_both : (h k : Header) (x y : Result Opening Refusal) (store₁ store₂ work₁ work₂ literals₁ literals₂ rows₁ rows₂ : List ℕ)
      → OpenPromise old s store work literals rows h x store₁ work₁ literals₁ rows₁ → OpenPromise old s store work' literals rows k y store₂ work₂ literals₂ rows₂
      → (h ≡ k) × (x ≡ y) × (store₁ ≡ store₂) × (literals₁ ≡ literals₂) × (rows₁ ≡ rows₂)
  open_both h k x y store₁ store₂ work₁ work₂ literals₁ literals₂ rows₁ rows₂ p q = go (refused_or (OpenRefusal s store work literals rows))
    where
      both : (z : OpenRefusal s store work literals rows ≡ 0) (x y : Result Opening Refusal)
          (d : OpenDone s store work literals rows h x store₁ work₁ literals₁ rows₁)
          (e : OpenDone s store work' literals rows k y store₂ work₂ literals₂ rows₂)
          → d.said ≡ e.said → (h ≡ k) × (x ≡ y) × (store₁ ≡ store₂) × (literals₁ ≡ literals₂) × (rows₁ ≡ rows₂)
      both z (Err r) y d e f = absurd d.leaves
      both z (Ok (Unsatisfiable a)) (Err r) d e f = absurd e.leaves
      both z (Ok (Opened a)) (Err r) d e f = absurd e.leaves
      both z (Ok (Unsatisfiable a)) (Ok (Opened b)) d e f = let g = d.says in let i = e.says in cc
      both z (Ok (Opened a)) (Ok (Unsatisfiable b)) d e f = let g = d.says in let i = e.says in cc
      both z (Ok (Unsatisfiable a)) (Ok (Unsatisfiable b)) d e f =
          let g : unsatisfiable (take a rows₁) ≡ unsatisfiable (take b rows₂) = some_one _ d.said d.says ∙ f ∙ sym (some_one _ e.said e.says) in
          let la = d.leaves.1 in
          let lb = e.leaves.1 in
          let r = (room z).1 in
          let w = same_buffer a b rows rows₁ rows₂ d.leaves.3 e.leaves.3 (omega arith) (omega arith) cc in
          (d.leaves.0 ∙ sym e.leaves.0, ap (λ (u : ℕ). Ok (Unsatisfiable u)) w.0, d.filled ∙ sym e.filled, d.leaves.2 ∙ sym e.leaves.2, w.1)
      both z (Ok (Opened a)) (Ok (Opened b)) d e f =
          let g : opened h.kept (take a literals₁) ≡ opened k.kept (take b literals₂) = some_one _ d.said d.says ∙ f ∙ sym (some_one _ e.said e.says) in
          let la = d.leaves.1 in
          let lb = e.leaves.1 in
          let r = (room z).0 in
          let w = same_buffer a b literals literals₁ literals₂ d.leaves.2 e.leaves.2 (omega arith) (omega arith) cc in (
            d.leaves.0 ∙ ap (opens_with (n_of s) (m_of s)) (cc) ∙ sym e.leaves.0,
            ap (λ (u : ℕ). Ok (Opened u)) w.0,
            d.filled ∙ sym e.filled,
            w.1,
            d.leaves.3 ∙ sym e.leaves.3,
          )

      go : RefusedOrNot (OpenRefusal s store work literals rows)
          → (h ≡ k) × (x ≡ y) × (store₁ ≡ store₂) × (literals₁ ≡ literals₂) × (rows₁ ≡ rows₂)
      go (inl w) =
          let a = p.refused w.0 w.1 in
          let b = q.refused w.0 (same ∙ w.1) in
          (a.1 ∙ sym b.1, refused_same x y (suc w.0) a.0 b.0, a.2 ∙ sym b.2, a.4 ∙ sym b.4, a.5 ∙ sym b.5)
      go (inr z) =
          let d = p.done z in
          let e = q.done (same ∙ z) in
          both z x y d e (open_unique (n_of s) (sheet_rows s) d.said e.said d.right e.right)

pub open_determined : (old : Header) (s store work literals rows : List ℕ) (h k : Header) (x y : Result Opening Refusal)
    (store₁ store₂ work₁ work₂ literals₁ literals₂ rows₁ rows₂ : List ℕ)
    → OpenPromise old s store work literals rows h x store₁ work₁ literals₁ rows₁ → OpenPromise old s store work literals rows k y store₂ work₂ literals₂ rows₂
    → OpenSame h k x y store₁ store₂ work₁ work₂ literals₁ literals₂ rows₁ rows₂
open_determined old s store work literals rows h k x y store₁ store₂ work₁ work₂ literals₁ literals₂ rows₁ rows₂ p q =
    let e = open_both old s store work work literals rows refl h k x y store₁ store₂ work₁ work₂ literals₁ literals₂ rows₁ rows₂ p q in
    let u = open_keeps old s store work literals rows h x store₁ work₁ literals₁ rows₁ p in
    let v = open_keeps old s store work literals rows k y store₂ work₂ literals₂ rows₂ q in
    record { header = e.0; answer = e.1; filled = e.2; long = u.long ∙ sym v.long; past = u.rest ∙ sym v.rest; listed = e.3; numbers = e.4 }

-- ---- back
pub back_keeps : (old : Header) (work : List ℕ) (depth number : ℕ) (h : Header) (work₁ : List ℕ)
    → BackPromise old work depth number h work₁ → Worked work work₁
back_keeps old work depth zero h work₁ p = (p.done refl).1
back_keeps old work depth (suc c) h work₁ p = as_it_was (p.refused c refl).1

pub back_determined : (old : Header) (work : List ℕ) (depth a b : ℕ) (h k : Header) (work₁ work₂ : List ℕ)
    → BackPromise old work depth a h work₁ → BackPromise old work depth b k work₂
    → (a ≡ b) × (h ≡ k) × (length work₁ ≡ length work₂) × (drop size work₁ ≡ drop size work₂)
back_determined old work depth a b h k work₁ work₂ p q =
    let u = back_keeps old work depth a h work₁ p in
    let v = back_keeps old work depth b k work₂ q in
    (same, go a b same p q, u.long ∙ sym v.long, u.rest ∙ sym v.rest)
  where
    same : a ≡ b
    same = p.answer ∙ sym q.answer

    go : (a b : ℕ) → a ≡ b → BackPromise old work depth a h work₁ → BackPromise old work depth b k work₂ → h ≡ k
    go zero b e p q = (p.done refl).0 ∙ sym (q.done (sym e)).0
    go (suc c) b e p q = (p.refused c refl).0 ∙ sym (q.refused c (sym e)).0

-- ---- assume
pub record AssumeSame (h k : Header) (x y : Result Assuming Refusal) (work work' literals literals' : List ℕ) : Type 0 where
  pub header : h ≡ k
  pub answer : x ≡ y
  pub long : length work ≡ length work'
  pub past : drop size work ≡ drop size work'
  pub listed : literals ≡ literals'

abbrev pub AssumeRefusal : Header → List ℕ → List ℕ → ℕ → ℕ
AssumeRefusal old work literals code = refusal (assume_checks old (length work) (length literals) code)

module _ (old : Header) (work literals : List ℕ) (code : ℕ) where
  pub assume_keeps : (h : Header) (x : Result Assuming Refusal) (work₁ literals₁ : List ℕ)
      → AssumePromise old work literals code h x work₁ literals₁ → Worked work work₁
  assume_keeps h x work₁ literals₁ a = go (refused_or (AssumeRefusal old work literals code))
    where
      left : (x : Result Assuming Refusal) → AssumeLeaves old code h x work literals work₁ literals₁ → Worked work work₁
      left (Err r) l = as_it_was l.2
      left (Ok Held) l = as_it_was l.1
      left (Ok (Conflict v)) l = as_it_was l.2
      left (Ok (Taken u)) l = l.3

      go : RefusedOrNot (AssumeRefusal old work literals code) → Worked work work₁
      go (inl w) = as_it_was (a.refused w.0 w.1).2
      go (inr z) = left x (a.leaves z)

-- two working buffers: the checks say the same of both, and where they refuse nothing, both stand for one position
module _ (old : Header) (work work' literals : List ℕ) (code : ℕ) (same : AssumeRefusal old work' literals code ≡ AssumeRefusal old work literals code)
    (made : AssumeRefusal old work literals code ≡ 0 → (p : Position) × Stands old work p × Stands old work' p) where
  pub assume_both : (h k : Header) (x y : Result Assuming Refusal) (work₁ work₂ literals₁ literals₂ : List ℕ)
      → AssumePromise old work literals code h x work₁ literals₁ → AssumePromise old work' literals code k y work₂ literals₂ → (h ≡ k) × (x ≡ y) × (literals₁ ≡ literals₂)
  assume_both h k x y work₁ work₂ literals₁ literals₂ a b = go (refused_or (AssumeRefusal old work literals code))
    where
      fits : AssumeRefusal old work literals code ≡ 0 → old.n ≤ length literals
      fits z = ltb-false (length literals) old.n (accepted (assume_checks old (length work) (length literals) code) refl z).1.1.0

      both : AssumeRefusal old work literals code ≡ 0 → (p : Position) (x y : Result Assuming Refusal)
          → AssumeLeaves old code h x work literals work₁ literals₁ → AssumeLeaves old code k y work' literals work₂ literals₂
          → (c : AssumeRight p code h x work₁ literals₁) (d : AssumeRight p code k y work₂ literals₂) → c.said ≡ d.said → (h ≡ k) × (x ≡ y) × (literals₁ ≡ literals₂)
      both z p (Err r) y l m c d f = let g = c.says in cc
      both z p (Ok Held) (Err r) l m c d f = let g = d.says in cc
      both z p (Ok (Conflict v)) (Err r) l m c d f = let g = d.says in cc
      both z p (Ok (Taken u)) (Err r) l m c d f = let g = d.says in cc
      both z p (Ok Held) (Ok Held) l m c d f = (l.0 ∙ sym m.0, refl, l.2 ∙ sym m.2)
      both z p (Ok (Conflict v)) (Ok (Conflict w)) l m c d f =
          (l.1 ∙ sym m.1, ap (λ (u : ℕ). Ok (Conflict u)) (l.0 ∙ sym m.0), l.3 ∙ sym m.3)
      both z p (Ok (Taken u)) (Ok (Taken w)) l m c d f =
          let g : implied (take u literals₁) ≡ implied (take w literals₂) = some_one _ c.said c.says ∙ f ∙ sym (some_one _ d.said d.says) in
          let r = fits z in
          let lu = l.2 in
          let lw = m.2 in
          let s = same_buffer u w literals literals₁ literals₂ l.4 m.4 (omega arith) (omega arith) cc in
          (l.0 ∙ sym m.0, ap (λ (u : ℕ). Ok (Taken u)) s.0, s.1)
      both z p (Ok Held) (Ok (Conflict w)) l m c d f = let g = c.says in let i = d.says in cc
      both z p (Ok Held) (Ok (Taken w)) l m c d f = let g = c.says in let i = d.says in cc
      both z p (Ok (Conflict v)) (Ok Held) l m c d f = let g = c.says in let i = d.says in cc
      both z p (Ok (Conflict v)) (Ok (Taken w)) l m c d f = let g = c.says in let i = d.says in cc
      both z p (Ok (Taken u)) (Ok Held) l m c d f = let g = c.says in let i = d.says in cc
      both z p (Ok (Taken u)) (Ok (Conflict w)) l m c d f = let g = c.says in let i = d.says in cc

      go : RefusedOrNot (AssumeRefusal old work literals code) → (h ≡ k) × (x ≡ y) × (literals₁ ≡ literals₂)
      go (inl w) =
          let e = a.refused w.0 w.1 in
          let f = b.refused w.0 (same ∙ w.1) in
          (e.1 ∙ sym f.1, refused_same x y (suc w.0) e.0 f.0, e.3 ∙ sym f.3)
      go (inr z) =
          let p = (made z).0 in
          let st = (made z).1 in
          let c = a.right z p st in
          let d = b.right (same ∙ z) p (made z).2 in
          both z p x y (a.leaves z) (b.leaves (same ∙ z)) c d (assume_unique p (reached_solution p st.reached) code c.said d.said c.right d.right)

pub assume_determined : (old : Header) (work literals : List ℕ) (code : ℕ) → (AssumeRefusal old work literals code ≡ 0 → (p : Position) × Stands old work p)
    → (h k : Header) (x y : Result Assuming Refusal) (work₁ work₂ literals₁ literals₂ : List ℕ)
    → AssumePromise old work literals code h x work₁ literals₁ → AssumePromise old work literals code k y work₂ literals₂ → AssumeSame h k x y work₁ work₂ literals₁ literals₂
assume_determined old work literals code made h k x y work₁ work₂ literals₁ literals₂ a b =
    let s = assume_both old work work literals code refl (λ z. let m = made z in (m.0, m.1, m.1)) h k x y work₁ work₂ literals₁ literals₂ a b in
    let u = assume_keeps old work literals code h x work₁ literals₁ a in
    let v = assume_keeps old work literals code k y work₂ literals₂ b in
    record { header = s.0; answer = s.1; long = u.long ∙ sym v.long; past = u.rest ∙ sym v.rest; listed = s.2 }

-- ---- explain
pub record ExplainSame (x y : Result Explained Refusal) (clause clause' rows rows' : List ℕ) : Type 0 where
  pub answer : x ≡ y
  pub clauses : clause ≡ clause'
  pub numbers : rows ≡ rows'

abbrev pub ExplainRefusal : Header → List ℕ → List ℕ → List ℕ → ℕ → ℕ
ExplainRefusal h work clause rows v = refusal (explain_checks h (length work) (length clause) (length rows) v)

module _ (h : Header) (work work' clause rows : List ℕ) (v : ℕ) (same : ExplainRefusal h work' clause rows v ≡ ExplainRefusal h work clause rows v)
    (made : ExplainRefusal h work clause rows v ≡ 0 → (p : Position) × Stands h work p × Stands h work' p) where
  pub explain_both : (x y : Result Explained Refusal) (clause₁ clause₂ rows₁ rows₂ : List ℕ)
      → ExplainPromise h work clause rows v x clause₁ rows₁ → ExplainPromise h work' clause rows v y clause₂ rows₂ → ExplainSame x y clause₁ clause₂ rows₁ rows₂
  explain_both x y clause₁ clause₂ rows₁ rows₂ a b = go (refused_or (ExplainRefusal h work clause rows v))
    where
      fits : ExplainRefusal h work clause rows v ≡ 0 → (h.n ≤ length clause) × (h.m ≤ length rows)
      fits z =
          let f = none_either (ltb (length clause) h.n) (ltb (length rows) h.m) (accepted (explain_checks h (length work) (length clause) (length rows) v) refl z).1.1.0 in
          (ltb-false (length clause) h.n f.0, ltb-false (length rows) h.m f.1)

      both : ExplainRefusal h work clause rows v ≡ 0 → (p : Position) → Reached p → (x y : Result Explained Refusal)
          → ExplainLeaves h x clause rows clause₁ rows₁ → ExplainLeaves h y clause rows clause₂ rows₂
          → ExplainRight p v x clause₁ rows₁ → ExplainRight p v y clause₂ rows₂ → ExplainSame x y clause₁ clause₂ rows₁ rows₂
      both z p st (Err r) (Err q) l m e f =
          record { answer = ap Err (number_same r q (l.0 ∙ sym m.0)); clauses = l.1 ∙ sym m.1; numbers = l.2 ∙ sym m.2 }
      both z p st (Err r) (Ok b) l m e f = absurd (f.0 e)
      both z p st (Ok a) (Err q) l m e f = absurd (e.0 f)
      both z p st (Ok a) (Ok b) l m e f =
          let u : e.1.0 ≡ f.1.0 = explain_unique p st v e.1.0 f.1.0 e.1.2.answers f.1.2.answers in
          let g = some_one _ e.1.0 e.1.1 ∙ u ∙ sym (some_one _ f.1.0 f.1.1) in
          let r = fits z in
          let r0 = r.0 in
          let r1 = r.1 in
          let l0 = l.0 in
          let l1 = l.1 in
          let m0 = m.0 in
          let m1 = m.1 in
          let cs = same_buffer a.codes b.codes clause clause₁ clause₂ l.2 m.2 (omega arith) (omega arith) (ap (λ (w : ExplainAnswer). w.clause) g) in
          let rs = same_buffer a.numbers b.numbers rows rows₁ rows₂ l.3 m.3 (omega arith) (omega arith) (ap (λ (w : ExplainAnswer). w.numbers) g) in
          record { answer = ap₂ (λ (u w : ℕ). Ok (record { codes = u; numbers = w })) cs.0 rs.0; clauses = cs.1; numbers = rs.1 }

      go : RefusedOrNot (ExplainRefusal h work clause rows v) → ExplainSame x y clause₁ clause₂ rows₁ rows₂
      go (inl w) =
          let e = a.refused w.0 w.1 in
          let f = b.refused w.0 (same ∙ w.1) in
          record { answer = refused_same x y (suc w.0) e.0 f.0; clauses = e.1 ∙ sym f.1; numbers = e.2 ∙ sym f.2 }
      go (inr z) =
          let p = (made z).0 in
          let st = (made z).1 in
          both z p st.reached x y (a.leaves z) (b.leaves (same ∙ z)) (a.right z p st) (b.right (same ∙ z) p (made z).2)

pub explain_determined : (h : Header) (work clause rows : List ℕ) (v : ℕ) → (ExplainRefusal h work clause rows v ≡ 0 → (p : Position) × Stands h work p)
    → (x y : Result Explained Refusal) (clause₁ clause₂ rows₁ rows₂ : List ℕ)
    → ExplainPromise h work clause rows v x clause₁ rows₁ → ExplainPromise h work clause rows v y clause₂ rows₂ → ExplainSame x y clause₁ clause₂ rows₁ rows₂
explain_determined h work clause rows v made = explain_both h work work clause rows v refl (λ z. let m = made z in (m.0, m.1, m.1))
