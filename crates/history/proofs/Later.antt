-- THE NEXT ANSWER IS DETERMINED, whatever the words of the working buffer and however much of it is lent: of two calls under one header, on buffers that stand
-- for one position (for open: of 4,096 words at least),
--   open_later      answer, header, row store and both answer buffers are the same
--   assume_later    answer, header and answer buffer are the same
--   back_later      number and header are the same
--   explain_later   answer and both answer buffers are the same
-- and after open, assume and back each buffer has its length, and what it had past its first 4,096 words, and both match one position again, or nothing.
-- Assumes nothing.
use mathlib.Core.Path.{◌≡◌, refl, sym, subst, ◌∙◌}
use mathlib.Core.Logic.{inl, inr}
use mathlib.Core.Option.{Option, none}
use mathlib.Core.List.{List}
use lib.ListN.{length}
use Prim.Native.Nat.{ℕ, zero, suc, ◌≤◌}
use borrow.Author.Tests.{le-ltb}
use Rattle.std.specs.Prelude.{Result}
use Rattle.gf2.specs.Answers.{Position, withdrawn, AssumeAnswer, moved}
use Rattle.gf2.specs.History.{after}
use Rattle.gf2.proofs.Unique.{assume_unique}
use Rattle.gf2.proofs.Reach.{reached_solution}
use Rattle.format.specs.Refusals.{refusal}
use Rattle.format.specs.declared.Refusal.{Refusal}
use Rattle.format.proofs.Answering.{RefusedOrNot, refused_or}
use Rattle.judge.specs.declared.Header.{Header}
use Rattle.judge.specs.Checks.{back_checks}
use Rattle.parity.specs.declared.Opening.{Opening}
use Rattle.parity.specs.declared.Assuming.{Assuming}
use Rattle.parity.specs.declared.Explained.{Explained}
use Rattle.parity.specs.Promises.{Stands, Worked, OpenPromise, AssumePromise, BackPromise, ExplainPromise}
use Rattle.history.specs.Calls.{open_event, Matches}
use Rattle.history.proofs.Memory.{long}
use Rattle.history.proofs.Demand.{open_done}
use Rattle.history.proofs.Determined.{OpenRefusal, open_keeps, open_both, back_keeps, AssumeRefusal, assume_keeps, assume_both, ExplainRefusal, ExplainSame, explain_both}

-- ---- open
module _ (old : Header) (s store work work' literals rows : List ℕ) (enough : 4096 ≤ length work) (enough' : 4096 ≤ length work') where
  same_open : OpenRefusal s store work' literals rows ≡ OpenRefusal s store work literals rows
  same_open = rw (le-ltb (length work) 4096 enough, le-ltb (length work') 4096 enough') refl

  pub open_later : (h k : Header) (x y : Result Opening Refusal) (store₁ store₂ work₁ work₂ literals₁ literals₂ rows₁ rows₂ : List ℕ)
      → OpenPromise old s store work literals rows h x store₁ work₁ literals₁ rows₁ → OpenPromise old s store work' literals rows k y store₂ work₂ literals₂ rows₂
      → (h ≡ k) × (x ≡ y) × (store₁ ≡ store₂) × (literals₁ ≡ literals₂) × (rows₁ ≡ rows₂) × Worked work work₁ × Worked work' work₂
      × ((s₀ : Option Position) → Matches old work s₀ → Matches old work' s₀ → (s₁ : Option Position) × Matches h work₁ s₁ × Matches k work₂ s₁)
  open_later h k x y store₁ store₂ work₁ work₂ literals₁ literals₂ rows₁ rows₂ a b = (
    e.0,
    e.1,
    e.2,
    e.3,
    e.4,
    open_keeps old s store work literals rows h x store₁ work₁ literals₁ rows₁ a,
    open_keeps old s store work' literals rows k y store₂ work₂ literals₂ rows₂ b,
    λ s₀ m m'. match s₀ m m' (refused_or (OpenRefusal s store work literals rows)),
  )
    where
      e : (h ≡ k) × (x ≡ y) × (store₁ ≡ store₂) × (literals₁ ≡ literals₂) × (rows₁ ≡ rows₂)
      e = open_both old s store work work' literals rows same_open h k x y store₁ store₂ work₁ work₂ literals₁ literals₂ rows₁ rows₂ a b

      match : (s₀ : Option Position) → Matches old work s₀ → Matches old work' s₀
          → RefusedOrNot (OpenRefusal s store work literals rows)
          → (s₁ : Option Position) × Matches h work₁ s₁ × Matches k work₂ s₁
      match s₀ m m' (inl w) =
          let f = a.refused w.0 w.1 in
          let g = b.refused w.0 (same_open ∙ w.1) in
          (s₀, rw (f.1, f.3) m, rw (g.1, g.3) m')
      match s₀ m m' (inr z) =
          let f = open_done none s store work literals rows store₁ literals₁ rows₁ x h work₁ (a.done z) in
          let g = open_done none s store work' literals rows store₂ literals₂ rows₂ y k work₂ (b.done (same_open ∙ z)) in
          (after none (open_event s x h.kept literals₁ rows₁), f.1, rw (e.1, e.0, e.3, e.4) g.1)

module _ {old : Header} {work work' : List ℕ} {p : Position} (st : Stands old work p) (st' : Stands old work' p) where
  still : {h : Header} {part whole : List ℕ} → h ≡ old → part ≡ whole → Stands old whole p → Stands h part p
  still a b s = rw (a, b) s

  -- ---- assume
  module _ (literals : List ℕ) (code : ℕ) where
    same_assume : AssumeRefusal old work' literals code ≡ AssumeRefusal old work literals code
    same_assume = rw (le-ltb (length work) 4096 (long st), le-ltb (length work') 4096 (long st'))

    pub assume_later : (h k : Header) (x y : Result Assuming Refusal) (work₁ work₂ literals₁ literals₂ : List ℕ)
        → AssumePromise old work literals code h x work₁ literals₁ → AssumePromise old work' literals code k y work₂ literals₂
        → (h ≡ k) × (x ≡ y) × (literals₁ ≡ literals₂) × Worked work work₁ × Worked work' work₂ × ((q : Position) × Stands h work₁ q × Stands k work₂ q)
    assume_later h k x y work₁ work₂ literals₁ literals₂ a b =
        let s = assume_both old work work' literals code same_assume (λ z. (p, st, st')) h k x y work₁ work₂ literals₁ literals₂ a b in (
          s.0,
          s.1,
          s.2,
          assume_keeps old work literals code h x work₁ literals₁ a,
          assume_keeps old work' literals code k y work₂ literals₂ b,
          stand (refused_or (AssumeRefusal old work literals code)),
        )
      where
        stand : RefusedOrNot (AssumeRefusal old work literals code) → (q : Position) × Stands h work₁ q × Stands k work₂ q
        stand (inl w) =
            let e = a.refused w.0 w.1 in
            let f = b.refused w.0 (same_assume ∙ w.1) in
            (p, still e.1 e.2 st, still f.1 f.2 st')
        stand (inr z) =
            let c = a.right z p st in
            let d = b.right (same_assume ∙ z) p st' in
            let e = assume_unique p (reached_solution p st.reached) code c.said d.said c.right d.right in
            (moved p code c.said, c.stands, subst (λ (said : AssumeAnswer). Stands k work₂ (moved p code said)) (sym e) d.stands)

  -- ---- back
  module _ (depth : ℕ) where
    same_back : refusal (back_checks old (length work') depth) ≡ refusal (back_checks old (length work) depth)
    same_back = rw (le-ltb (length work) 4096 (long st), le-ltb (length work') 4096 (long st'))

    pub back_later : (a b : ℕ) (h k : Header) (work₁ work₂ : List ℕ) → BackPromise old work depth a h work₁ → BackPromise old work' depth b k work₂
        → (h ≡ k) × (a ≡ b) × Worked work work₁ × Worked work' work₂ × ((q : Position) × Stands h work₁ q × Stands k work₂ q)
    back_later a b h k work₁ work₂ f g = let r = go a b same f g in (r.0, same, back_keeps old work depth a h work₁ f, back_keeps old work' depth b k work₂ g, r.1)
      where
        same : a ≡ b
        same = f.answer ∙ sym same_back ∙ sym g.answer

        go : (a b : ℕ) → a ≡ b → BackPromise old work depth a h work₁ → BackPromise old work' depth b k work₂ → (h ≡ k) × ((q : Position) × Stands h work₁ q × Stands k work₂ q)
        go zero b e f g = ((f.done refl).0 ∙ sym (g.done (sym e)).0, (withdrawn p depth, f.right refl p st, g.right (sym e) p st'))
        go (suc c) b e f g =
            let u = f.refused c refl in
            let v = g.refused c (sym e) in
            (u.0 ∙ sym v.0, (p, still u.0 u.1 st, still v.0 v.1 st'))

  -- ---- explain
  module _ (clause rows : List ℕ) (v : ℕ) where
    same_explain : ExplainRefusal old work' clause rows v ≡ ExplainRefusal old work clause rows v
    same_explain = rw (le-ltb (length work) 4096 (long st), le-ltb (length work') 4096 (long st'))

    pub explain_later : (x y : Result Explained Refusal) (clause₁ clause₂ rows₁ rows₂ : List ℕ)
        → ExplainPromise old work clause rows v x clause₁ rows₁ → ExplainPromise old work' clause rows v y clause₂ rows₂ → ExplainSame x y clause₁ clause₂ rows₁ rows₂
    explain_later = explain_both old work work' clause rows v same_explain (λ z. (p, st, st'))
