-- THE EXPLANATION OF A BASIC VARIABLE IS ITS ROW, on a made state, in the definitions' words.
--   made_explains    row p, whose basic variable has a value: its provenance and its other variables are what explain answers
--   made_no_value, made_assumed, made_explained   refusal 10, read off the state: no value; basic in no row; neither
-- Assumes nothing.
use mathlib.Core.Path.{◌≡◌, refl, sym, ap, ◌∙◌}
use mathlib.Core.Bool.{Bool, true, false, not, ◌&&◌, true≢false}
use mathlib.Core.Logic.{inl, inr, ◌≢◌}
use mathlib.Core.List.{List, [], ◌∷◌, ◌++◌, map}
use Prim.Native.Nat.{ℕ, zero, suc, ◌<◌, ◌≤◌}
use native.Mathlib.Omega.{arith}
use Rattle.gf2.specs.Field.{same}
use Rattle.gf2.specs.Lists.{◌∈◌, All, Part}
use Rattle.gf2.specs.Rows.{Var, Row, Rows, total}
use Rattle.gf2.specs.Rows as by-list
use Rattle.gf2.specs.Answers.{code, variable, value, Literal, literals, Explains, AnswersExplain, Unexplained}
use Rattle.gf2.specs.Places.{chosen, scanned}
use Rattle.gf2.proofs.Lists.{all_at}
use Rattle.gf2.proofs.Literals.{code_variable, code_value}
use Rattle.gf2.proofs.Decide.{Fits, all_append}
use Rattle.gf2.proofs.Chosen.{chosen_part, chosen_total}
use Rattle.gf2.proofs.Scans.{scanned_same}
use Rattle.gf2.proofs.RowExplains.{cite, Distinct, row_explains}
use Rattle.gf2.proofs.Values.{negations_listed}
use Rattle.gf2.proofs.Sure.{explains_implied}
use Rattle.linear.specs.Systems.{combine, NonBasic, Literals}
use Rattle.linear.specs.State.{KeptPlaces, Made}
use Rattle.linear.specs.Positions.{numbered, by_number, kept_rows, codes_of, position}
use Rattle.linear.proofs.Insert.{reason}
use Rattle.linear.proofs.Opening.{no_failure}
use Rattle.linear.proofs.Joined.{all_codes, code_in, made_values, made_solution}
use Rattle.linear.proofs.Taking.{takes_kept}

distinct_end : (ls : List ℕ) (l : ℕ) → Distinct ls → All (λ k. variable k ≢ variable l) ls → Distinct (ls ++ (l ∷ []))
distinct_end [] l d h = (tt, tt)
distinct_end (k ∷ ls) l d h = (all_append _ ls (l ∷ []) d.0 ((λ e. h.0 (sym e)), tt), distinct_end ls l d.1 h.1)

codes_distinct : (d : ℕ) (x : ℕ → ℕ) (y : ℕ → Bool) → ((i j : ℕ) → i < d → j < d → x i ≡ x j → i ≡ j) → Distinct (codes_of d x y)
unfolding codes_of
codes_distinct zero x y h = tt
codes_distinct (suc d) x y h =
    distinct_end (codes_of d x y) (code (x d) (y d)) (codes_distinct d x y (λ i j l k e. h i j (omega arith) (omega arith) e))
    ((all_codes _ d x y).1 (λ j l e. let f = h j d (omega arith) (omega arith) (sym (code_variable (x j) (y j)) ∙ e ∙ code_variable (x d) (y d)) in absurd (omega arith)))

module _ (n m : ℕ) (Sheet : ℕ → Row) (kept : ℕ → Bool) (d : ℕ) (x : ℕ → ℕ) (y : ℕ → Bool) (k : ℕ) (R : ℕ → Row) (β : ℕ → ℕ) (S : ℕ → ℕ → Bool) (known truth : ℕ → Bool)
    (w : Made n m Sheet kept d x y k R β S known truth) (kp : KeptPlaces n m Sheet kept) where
  pub made_kept : by-list.Kept n (numbered m Sheet) (kept_rows m Sheet kept)
  made_kept = takes_kept n m Sheet kept kp m (omega arith) (no_failure n m Sheet kept m k R β S w.built)

  fits : Fits (position n m Sheet d x y)
  fits = (all_codes (Literal n) d x y).1 (λ j l. let h = w.taken.var j l in rw (code_variable (x j) (y j)) h)

  -- a literal that is assumed
  literal_taken : (v : ℕ) (b : Bool) → Literals d x y v b → (l : ℕ) × (l ∈ codes_of d x y) × (variable l ≡ v)
  literal_taken v b h = (code (x h.0) (y h.0), code_in d x y h.0 h.1, code_variable (x h.0) (y h.0) ∙ h.2)

  pub made_no_value : (v : ℕ) → Var n v → known v ≡ false → Unexplained (position n m Sheet d x y) v
  made_no_value v mv e = inl (λ b h. true≢false (sym ((made_values n m Sheet d x y kept k R β S known truth w).complete v b mv h) ∙ e))

  pub made_assumed : (v : ℕ) → Var n v → NonBasic k β v → known v ≡ true → Unexplained (position n m Sheet d x y) v
  made_assumed v mv f e = inr (literal_taken v (truth v) (w.settled.free v mv f e))

  module _ (p : ℕ) (lp : p < k) (e : known (β p) ≡ true) where
    abbrev pub cited_rows : Rows
    cited_rows = chosen (by_number (S p)) (numbered m Sheet)

    row_total : (u : ℕ) → u ≤ n → total cited_rows u ≡ R p u
    unfolding combine
    row_total u l = chosen_total m suc Sheet (by_number (S p)) u ∙ sym (w.built.from p lp u l)

    cited_part : Part cited_rows (kept_rows m Sheet kept)
    cited_part = chosen_part (by_number (S p)) (by_number kept) within (numbered m Sheet)
      where
        within : (r : ℕ) → by_number (S p) r ≡ true → by_number kept r ≡ true
        within zero h = h
        within (suc j) h = (w.built.only p lp j h).1

    mine : Var n (β p)
    mine = w.built.tableau.var p lp

    apart : All (λ l. variable l ≢ β p) (codes_of d x y)
    apart = (all_codes _ d x y).1 (λ j l h. w.taken.apart j l p lp (sym h ∙ code_variable (x j) (y j)))

    others : (u : ℕ) → Var n u → total cited_rows u ≡ true → u ≢ β p → (l : ℕ) × (l ∈ codes_of d x y) × (variable l ≡ u)
    others u mu h ne =
        literal_taken u (truth u) (reason n k R β w.built.tableau (Literals d x y) known truth w.settled p lp e u mu (sym (row_total u mu.high) ∙ h) ne)

    abbrev cited : List ℕ
    cited = cite (total cited_rows) (codes_of d x y)

    abbrev sign : Bool
    sign = total (cited_rows ++ literals cited) 0

    explains : Explains (position n m Sheet d x y) (code (β p) sign) cited_rows cited
    explains = row_explains (position n m Sheet d x y) (kept_rows m Sheet kept) cited_rows (β p) made_kept cited_part (codes_distinct d x y w.taken.distinct) mine
        (row_total (β p) mine.high ∙ w.built.tableau.own p lp) apart others

    sign_truth : sign ≡ truth (β p)
    sign_truth =
        let s = made_solution n m Sheet d x y kept k R β S known truth w in
        let i = explains_implied (position n m Sheet d x y) fits (code (β p) sign) (rw (code_variable (β p) sign) mine) cited_rows cited explains s.0 s.1 in
        let g = (made_values n m Sheet d x y kept k R β S known truth w).given (β p) mine e s.0 s.1 in
        sym (code_value (β p) sign) ∙ sym i ∙ ap s.0 (code_variable (β p) sign ∙ sym (code_variable (β p) (truth (β p)))) ∙ g ∙ code_value (β p) (truth (β p))

    pub made_explains : AnswersExplain (position n m Sheet d x y) (β p)
        (record { clause = code (β p) (truth (β p)) ∷ scanned n (λ u. R p u && not (same (β p) u)) (λ u. not (truth u)); numbers = map (λ r. r.number) cited_rows })
    made_explains = record {
      literal = code (β p) (truth (β p));
      of_v = code_variable (β p) (truth (β p));
      rows = cited_rows;
      cited = cited;
      explains = rw sign_truth at explains;
      negations = scanned n (λ u. R p u && not (same (β p) u)) (λ u. not (truth u));
      listed = rw (scanned_same n (λ u. total cited_rows u && not (same (β p) u)) (λ u. R p u && not (same (β p) u)) (λ u. not (truth u)) (λ u. not (truth u))
          (λ u l. ap (λ (b : Bool). b && not (same (β p) u)) (row_total u l.high)) (λ u l. refl)) at
          (negations_listed n (total cited_rows) (β p) (codes_of d x y) truth fits agree apart others);
      clause = refl;
      numbers = refl;
    }
      where
        agree : All (λ l. truth (variable l) ≡ value l) (codes_of d x y)
        agree = (all_codes _ d x y).1 (λ j l. ap truth (code_variable (x j) (y j)) ∙ (w.settled.assumed (x j) (y j) (j, l, refl, refl)).1 ∙ sym (code_value (x j) (y j)))

    pub made_explained : Unexplained (position n m Sheet d x y) (β p) → ⊥
    made_explained (inl h) = h (truth (β p)) ((made_values n m Sheet d x y kept k R β S known truth w).given (β p) mine e)
    made_explained (inr h) = all_at (λ l. variable l ≢ β p) (codes_of d x y) apart h.0 h.1 h.2
