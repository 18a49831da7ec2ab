-- EXPLAIN: what it answers, and what it leaves.
--   promise_no_value, promise_assumed   v has no value; it has one, and is basic in no row
--   promise_explained                   row r gives v its value
-- Assumes nothing.
use mathlib.Core.Path.{◌≡◌, refl, sym, ap, ap₂, ◌∙◌, subst}
use mathlib.Core.Bool.{Bool, true, false, not, ◌&&◌}
use mathlib.Core.List.{List, ◌∷◌, map}
use lib.ListN.{length, take}
use lib.Seq.{get_or-take}
use Prim.Native.Nat.{ℕ, zero, suc, ◌-◌, ◌/◌, ◌<◌, ◌≤◌}
use native.Mathlib.Omega.{arith}
use Rattle.gf2.specs.Field.{same}
use Rattle.gf2.specs.Rows.{Var}
use Rattle.gf2.specs.Answers.{code, Position, ExplainAnswer, AnswersExplain, Unexplained}
use Rattle.gf2.specs.Places.{scanned}
use Rattle.gf2.proofs.Sums.{same_comm}
use Rattle.gf2.proofs.Scans.{scanned_same}
use Rattle.gf2.proofs.Explained.{explanation}
use Rattle.linear.specs.Positions.{position}
use Rattle.linear.proofs.Explaining.{cited_rows, made_no_value, made_assumed, made_explains, made_explained}
use Rattle.std.specs.Prelude.{None, Ok, Err}
use Rattle.format.specs.Refusals.{refusal}
use Rattle.format.specs.declared.Refusal.TheVariants as refusals
use Rattle.judge.specs.declared.Header.{Header}
use Rattle.judge.specs.Checks.{explain_checks}
use Rattle.judge.proofs.Judged.{explain_judged}
use Rattle.words.specs.Words.{bit_at}
use Rattle.tableau.specs.Layout.{max_rows, row_at, from_at, last_at, known_at, truth_at, size}
use Rattle.tableau.specs.Buffer.{basic_at, home_at}
use Rattle.tableau.specs.View.{vals, Homes}
use Rattle.exchange.specs.Steps.{Found, FoundAt}
use Rattle.exchange.proofs.Finds.{found_none}
use Rattle.exchange.proofs.Steps.{known_bit, truth_bit}
use Rattle.lists.specs.Listing.{numbers, is_other, ListPut}
use Rattle.parity.specs.Promises.{Stands, ExplainPromise}
use Rattle.parity.proofs.Part.{front_bit, front_home}
use Rattle.lists.proofs.Picking.{listed_take}
use Rattle.parity.proofs.Listing.{listed_used}
use Rattle.parity.proofs.Numbering.{numbers_chosen}

module _ (h : Header) (work clause rows : List ℕ) (v : ℕ) where
  module _ (j : refusal (explain_checks h (length work) (length clause) (length rows) v) ≡ 0) where
    room : size ≤ length work
    room = (explain_judged h (length work) (length clause) (length rows) v j).1

    mine : Var h.n v
    mine = (explain_judged h (length work) (length clause) (length rows) v j).4

    not_refused : (c : ℕ) → refusal (explain_checks h (length work) (length clause) (length rows) v) ≡ suc c → ⊥
    not_refused c e = absurd (omega arith)

    front_basic : (r : ℕ) → r < max_rows → basic_at (take size work) r ≡ basic_at work r
    front_basic r l = ap (λ (z : ℕ). z / 2) (get_or-take size work (last_at r) 0 (omega arith))

    module _ (p : Position) (s : Stands h work p) where
      abbrev front : List ℕ
      front = take size work

      abbrev here : Position
      here = position h.n h.m s.Sheet h.depth s.var s.val

      small : (i : ℕ) → suc i ≤ h.n → i < 512
      small i l = let a = s.fit.vars in omega arith

      known_is : bit_at work known_at (v - 1) ≡ s.made.known v
      known_is =
          let a = mine.low in
          let b = mine.high in
          let c = s.fit.vars in
          sym (front_bit work room known_at (omega arith) (v - 1) (omega arith)) ∙ known_bit h.n h.m s.Sheet s.kept h.depth s.var s.val h.kept front s.made v mine

      truth_is : bit_at work truth_at (v - 1) ≡ s.made.truth v
      truth_is =
          let a = mine.low in
          let b = mine.high in
          let c = s.fit.vars in
          sym (front_bit work room truth_at (omega arith) (v - 1) (omega arith)) ∙ truth_bit h.n h.m s.Sheet s.kept h.depth s.var s.val h.kept front s.made v mine

      basic_is : (r : ℕ) → r < h.kept → basic_at work r ≡ s.made.β r
      basic_is r l = let a = s.made.few in sym (front_basic r (omega arith)) ∙ s.made.rows.basic r l

      homes_are : Homes h.kept work
      homes_are r l =
          let a = s.made.few in
          let b = s.made.rows.basic r l in
          let c = (s.made.made.built.tableau.var r l).high in
          let d = s.made.vars in
          ap (home_at work) (sym (front_basic r (omega arith))) ∙ sym (front_home work (basic_at front r) (omega arith)) ∙ s.made.homes r l

    promise_10 : ((p : Position) → Stands h work p → Unexplained p v) → ExplainPromise h work clause rows v (Err refusals.Unexplained) clause rows
    promise_10 f = record { refused = λ c e. absurd (not_refused c e); leaves = λ z. (refl, refl, refl); right = λ z p s. f p s }

    pub promise_no_value : bit_at work known_at (v - 1) ≡ false → ExplainPromise h work clause rows v (Err refusals.Unexplained) clause rows
    promise_no_value e = promise_10 (λ p s. subst (λ (q : Position). Unexplained q v) (sym s.here)
        (made_no_value h.n h.m s.Sheet s.kept h.depth s.var s.val h.kept s.made.R s.made.β s.made.S s.made.known s.made.truth s.made.made s.is_kept v mine (sym (known_is p s) ∙ e)))

    pub promise_assumed : bit_at work known_at (v - 1) ≡ true → Found work h.kept v None
        → ExplainPromise h work clause rows v (Err refusals.Unexplained) clause rows
    promise_assumed e f = promise_10 (λ p s. subst (λ (q : Position). Unexplained q v) (sym s.here)
        (made_assumed h.n h.m s.Sheet s.kept h.depth s.var s.val h.kept s.made.R s.made.β s.made.S s.made.known s.made.truth s.made.made s.is_kept v mine
        (found_none h.kept v work s.made.β (homes_are p s) (basic_is p s) f) (sym (known_is p s) ∙ e)))

    pub promise_explained : (r : ℕ) → FoundAt work h.kept v r → bit_at work known_at (v - 1) ≡ true → (clause' rows' : List ℕ) (x y : ℕ)
        → ListPut h.n 0 (code v (bit_at work truth_at (v - 1)) ∷ scanned h.n (is_other work r v) (λ u. not (vals work truth_at u))) clause clause' x
        → ListPut h.m 0 (numbers h.m (bit_at work (from_at r))) rows rows' y
        → ExplainPromise h work clause rows v (Ok (record { codes = x; numbers = y })) clause' rows'
    promise_explained r f e clause' rows' x y cl nl = record {
      refused = λ c q. absurd (not_refused c q);
      leaves = λ z. (cl.few, nl.few, listed_used h.n _ clause clause' x cl, listed_used h.m _ rows rows' y nl);
      right = λ z p s. (explained p s, (record { clause = take x clause'; numbers = take y rows' }, refl, explanation p s.reached v (subst (λ (q : Position). Var q.n v) (sym s.here) mine) _ (answer p s)));
    }
      where
        l : r < h.kept
        l = f.below

        fits_clause : h.n ≤ length clause
        fits_clause = (explain_judged h (length work) (length clause) (length rows) v j).2

        fits_rows : h.m ≤ length rows
        fits_rows = (explain_judged h (length work) (length clause) (length rows) v j).3

        basic : (p : Position) (s : Stands h work p) → s.made.β r ≡ v
        basic p s = sym (basic_is p s r l) ∙ f.basic

        known : (p : Position) (s : Stands h work p) → s.made.known (s.made.β r) ≡ true
        known p s = ap s.made.known (basic p s) ∙ sym (known_is p s) ∙ e

        explained : (p : Position) (s : Stands h work p) → Unexplained p v → ⊥
        explained p s u =
            made_explained h.n h.m s.Sheet s.kept h.depth s.var s.val h.kept s.made.R s.made.β s.made.S s.made.known s.made.truth s.made.made s.is_kept r l (known p s)
            (subst (λ (w : ℕ). Unexplained (position h.n h.m s.Sheet h.depth s.var s.val) w) (sym (basic p s)) (subst (λ (q : Position). Unexplained q v) s.here u))

        row_bit : (p : Position) (s : Stands h work p) (u : ℕ) → Var h.n u → is_other work r v u ≡ s.made.R r u && not (same (s.made.β r) u)
        row_bit p s zero mu = let a = mu.low in absurd (omega arith)
        row_bit p s (suc i) mu =
            let b = small p s i mu.high in
            let k : r < max_rows = let a = s.made.few in omega arith in
            ap₂ (λ (a c : Bool). a && not c) (sym (front_bit work room (row_at r) (omega arith) i b) ∙ s.made.rows.coefs r l i b) (same_comm (suc i) v ∙ ap (λ (w : ℕ). same w (suc i)) (sym (basic p s)))

        sign_bit : (p : Position) (s : Stands h work p) (u : ℕ) → Var h.n u → not (vals work truth_at u) ≡ not (s.made.truth u)
        sign_bit p s zero mu = let a = mu.low in absurd (omega arith)
        sign_bit p s (suc i) mu = let b = small p s i mu.high in ap not (sym (front_bit work room truth_at (omega arith) i b) ∙ s.made.values.trues i b)

        from_bit : (p : Position) (s : Stands h work p) (i : ℕ) → i < h.m → bit_at work (from_at r) i ≡ s.made.S r i
        from_bit p s i b =
            let k : r < max_rows = let a = s.made.few in omega arith in
            let c : i < max_rows = let a = s.fit.rows in omega arith in
            sym (front_bit work room (from_at r) (omega arith) i (omega arith)) ∙ s.made.rows.from r l i c

        clause_is : (p : Position) (s : Stands h work p)
            → take x clause' ≡ code (s.made.β r) (s.made.truth (s.made.β r)) ∷ scanned h.n (λ u. s.made.R r u && not (same (s.made.β r) u)) (λ u. not (s.made.truth u))
        clause_is p s =
            listed_take h.n _ clause clause' x cl fits_clause
            ∙ ap₂ ◌∷◌ (ap₂ code (sym (basic p s)) (truth_is p s ∙ ap s.made.truth (sym (basic p s)))) (scanned_same h.n (is_other work r v) _ (λ u. not (vals work truth_at u)) _ (row_bit p s) (sign_bit p s))

        rows_are : (p : Position) (s : Stands h work p)
            → take y rows' ≡ map (λ c. c.number) (cited_rows h.n h.m s.Sheet s.kept h.depth s.var s.val h.kept s.made.R s.made.β s.made.S s.made.known s.made.truth s.made.made s.is_kept r l (known p s))
        rows_are p s = listed_take h.m _ rows rows' y nl fits_rows ∙ numbers_chosen h.m (bit_at work (from_at r)) (s.made.S r) s.Sheet (from_bit p s)

        same_answer : (a b c d : List ℕ) → a ≡ c → b ≡ d → ◌≡◌ {A = ExplainAnswer} (record { clause = c; numbers = d }) (record { clause = a; numbers = b })
        same_answer a b c d e f = λ i. record { clause = sym e i; numbers = sym f i }

        answer : (p : Position) (s : Stands h work p) → AnswersExplain p v (record { clause = take x clause'; numbers = take y rows' })
        answer p s =
            subst (λ (q : Position). AnswersExplain q v (record { clause = take x clause'; numbers = take y rows' })) (sym s.here)
            (subst (λ (w : ℕ). AnswersExplain (position h.n h.m s.Sheet h.depth s.var s.val) w (record { clause = take x clause'; numbers = take y rows' })) (basic p s)
            (subst (AnswersExplain (position h.n h.m s.Sheet h.depth s.var s.val) (s.made.β r)) (same_answer _ _ _ _ (clause_is p s) (rows_are p s))
            (made_explains h.n h.m s.Sheet s.kept h.depth s.var s.val h.kept s.made.R s.made.β s.made.S s.made.known s.made.truth s.made.made s.is_kept r l (known p s))))
