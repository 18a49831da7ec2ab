-- ASSUME: what it answers, and what it leaves, case by case of what the step did.
--   promise_held, promise_conflict, promise_stuck, promise_taken   no check holds: the four answers of a step
-- Assumes nothing.
use mathlib.Core.Path.{◌≡◌, refl, sym, ap, ◌∙◌, subst}
use mathlib.Core.Bool.{Bool, not, ◌&&◌, and_assoc}
use mathlib.Core.List.{List, ◌++◌}
use lib.ListN.{length, take, drop, take-append-drop}
use Prim.Native.Nat.{ℕ, zero, suc, ◌+◌, ◌*◌, ◌/◌, ◌<◌, ◌≤◌}
use native.Mathlib.Omega.{arith}
use Rattle.gf2.specs.Field.{same}
use Rattle.gf2.specs.Rows.{Var}
use Rattle.gf2.specs.Answers.{variable, value, Position, held, conflict, implied, AnswersAssume}
use Rattle.gf2.specs.Places.{scanned}
use Rattle.gf2.proofs.Sums.{same_comm}
use Rattle.gf2.proofs.Literals.{of_range}
use Rattle.linear.specs.State.{with_at, with_bool}
use Rattle.std.specs.Prelude.{Ok, Err}
use Rattle.format.specs.Refusals.{refusal}
use Rattle.format.specs.declared.Refusal.TheVariants.{NoPartner}
use Rattle.judge.specs.declared.Header.{Header}
use Rattle.judge.specs.Checks.{assume_checks, at_depth}
use Rattle.judge.proofs.Judged.{assume_judged}
use Rattle.words.specs.Words.{bit_at}
use Rattle.tableau.specs.Layout.{known_at, truth_at, size}
use Rattle.tableau.specs.Buffer.{Slice}
use Rattle.tableau.specs.View.{MadeAt, vals}
use Rattle.tableau.proofs.Runs.{slice_bit}
use Rattle.exchange.specs.declared.Offer.{Offer}
use Rattle.exchange.specs.declared.Offer.TheVariants as offer
use Rattle.exchange.specs.Steps.{Stepped, OfferOutcome}
use Rattle.exchange.proofs.Steps.{step_made}
use Rattle.lists.specs.Listing.{is_new, ListPut}
use Rattle.parity.specs.declared.Assuming.TheVariants.{Held, Conflict, Taken}
use Rattle.parity.specs.Promises.{Stands, AssumePromise}
use Rattle.parity.proofs.Part.{front_bit, replaced_front, replaced_worked}
use Rattle.lists.proofs.Picking.{listed_take}
use Rattle.parity.proofs.Listing.{listed_used}
use Rattle.parity.proofs.Offering.{offered_held, offered_conflict, taken_answer, taken_stands}

three : (a b c d e f : Bool) → a ≡ d → b ≡ e → c ≡ f → a && not b && not c ≡ d && (not e && not f)
three a b c d e f p q r = rw (p, q, r) (and_assoc d (not e) (not f))

-- ---- the promise
module _ (h : Header) (work literals : List ℕ) (code : ℕ) where
  module _ (j : refusal (assume_checks h (length work) (length literals) code) ≡ 0) where
    room : size ≤ length work
    room = (assume_judged h (length work) (length literals) code j).1

    low : 2 ≤ code
    low = (assume_judged h (length work) (length literals) code j).3

    high : code ≤ 2 * h.n + 1
    high = (assume_judged h (length work) (length literals) code j).4

    -- the front was not changed: nor was the buffer
    unchanged : (w : List ℕ) → w ≡ take size work → w ++ drop size work ≡ work
    unchanged w e = rw e (take-append-drop size work)

    not_refused : (c : ℕ) → refusal (assume_checks h (length work) (length literals) code) ≡ suc c → ⊥
    not_refused c e = absurd (omega arith)

    module _ (w : List ℕ) where
      -- what the step did
      abbrev Did : Offer → Type 0
      Did = Stepped h.kept h.n h.depth code (take size work) w

      -- what it means for a state of the module
      abbrev Means : {p : Position} → Stands h work p → Offer → Type 0
      Means s = OfferOutcome h.n h.m s.Sheet s.kept h.depth s.var s.val h.kept (variable code) (value code) w

      meaning : {p : Position} (s : Stands h work p) (x : Offer) → length w ≡ length (take size work) → Did x → Means s x
      meaning s x e o =
          step_made h.n h.m s.Sheet s.kept h.depth s.var s.val h.kept (take size work) code (of_range h.n code low (let u = high in omega arith)) s.made w x e o

      pub promise_held : Did offer.Held → AssumePromise h work literals code h (Ok Held) (w ++ drop size work) literals
      promise_held o =
          subst (λ (u : List ℕ). AssumePromise h work literals code h (Ok Held) u literals) (sym (unchanged w o.0))
          (record { refused = λ c e. absurd (not_refused c e); leaves = λ q. (refl, refl, refl); right = λ q p s. record { said = held; says = refl; right = offered_held h work p s code low high o.1 o.2; stands = s } })

      pub promise_conflict : Did offer.Conflict → AssumePromise h work literals code h (Ok (Conflict (code / 2))) (w ++ drop size work) literals
      promise_conflict o =
          subst (λ (u : List ℕ). AssumePromise h work literals code h (Ok (Conflict (code / 2))) u literals) (sym (unchanged w o.0))
          (record { refused = λ c e. absurd (not_refused c e); leaves = λ q. (refl, refl, refl, refl); right = λ q p s. record { said = conflict; says = refl; right = offered_conflict h work p s code low high o.1 o.2; stands = s } })

      pub promise_stuck : Did offer.Stuck → AssumePromise h work literals code h (Err NoPartner) (w ++ drop size work) literals
      promise_stuck o =
          subst (λ (u : List ℕ). AssumePromise h work literals code h (Err NoPartner) u literals) (sym (unchanged w o.0))
          (record { refused = λ d e. absurd (not_refused d e); leaves = λ q. (refl, refl, refl, refl); right = λ q p s. absurd (meaning s offer.Stuck (ap length o.0) o) })

      -- the literals listed are those that the definition asks for
      module _ (o : Did offer.Taken) (old : List ℕ) (reads : Slice 8 work known_at old) (e : length w ≡ length (take size work)) (literals' : List ℕ) (count : ℕ)
          (l : ListPut h.n 0 (scanned h.n (is_new (w ++ drop size work) old (code / 2)) (vals (w ++ drop size work) truth_at)) literals literals' count) where
        after_bit : (off : ℕ) → off + 8 ≤ size → (i : ℕ) → i < 512 → bit_at (w ++ drop size work) off i ≡ bit_at w off i
        after_bit off b i c =
            sym (front_bit (w ++ drop size work) (let u = (replaced_worked work w room e).long in let v = room in omega arith) off b i c) ∙ ap (λ (z : List ℕ). bit_at z off i) (replaced_front work w room e)

        made_after : {p : Position} (s : Stands h work p) → MadeAt w h.n h.m s.Sheet s.kept (suc h.depth) (with_at s.var h.depth (variable code)) (with_bool s.val h.depth (value code)) h.kept
        made_after s = (meaning s offer.Taken e o).2

        pub promise_taken : AssumePromise h work literals code (at_depth h (h.depth + 1)) (Ok (Taken count)) (w ++ drop size work) literals'
        promise_taken = record {
          refused = λ c q. absurd (not_refused c q);
          leaves = λ q. (refl, o.1, l.few, replaced_worked work w room e, listed_used h.n _ literals literals' count l);
          right = λ q p s. record { said = implied (take count literals'); says = refl; right = answer p s; stands = taken_stands h work p s code low high w e room o.1 (made_after s) o.0 (take count literals') (answer p s) };
        }
          where
            fits : h.n ≤ length literals
            fits = (assume_judged h (length work) (length literals) code j).2

            test : (p : Position) (s : Stands h work p) (v : ℕ) → Var h.n v
                → is_new (w ++ drop size work) old (code / 2) v ≡ (made_after s).known v && (not (s.made.known v) && not (same (variable code) v))
            test p s zero mv = let a = mv.low in absurd (omega arith)
            test p s (suc i) mv =
                let b : i < 512 = let a = mv.high in let c = s.fit.vars in omega arith in
                three _ _ _ _ _ _
                (after_bit known_at (omega arith) i b ∙ (made_after s).values.knows i b)
                (slice_bit 8 known_at work old reads i (omega arith) ∙ sym (front_bit work room known_at (omega arith) i b) ∙ s.made.values.knows i b)
                (same_comm (suc i) (code / 2))

            sign : (p : Position) (s : Stands h work p) (v : ℕ) → Var h.n v → vals (w ++ drop size work) truth_at v ≡ (made_after s).truth v
            sign p s zero mv = let a = mv.low in absurd (omega arith)
            sign p s (suc i) mv =
                let b : i < 512 = let a = mv.high in let c = s.fit.vars in omega arith in
                after_bit truth_at (omega arith) i b ∙ (made_after s).values.trues i b

            answer : (p : Position) (s : Stands h work p) → AnswersAssume p code (implied (take count literals'))
            answer p s =
                subst (λ (ls : List ℕ). AnswersAssume p code (implied ls)) (sym (listed_take h.n _ literals literals' count l fits))
                (taken_answer h work p s code low high w e room o.1 (made_after s) o.0 (is_new (w ++ drop size work) old (code / 2)) (vals (w ++ drop size work) truth_at) (test p s) (sign p s))
