-- WHAT A LITERAL DOES TO A STATE OF THE MODULE.
--   beq_other                            a fact that the code's test gives
--   known_bit, truth_bit                 the value of a variable, as it is read
--   FreeAt                               a state of the module in which v has no value and is not basic
--   step_made                            the answer to a literal is the definitions', and the state afterwards is one of the module
-- Assumes nothing.
use mathlib.Core.Path.{◌≡◌, sym, ap, ap₂, ◌∙◌}
use mathlib.Core.List.{List}
use mathlib.Core.Bool.{Bool, true, false, not, beq, ◌&&◌}
use mathlib.Core.Logic.{◌⊎◌, inl, inr, ◌≢◌}
use Prim.Native.Nat.{ℕ, suc, ◌+◌, ◌-◌, ◌/◌, ◌<◌, ◌≤◌}
use native.Mathlib.Omega.{arith}
use lib.ListN.{length, get_or}
use Rattle.std.specs.Prelude.{None}
use Rattle.gf2.specs.Rows.{Var, Row}
use Rattle.gf2.specs.Answers.{variable, value}
use Rattle.gf2.proofs.Search.{and_both, not_true, beq_same}
use Rattle.gf2.proofs.Sums.{same_refl, same_ne, bool_dec}
use Rattle.linear.specs.State.{with_at, with_bool}
use Rattle.linear.specs.Systems.{Implied, Conflict, And, Literals, NonBasic, pivot, repoint}
use Rattle.linear.proofs.Assume.{clash}
use Rattle.linear.proofs.Pigeons.{room}
use Rattle.linear.proofs.Tableaux.{basic_dec}
use Rattle.linear.proofs.Assuming.{given, conflicts, partner, passed, exchange_made, exchange_frees, taken_more}
use Rattle.linear.proofs.Exchange.{at_or_not}
use Rattle.words.specs.Words.{bit_at}
use Rattle.words.proofs.Bits.{bit_same}
use Rattle.tableau.specs.Buffer.{basic_at, entry_at, home_at, Recorded, Homed}
use Rattle.tableau.specs.Layout.{max_vars, known_at, truth_at, row_at, size}
use Rattle.tableau.specs.View.{RowsRead, LitsRead, MadeAt}
use Rattle.tableau.proofs.Reading.{rows_stay, entry_stay, homed_other, lits_stay, bit-of}
use Rattle.settle.specs.Values.{lacks, Followed}
use Rattle.settle.proofs.Follows.{follow_made}
use Rattle.exchange.specs.declared.Offer.{Offer}
use Rattle.exchange.specs.declared.Offer.TheVariants as offer
use Rattle.exchange.specs.Steps.{IsPartner, Partner, FoundAt, Found, Exchanged, Took, followed, turned, stuck, Stepped, OfferOutcome}
use Rattle.exchange.proofs.Exchanges.{exchange_rows, exchange_rest, exchange_homes}
use Rattle.exchange.proofs.Finds.{found_none}
use Rattle.exchange.proofs.Turns.{Apart, turned_apart}

-- `==` of two bools
pub beq_other : (a b : Bool) → beq a b ≡ false → a ≢ b
beq_other a b h e = clash (beq a b) (beq_same a b e) h

-- ---- a variable without a value is made non-basic
pub record FreeAt (ws : List ℕ) (n m : ℕ) (Sheet : ℕ → Row) (kept : ℕ → Bool) (d : ℕ) (x : ℕ → ℕ) (y : ℕ → Bool) (k v : ℕ) : Type 0 where
  pub at : MadeAt ws n m Sheet kept d x y k
  pub nonbasic : NonBasic k at.β v
  pub unknown : at.known v ≡ false

module _ (n m : ℕ) (Sheet : ℕ → Row) (kept : ℕ → Bool) (d : ℕ) (x : ℕ → ℕ) (y : ℕ → Bool) (k : ℕ) (ws : List ℕ) (s : MadeAt ws n m Sheet kept d x y k) where
  pub known_bit : (v : ℕ) → Var n v → bit_at ws known_at (v - 1) ≡ s.known v
  known_bit v mv = let a = mv.low in let b = mv.high in let c = s.vars in s.values.knows (v - 1) (omega arith) ∙ ap s.known (bit-of v mv.low)

  pub truth_bit : (v : ℕ) → Var n v → bit_at ws truth_at (v - 1) ≡ s.truth v
  truth_bit v mv = let a = mv.low in let b = mv.high in let c = s.vars in s.values.trues (v - 1) (omega arith) ∙ ap s.truth (bit-of v mv.low)

  -- bit i of row p has no value
  lacks_is : (p : ℕ) → p < k → (i : ℕ) → i < max_vars → lacks ws p i ≡ s.R p (suc i) && not (s.known (suc i))
  unfolding lacks
  lacks_is p l i h = ap₂ (λ (a b : Bool). a && not b) (s.rows.coefs p l i h) (s.values.knows i h)

  module _ (v : ℕ) (mv : Var n v) (un : s.known v ≡ false) where
    -- the coefficient of v in a row, as it is read
    own_bits : (r : ℕ) → r < k → bit_at ws (row_at r) (v - 1) ≡ s.R r v
    own_bits r l = let a = mv.low in let b = mv.high in let c = s.vars in s.rows.coefs r l (v - 1) (omega arith) ∙ ap (s.R r) (bit-of v mv.low)

    free_at : Found ws k v None → FreeAt ws n m Sheet kept d x y k v
    free_at f = record { at = s; nonbasic = found_none k v ws s.β s.homes s.rows.basic f; unknown = un }

    module _ (p : ℕ) (f : FoundAt ws k v p) where
      here : s.β p ≡ v
      here = sym (s.rows.basic p f.below) ∙ f.basic

      in_row : bit_at ws (row_at p) (v - 1) ≡ true
      in_row = own_bits p f.below ∙ ap (s.R p) (sym here) ∙ s.made.built.tableau.own p f.below

      in_no_other : (r : ℕ) → r < k → r ≢ p → bit_at ws (row_at r) (v - 1) ≡ false
      in_no_other r lr e = own_bits r lr ∙ ap (s.R r) (sym here) ∙ s.made.built.tableau.alone p r f.below lr (λ z. e (sym z))

      never_stuck : Partner ws p (v - 1) None → ⊥
      never_stuck q =
          let o = partner n m Sheet kept d x y k s.R s.β s.S s.known s.truth s.made p f.below (ap s.known here ∙ un) in
          let lo = o.1.low in
          let hi = o.1.high in
          let c = s.vars in
          let e = bit-of o.0 lo in
          let i : o.0 - 1 < max_vars = omega arith in
          clash (lacks ws p (o.0 - 1))
          (lacks_is p f.below (o.0 - 1) i ∙ rw (ap (s.R p) e ∙ o.2, ap s.known e ∙ o.4))
          (q (o.0 - 1) i (λ z. o.3 (sym e ∙ ap suc z ∙ bit-of v mv.low ∙ sym here)))

      moved_at : (u : ℕ) (z w : List ℕ) → length w ≡ length ws → IsPartner ws p (v - 1) u → Homed u p ws z → Exchanged k p u z w → FreeAt w n m Sheet kept d x y k v
      moved_at u z w len q home ex =
          record { at = after; nonbasic = rw here at (exchange_frees n m Sheet kept d x y k s.R s.β s.S s.known s.truth s.made p u f.below mu ru du ku kp); unknown = un }
        where
          e : suc (u - 1) ≡ u
          e = bit-of u q.first

          parts : (s.R p (suc (u - 1)) ≡ true) × (not (s.known (suc (u - 1))) ≡ true)
          parts = let lo = q.first in let hi = q.last in and_both _ _ (sym (lacks_is p f.below (u - 1) (omega arith)) ∙ q.free)

          ru : s.R p u ≡ true
          ru = rw e at parts.0

          ku : s.known u ≡ false
          ku = rw e at (not_true _ parts.1)

          kp : s.known (s.β p) ≡ false
          kp = ap s.known here ∙ un

          du : u ≢ s.β p
          du g = q.other (ap (λ (t : ℕ). t - 1) (g ∙ here))

          mu : Var n u
          mu = record { low = q.first; high = inside (bool_dec (s.R p u)) }
            where
              inside : (s.R p u ≡ true) ⊎ (s.R p u ≡ false) → u ≤ n
              inside h = le u n (λ g. clash (s.R p u) ru (s.rows.clean p f.below u g))
                where
                  le : (a b : ℕ) → (b < a → ⊥) → a ≤ b
                  le a b g = omega (arith, g)

          rows : RowsRead n k z s.R s.β s.S
          rows = rows_stay n k ws z s.R s.β s.S s.few (λ j h. home.rest j (omega arith)) s.rows

          big : size ≤ length z
          big = let h = s.room in let g = home.len in omega arith

          rest : (j : ℕ) → known_at ≤ j → get_or w j 0 ≡ get_or z j 0
          rest = exchange_rest n k z s.R s.β s.S p u s.few f.below q.first q.last rows w big ex

          -- a row but p has another basic variable than u, which row p has
          at_home : (r : ℕ) → r < k → r ≢ p → home_at z (basic_at z r) ≡ r
          at_home r lr e =
              let c = s.few in
              let b = s.rows.basic r lr in
              let lo = (s.made.built.tableau.var r lr).low in
              homed_other u p ws z home r (omega arith) (omega arith) (λ g. clash (s.R p u) ru (ap (s.R p) (sym g ∙ b) ∙ s.made.built.tableau.alone r p lr f.below e)) (s.homes r lr)

          after : MadeAt w n m Sheet kept d x y k
          after =
              record {
                R = pivot s.R p u;
                β = repoint s.β p u;
                S = passed s.S s.R p u;
                known = s.known;
                truth = s.truth;
                vars = s.vars;
                few = s.few;
                room = let h = s.room in omega arith;
                rows = exchange_rows n k z s.R s.β s.S p u s.few f.below q.first q.last rows w big ex;
                values = record {
                  within = s.values.within;
                  knows = λ j h. bit_same ws w known_at known_at j (rest (known_at + j / 64) (omega arith) ∙ home.rest (known_at + j / 64) (omega arith)) ∙ s.values.knows j h;
                  trues = λ j h. bit_same ws w truth_at truth_at j (rest (truth_at + j / 64) (omega arith) ∙ home.rest (truth_at + j / 64) (omega arith)) ∙ s.values.trues j h;
                };
                lits = lits_stay d ws w x y (λ j h. entry_stay z w (λ i g. rest i (omega arith)) j ∙ home.entries j) s.lits;
                homes = exchange_homes n k z s.R s.β s.S p u s.few f.below q.first q.last rows w big ex home.here at_home;
                made = exchange_made n m Sheet kept d x y k s.R s.β s.S s.known s.truth s.made p u f.below mu ru du ku kp;
              }

-- ---- a literal is taken
module _ (n m : ℕ) (Sheet : ℕ → Row) (kept : ℕ → Bool) (d : ℕ) (x : ℕ → ℕ) (y : ℕ → Bool) (k : ℕ) (ws : List ℕ) (code : ℕ) where
  at_here : with_at x d (variable code) d ≡ variable code
  unfolding with_at
  at_here = rw (same_refl d)

  at_below : (j : ℕ) → j < d → with_at x d (variable code) j ≡ x j
  unfolding with_at
  at_below j l = rw (same_ne j d (λ (z : j ≡ d). absurd (omega arith)))

  bool_here : with_bool y d (value code) d ≡ value code
  unfolding with_bool
  bool_here = rw (same_refl d)

  bool_below : (j : ℕ) → j < d → with_bool y d (value code) j ≡ y j
  unfolding with_bool
  bool_below j l = rw (same_ne j d (λ (z : j ≡ d). absurd (omega arith)))

  take-made : Var n (variable code) → (r : FreeAt ws n m Sheet kept d x y k (variable code)) → (v w : List ℕ) → Recorded d code ws v → length w ≡ length ws → Followed k (variable code - 1) (value code) v w
      → MadeAt w n m Sheet kept (suc d) (with_at x d (variable code)) (with_bool y d (value code)) k
  take-made mv r v w rc len f =
      follow_made n m Sheet kept d x y k ws s (variable code) (value code) mv r.nonbasic r.unknown (with_at x d (variable code)) (with_bool y d (value code)) at_below bool_below at_here bool_here
      (taken_more n m Sheet kept d x y k s.R s.β s.S s.known s.truth s.made (variable code) mv r.nonbasic r.unknown (with_at x d (variable code)) at_below at_here)
      v w len rc.rest rc.homes lits f
    where
      s : MadeAt ws n m Sheet kept d x y k
      s = r.at

      lits : LitsRead (suc d) v (with_at x d (variable code)) (with_bool y d (value code))
      lits = record {
        var = at_or_not (suc d) d (λ j. variable (entry_at v j) ≡ with_at x d (variable code) j) (ap variable rc.here ∙ sym at_here)
            (λ j l e. ap variable (rc.others j e) ∙ s.lits.var j (omega arith) ∙ sym (at_below j (omega arith)));
        val = at_or_not (suc d) d (λ j. value (entry_at v j) ≡ with_bool y d (value code) j) (ap value rc.here ∙ sym bool_here)
            (λ j l e. ap value (rc.others j e) ∙ s.lits.val j (omega arith) ∙ sym (bool_below j (omega arith)));
      }

-- ---- the answer to a literal
module _ (n m : ℕ) (Sheet : ℕ → Row) (kept : ℕ → Bool) (d : ℕ) (x : ℕ → ℕ) (y : ℕ → Bool) (k : ℕ) (ws : List ℕ) (code : ℕ) (mv : Var n (variable code)) (s : MadeAt ws n m Sheet kept d x y k) where
  facts : ((known : s.known (variable code) ≡ true) → s.truth (variable code) ≡ value code → Implied n m Sheet (Literals d x y) (variable code) (value code))
      × ((known : s.known (variable code) ≡ true) → s.truth (variable code) ≢ value code → Conflict n m Sheet (And (Literals d x y) (variable code) (value code)))
      × ((unknown : s.known (variable code) ≡ false) → Implied n m Sheet (Literals d x y) (variable code) (value code) → ⊥)
      × ((unknown : s.known (variable code) ≡ false) → Conflict n m Sheet (And (Literals d x y) (variable code) (value code)) → ⊥)
  facts =
      let g = given n m Sheet kept d x y k s.R s.β s.S s.known s.truth s.made (variable code) (value code) mv in
      let c = conflicts n m Sheet kept d x y k s.R s.β s.S s.known s.truth s.made (variable code) (value code) mv in
      (λ e f. g.0 (e, f), λ e f. c.0 (e, f), λ e i. clash _ (g.1 i).0 e, λ e i. clash _ (c.1 i).0 e)

  -- kept rows and taken literals are at most n: where n literals are taken, every variable has a value
  never_full : s.known (variable code) ≡ false → n ≤ d → ⊥
  never_full un f = go (basic_dec n k s.R s.β s.made.built.tableau (variable code))
    where
      go : ((r : ℕ) × (r < k) × (s.β r ≡ variable code)) ⊎ NonBasic k s.β (variable code) → ⊥
      go (inl w) =
          let l = w.1 in
          let b = room n k s.R s.β d x s.made.built.tableau s.made.taken in
          omega arith
      go (inr w) =
          let t = taken_more n m Sheet kept d x y k s.R s.β s.S s.known s.truth s.made (variable code) mv w un (with_at x d (variable code)) (at_below n m Sheet kept d x y k ws code) (at_here n m Sheet kept d x y k ws code) in
          let b = room n k s.R s.β (suc d) (with_at x d (variable code)) s.made.built.tableau t in
          omega arith

  pub step_made : (w : List ℕ) (ans : Offer) → length w ≡ length ws → Stepped k n d code ws w ans → OfferOutcome n m Sheet kept d x y k (variable code) (value code) w ans
  step_made w offer.Held len (z, e, f) =
      (facts.0 (sym (known_bit n m Sheet kept d x y k ws s (variable code) mv) ∙ e) (sym (truth_bit n m Sheet kept d x y k ws s (variable code) mv) ∙ f), rw z s)
  step_made w offer.Conflict len (z, e, f) =
      (facts.1 (sym (known_bit n m Sheet kept d x y k ws s (variable code) mv) ∙ e) (λ g. f (truth_bit n m Sheet kept d x y k ws s (variable code) mv ∙ g)), rw z s)
  step_made w offer.Stuck len (z, e, inl f) = never_full (sym (known_bit n m Sheet kept d x y k ws s (variable code) mv) ∙ e) f
  step_made w offer.Stuck len (z, e, inr (stuck p f q g)) =
      never_stuck n m Sheet kept d x y k ws s (variable code) mv (sym (known_bit n m Sheet kept d x y k ws s (variable code) mv) ∙ e) p f q
  step_made w offer.Taken len (e, l, f) = (facts.2 un, facts.3 un, go f)
    where
      un : s.known (variable code) ≡ false
      un = sym (known_bit n m Sheet kept d x y k ws s (variable code) mv) ∙ e

      go : Took k d code ws w true → MadeAt w n m Sheet kept (suc d) (with_at x d (variable code)) (with_bool y d (value code)) k
      go (followed v f rc fo) = take-made n m Sheet kept d x y k ws code mv (free_at n m Sheet kept d x y k ws s (variable code) mv un f) v w rc len fo
      go (turned p u z v f q home rc tu) =
          take-made n m Sheet kept d x y k a.exchanged code mv (moved_at n m Sheet kept d x y k ws s (variable code) mv un p f u z a.exchanged (a.long ∙ home.len) q home a.move) a.recorded w a.entry (len ∙ sym (a.long ∙ home.len)) a.values
        where
          lo : 0 < variable code
          lo = mv.low

          hi : variable code ≤ max_vars
          hi = let h = mv.high in let c = s.vars in omega arith

          -- the rows after the home has been set
          same_row : (r : ℕ) → r < k → bit_at z (row_at r) (variable code - 1) ≡ bit_at ws (row_at r) (variable code - 1)
          same_row r lr = let c = s.few in bit_same ws z (row_at r) (row_at r) (variable code - 1) (home.rest (row_at r + (variable code - 1) / 64) (omega (arith, lo, hi)))

          a : Apart k p u (variable code - 1) (value code) d code z w
          a =
              turned_apart k p u (variable code - 1) (value code) d code z v w s.few f.below q.last (omega (arith, lo, hi)) (let b = s.room in let g = home.len in omega arith) (len ∙ sym home.len)
              (λ r lr e. same_row r lr ∙ in_no_other n m Sheet kept d x y k ws s (variable code) mv un p f r lr e) (same_row p f.below ∙ in_row n m Sheet kept d x y k ws s (variable code) mv un p f) rc tu
