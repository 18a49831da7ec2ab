-- WHAT SETTLING THE ROWS LEAVES is what linear's Finished says, where a basic variable that had a value had the one that its row gives.
--   Settling r w       the rows below r have been settled
--   settle_finished    all rows have been; settle_rest, settle_within: the words around the values stay, and none is true without a value
--   follow_finished    the rows with variable i + 1 have been, and the others had given what they give; follow_rest, follow_within
-- Assumes nothing.
use mathlib.Core.Path.{◌≡◌, refl, sym, ap, ap₂, ◌∙◌}
use mathlib.Core.List.{List}
use mathlib.Core.Bool.{Bool, true, false, not, ◌&&◌, or-false}
use mathlib.Core.Logic.{◌⊎◌, inl, inr, ◌≢◌}
use Prim.Native.Nat.{ℕ, zero, suc, ◌-◌, ◌<◌, ◌≤◌}
use native.Mathlib.Nat.{not-suc-le-zero}
use native.Mathlib.Decide.{dec_le}
use native.Mathlib.Omega.{arith}
use lib.ListN.{get_or}
use Rattle.gf2.specs.Field.{◌⊕◌, xsum, same}
use Rattle.gf2.specs.Rows.{Var, Row, row_sum, Holds}
use Rattle.gf2.proofs.Field.{xor_out, xor_false, and_left_comm}
use Rattle.gf2.proofs.Sat.{value_cong, value_cong_on, value_xor, vsum_cong, vsum_one}
use Rattle.gf2.proofs.Search.{not_true}
use Rattle.gf2.proofs.Sums.{same_dec, same_refl, same_ne, bool_dec}
use Rattle.linear.specs.State.{Finished}
use Rattle.linear.specs.Systems.{Tableau, NonBasic, Decides}
use Rattle.linear.proofs.Assume.{clash}
use Rattle.linear.proofs.Exchange.{at_or_not}
use Rattle.words.specs.Words.{bit_at}
use Rattle.words.proofs.Parity.{rows_sum}
use Rattle.tableau.specs.Buffer.{basic_at, Chain}
use Rattle.tableau.specs.Layout.{max_vars, max_rows, row_at, known_at, truth_at, record_at}
use Rattle.tableau.proofs.Reading.{bit-of, rows_stay}
use Rattle.tableau.specs.View.{RowsRead, ValuesRead, vals}
use Rattle.settle.proofs.Putting.{Within, put_within}
use Rattle.settle.specs.Values.{value_at, lacks, Can, Put, RowSettled, RowFollowed}

-- the sum of a row under one more value
one_more : (n : ℕ) (c : Row) (u : ℕ) (b : Bool) → Var n u → row_sum n c (λ v. same u v && b) ≡ c u && b
unfolding row_sum
one_more n c u b m = vsum_cong n _ _ (λ v l. and_left_comm (c v) (same u v) b) ∙ vsum_one n u (λ v. c v && b) m

module _ (n k : ℕ) (ws : List ℕ) (R : ℕ → Row) (β : ℕ → ℕ) (S : ℕ → ℕ → Bool) (known truth : ℕ → Bool)
    (ln : n ≤ max_vars) (lk : k ≤ max_rows) (t : Tableau n k R β) (rr : RowsRead n k ws R β S) (vr : ValuesRead ws known truth)
    (kb : (r : ℕ) → r < k → known (β r) ≡ true → Decides n (R r) (β r) known × Holds n (R r) truth) where
  -- the rows below r have been settled
  pub record Settling (r : ℕ) (w : List ℕ) : Type 0 where
    pub rest : (i : ℕ) → (i < known_at) ⊎ (record_at ≤ i) → get_or w i 0 ≡ get_or ws i 0
    pub others : (i : ℕ) → i < max_vars → ((q : ℕ) → q < r → β q ≢ suc i) → (bit_at w known_at i ≡ known (suc i)) × (bit_at w truth_at i ≡ truth (suc i))
    pub if : (q : ℕ) → q < r → Decides n (R q) (β q) known → vals w known_at (β q) ≡ true
    pub only_if : (q : ℕ) → q < r → vals w known_at (β q) ≡ true → Decides n (R q) (β q) known
    pub value : (q : ℕ) → q < r → vals w known_at (β q) ≡ true → Holds n (R q) (vals w truth_at)
    pub within : Within w

  settling_none : Settling 0 ws
  settling_none =
      record {
        rest = λ i h. refl;
        others = λ i l h. (vr.knows i l, vr.trues i l);
        if = λ q l. absurd (not-suc-le-zero l);
        only_if = λ q l. absurd (not-suc-le-zero l);
        value = λ q l. absurd (not-suc-le-zero l);
        within = λ i l e. vr.knows i l ∙ vr.within i l (sym (vr.trues i l) ∙ e);
      }

  module _ (r : ℕ) (lr : r < k) (w : List ℕ) (st : Settling r w) where
    rw_read : RowsRead n k w R β S
    rw_read = rows_stay n k ws w R β S lk (λ i h. st.rest i (inl h)) rr

    mine : suc (β r - 1) ≡ β r
    mine = bit-of (β r) (t.var r lr).low

    small : β r - 1 < max_vars
    small = let h = (t.var r lr).high in let g = (t.var r lr).low in omega arith

    -- the variables of row r are as they were: none of them is basic in a row before it
    own_others : (i : ℕ) → R r (suc i) ≡ true → (q : ℕ) → q < r → β q ≢ suc i
    own_others i e q l z = clash (R r (suc i)) e (ap (R r) (sym z) ∙ t.alone q r (omega arith) lr (λ (y : q ≡ r). absurd (omega arith)))

    in_row : (i : ℕ) → i < max_vars → R r (suc i) ≡ true → (bit_at w known_at i ≡ known (suc i)) × (bit_at w truth_at i ≡ truth (suc i))
    in_row i l e = st.others i l (own_others i e)

    own : R r (suc (β r - 1)) ≡ true
    own = ap (R r) mine ∙ t.own r lr

    own_known : bit_at w known_at (β r - 1) ≡ known (β r)
    own_known = (in_row (β r - 1) small own).0 ∙ ap known mine

    own_value : vals w known_at (β r) ≡ known (β r)
    own_value = sym (ap (vals w known_at) mine) ∙ own_known

    own_truth : known (β r) ≡ false → bit_at w truth_at (β r - 1) ≡ false
    own_truth un = go (bool_dec (bit_at w truth_at (β r - 1)))
      where
        go : (bit_at w truth_at (β r - 1) ≡ true) ⊎ (bit_at w truth_at (β r - 1) ≡ false) → bit_at w truth_at (β r - 1) ≡ false
        go (inr e) = e
        go (inl e) = absurd (clash _ (st.within (β r - 1) small e) (own_known ∙ un))

    lacks_is : (i : ℕ) → i < max_vars → lacks w r i ≡ R r (suc i) && not (bit_at w known_at i)
    unfolding lacks
    lacks_is i l = ap (λ (x : Bool). x && not (bit_at w known_at i)) (rw_read.coefs r lr i l)

    in_range : (i : ℕ) → R r (suc i) ≡ true → Var n (suc i)
    in_range i e = record { low = omega arith; high = go (dec_le (suc i) n) }
      where
        go : Dec (suc i ≤ n) → suc i ≤ n
        go (yes h) = h
        go (no h) = absurd (clash (R r (suc i)) e (rr.clean r lr (suc i) (omega arith)))

    basic_is : basic_at w r ≡ β r
    basic_is = rw_read.basic r lr

    -- if all the others have a value, the row can give one, or has
    can : known (β r) ≡ false → Decides n (R r) (β r) known → Can w r
    can un h = record { low = rw basic_is (t.var r lr).low; high = rw basic_is (let g = (t.var r lr).high in omega arith); alone = rw basic_is alone }
      where
        alone : (i : ℕ) → i < max_vars → lacks w r i ≡ same (β r - 1) i
        alone i l = lacks_is i l ∙ go (same_dec (suc i) (β r)) (bool_dec (R r (suc i)))
          where
            go : (suc i ≡ β r) ⊎ (suc i ≢ β r) → (R r (suc i) ≡ true) ⊎ (R r (suc i) ≡ false) → R r (suc i) && not (bit_at w known_at i) ≡ same (β r - 1) i
            go (inl e) x =
                let q : β r - 1 ≡ i = omega arith in
                rw (ap (R r) e ∙ t.own r lr, sym (ap (bit_at w known_at) q) ∙ own_known ∙ un, q) (sym (same_refl i))
            go (inr d) (inr x) = rw (x) (sym (same_ne (β r - 1) i (λ z. d (ap suc (sym z) ∙ mine))))
            go (inr d) (inl x) = rw (x, (in_row i l x).0 ∙ h (suc i) (in_range i x) x d) (sym (same_ne (β r - 1) i (λ z. d (ap suc (sym z) ∙ mine))))

    complete : (Can w r → ⊥) → Decides n (R r) (β r) known → known (β r) ≡ true
    complete never h = go (bool_dec (known (β r)))
      where
        go : (known (β r) ≡ true) ⊎ (known (β r) ≡ false) → known (β r) ≡ true
        go (inl e) = e
        go (inr e) = absurd (never (can e h))

    -- ---- the row gives nothing
    settling_kept : (Decides n (R r) (β r) known → known (β r) ≡ true) → Settling (suc r) w
    settling_kept done =
        record {
          rest = st.rest;
          others = λ i l h. st.others i l (λ q x. h q (omega arith));
          if = at_or_not (suc r) r (λ q. Decides n (R q) (β q) known → vals w known_at (β q) ≡ true) (λ h. own_value ∙ done h) (λ q l d. st.if q (omega arith));
          only_if = at_or_not (suc r) r (λ q. vals w known_at (β q) ≡ true → Decides n (R q) (β q) known) (λ h. (had h).0) (λ q l d. st.only_if q (omega arith));
          value = at_or_not (suc r) r (λ q. vals w known_at (β q) ≡ true → Holds n (R q) (vals w truth_at)) (λ h. value_cong_on n (R r) (vals w truth_at) truth agrees ∙ (had h).1) (λ q l d. st.value q (omega arith));
          within = st.within;
        }
      where
        had : vals w known_at (β r) ≡ true → Decides n (R r) (β r) known × Holds n (R r) truth
        had h = kb r lr (sym own_value ∙ h)

        agrees : (v : ℕ) → Var n v → R r v ≡ true → vals w truth_at v ≡ truth v
        agrees zero m e = absurd (not-suc-le-zero m.low)
        agrees (suc i) m e = (in_row i (let h = m.high in omega arith) e).1

    -- ---- the row gives a value
    module _ (able : Can w r) (w' : List ℕ) (pt : Put (β r - 1) (value_at w r) w w') where
      -- it had given none before
      none : known (β r) ≡ false
      none = sym own_known ∙ not_true (bit_at w known_at (β r - 1)) (rw own at (sym (lacks_is (β r - 1) small) ∙ rw basic_is at (able.alone (β r - 1) small) ∙ same_refl (β r - 1)))

      away : (i : ℕ) → i < max_vars → suc i ≢ β r → (bit_at w' known_at i ≡ bit_at w known_at i) × (bit_at w' truth_at i ≡ bit_at w truth_at i)
      away i l d =
          let z = same_ne (β r - 1) i (λ e. d (ap suc (sym e) ∙ mine)) in
          (pt.known i l ∙ rw z (or-false _), pt.truth i l ∙ rw z (or-false _))

      away_vals : (v : ℕ) → Var n v → v ≢ β r → (vals w' known_at v ≡ vals w known_at v) × (vals w' truth_at v ≡ vals w truth_at v)
      away_vals zero m d = absurd (not-suc-le-zero m.low)
      away_vals (suc i) m d = away i (let h = m.high in omega arith) d

      here_known : vals w' known_at (β r) ≡ true
      here_known = sym (ap (vals w' known_at) mine) ∙ pt.known (β r - 1) small ∙ rw (own_known ∙ none, same_refl (β r - 1))

      -- the truth of all variables afterwards
      truth_is : (v : ℕ) → Var n v → vals w' truth_at v ≡ vals w truth_at v ⊕ (same (β r) v && value_at w r)
      truth_is v m = go (same_dec v (β r))
        where
          go : (v ≡ β r) ⊎ (v ≢ β r) → vals w' truth_at v ≡ vals w truth_at v ⊕ (same (β r) v && value_at w r)
          go (inr d) = rw (same_ne (β r) v (λ e. d (sym e))) ((away_vals v m d).1 ∙ sym (xor_false _))
          go (inl e) = rw (e, same_refl (β r)) (sym (ap (vals w' truth_at) mine) ∙ pt.truth (β r - 1) small ∙ rw (own_truth none, same_refl (β r - 1)) (sym (ap (λ (x : Bool). x ⊕ value_at w r) (sym (ap (vals w truth_at) mine) ∙ own_truth none))))

      row-sum : row_sum n (R r) (vals w truth_at) ≡ xsum max_vars (λ i. bit_at w (row_at r) i && bit_at w truth_at i)
      row-sum = rows_sum n max_vars w w (row_at r) truth_at (R r) (vals w truth_at) ln (rr.clean r lr) (rw_read.coefs r lr) (λ i l. refl)

      here_holds : Holds n (R r) (vals w' truth_at)
      here_holds =
          value_cong n (R r) (vals w' truth_at) (λ v. vals w truth_at v ⊕ (same (β r) v && value_at w r)) truth_is
          ∙ value_xor n (R r) (vals w truth_at) (λ v. same (β r) v && value_at w r)
          ∙ ap₂ ◌⊕◌ row-sum (one_more n (R r) (β r) (value_at w r) (t.var r lr) ∙ ap (λ (x : Bool). x && value_at w r) (t.own r lr) ∙ ap (λ (x : Bool). x ⊕ xsum max_vars (λ i. bit_at w (row_at r) i && bit_at w truth_at i)) (rw_read.parity r lr))
          ∙ xor_out (xsum max_vars (λ i. bit_at w (row_at r) i && bit_at w truth_at i)) (R r 0)

      only_here : Decides n (R r) (β r) known
      only_here zero m e d = absurd (not-suc-le-zero m.low)
      only_here (suc i) m e d =
          let l : i < max_vars = let h = m.high in omega arith in
          let a = rw basic_is at (able.alone i l) in
          sym (in_row i l e).0 ∙ full (bit_at w known_at i) (rw e at (sym (lacks_is i l) ∙ a ∙ same_ne (β r - 1) i (λ z. d (ap suc (sym z) ∙ mine))))
        where
          full : (x : Bool) → not x ≡ false → x ≡ true
          full true h = refl
          full false h = sym h

      before : (q : ℕ) → q < r → β q ≢ β r
      before q l e = own_others (β r - 1) own q l (e ∙ sym mine)

      settling_more : Settling (suc r) w'
      settling_more =
          record {
            rest = λ i h. pt.rest i h ∙ st.rest i h;
            others = λ i l h. let a = away i l (λ e. h r (omega arith) (sym e)) in let o = st.others i l (λ q x. h q (omega arith)) in (a.0 ∙ o.0, a.1 ∙ o.1);
            if = at_or_not (suc r) r (λ q. Decides n (R q) (β q) known → vals w' known_at (β q) ≡ true) (λ h. here_known)
                (λ q l d h. (old q l d).0 ∙ st.if q (omega arith) h);
            only_if = at_or_not (suc r) r (λ q. vals w' known_at (β q) ≡ true → Decides n (R q) (β q) known) (λ h. only_here)
                (λ q l d h. st.only_if q (omega arith) (sym (old q l d).0 ∙ h));
            value = at_or_not (suc r) r (λ q. vals w' known_at (β q) ≡ true → Holds n (R q) (vals w' truth_at)) (λ h. here_holds)
                (λ q l d h. value_cong_on n (R q) (vals w' truth_at) (vals w truth_at) (λ v m e. (away_vals v m (λ z. clash (R q v) e (ap (R q) z ∙ t.alone r q lr (omega arith) (λ (y : r ≡ q). d (sym y))))).1)
                ∙ st.value q (omega arith) (sym (old q l d).0 ∙ h));
            within = put_within w w' (β r - 1) (value_at w r) pt st.within;
          }
        where
          old : (q : ℕ) → q < suc r → q ≢ r → (vals w' known_at (β q) ≡ vals w known_at (β q)) × (vals w' truth_at (β q) ≡ vals w truth_at (β q))
          old q l d = away_vals (β q) (t.var q (omega arith)) (before q (omega arith))

    settling_step : (w' : List ℕ) → RowSettled r w w' → Settling (suc r) w'
    settling_step w' (inl h) = rw (← h.0) at (settling_kept (complete h.1))
    settling_step w' (inr h) = settling_more h.0 w' (rw basic_is at h.1)

  -- ---- every row has been settled
  settling : (r : ℕ) → r ≤ k → (w : List ℕ) → Chain RowSettled r ws w → Settling r w
  settling zero l w e = rw e settling_none
  settling (suc r) l w c = settling_step r l c.0 (settling r (omega arith) c.0 c.2) w c.3

  finished : (w : List ℕ) → Settling k w → Finished n k R β known truth (vals w known_at) (vals w truth_at)
  finished w s = record { free = free; if = s.if; only_if = s.only_if; value = s.value }
    where
      free : (v : ℕ) → Var n v → NonBasic k β v → (vals w known_at v ≡ known v) × (vals w truth_at v ≡ truth v)
      free zero m nb = absurd (not-suc-le-zero m.low)
      free (suc i) m nb = s.others i (let h = m.high in omega arith) nb

  module _ (w : List ℕ) (c : Chain RowSettled k ws w) where
    pub settle_finished : Finished n k R β known truth (vals w known_at) (vals w truth_at)
    settle_finished = finished w (settling k (omega arith) w c)

    pub settle_rest : (i : ℕ) → (i < known_at) ⊎ (record_at ≤ i) → get_or w i 0 ≡ get_or ws i 0
    settle_rest = (settling k (omega arith) w c).rest

    pub settle_within : Within w
    settle_within = (settling k (omega arith) w c).within

  -- ---- the rows with variable p + 1 have been settled; the others had given what they give
  module _ (p : ℕ) (lp : p < max_vars) (done : (r : ℕ) → r < k → R r (suc p) ≡ false → Decides n (R r) (β r) known → known (β r) ≡ true) where
    following_step : (r : ℕ) → r < k → (w : List ℕ) → Settling r w → (w' : List ℕ) → RowFollowed p r w w' → Settling (suc r) w'
    following_step r l w st w' (inl h) = rw (← h.0) at (settling_kept r l w st (done r l (sym ((rw_read r l w st).coefs r l p lp) ∙ h.1)))
    following_step r l w st w' (inr h) = settling_step r l w st w' h.1

    following : (r : ℕ) → r ≤ k → (w : List ℕ) → Chain (RowFollowed p) r ws w → Settling r w
    following zero l w e = rw e settling_none
    following (suc r) l w c = following_step r l c.0 (following r (omega arith) c.0 c.2) w c.3

    module _ (w : List ℕ) (c : Chain (RowFollowed p) k ws w) where
      pub follow_finished : Finished n k R β known truth (vals w known_at) (vals w truth_at)
      follow_finished = finished w (following k (omega arith) w c)

      pub follow_rest : (i : ℕ) → (i < known_at) ⊎ (record_at ≤ i) → get_or w i 0 ≡ get_or ws i 0
      follow_rest = (following k (omega arith) w c).rest

      pub follow_within : Within w
      follow_within = (following k (omega arith) w c).within
