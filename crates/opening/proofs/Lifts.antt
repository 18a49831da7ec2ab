-- WHAT A ROW OF THE STORE DOES TO THE ROWS that the buffer holds: linear's reduction, and its insertion or rejection.
--   Slot n k w a s     row k reads as a, with the provenance s, and has no basic variable yet
--   slot_rows          the rows with row k behind them
--   picked r           the provenance of the row once it is reduced by the rows below r
--   open_step          the answer to one row of the sheet
-- Assumes nothing.
use mathlib.Core.Path.{◌≡◌, sym, ap, ap₂, ◌∙◌}
use mathlib.Core.List.{List}
use mathlib.Core.Bool.{Bool, true, false, ◌&&◌, and-false, true≢false}
use mathlib.Core.Logic.{inl, inr, ◌≢◌}
use Prim.Native.Nat.{ℕ, zero, suc, ◌+◌, ◌*◌, ◌-◌, ◌/◌, ◌%◌, ◌<◌, ◌≤◌}
use native.Mathlib.Nat.{not-suc-le-zero}
use native.Mathlib.Omega.{arith}
use native.Mathlib.Numerals.{add-one}
use lib.ListN.{length, get_or}
use Rattle.gf2.specs.Field.{◌⊕◌, xsum, same}
use Rattle.gf2.specs.Rows.{Var, Row, SameCoefs}
use Rattle.gf2.proofs.Field.{xor_false, xor_assoc}
use Rattle.gf2.proofs.Sums.{sum_last, sum_cong, sum_false}
use Rattle.linear.specs.State.{KeptPlaces}
use Rattle.linear.specs.Systems.{combine, Tableau, reduce, extend, pivot, repoint}
use Rattle.linear.proofs.Assuming.{passed}
use Rattle.linear.proofs.Exchange.{at_or_not, repoint_at, repoint_other}
use Rattle.linear.proofs.Insert.{extend_at, extend_other, reduce_basic, below}
use Rattle.linear.proofs.Opening.{reduce_more, left_over, others, source, skip_built, fails, insert_built}
use Rattle.words.specs.Words.{digit, bit_at}
use Rattle.words.proofs.Bits.{bit_same, bit_added, own_at}
use Rattle.tableau.specs.Buffer.{basic_at, home_at, parity_at, Added, Homed, Chain}
use Rattle.tableau.specs.Layout.{max_vars, max_rows, row_bits, row_at, from_at, last_at, size}
use Rattle.tableau.specs.View.{RowsRead, BuiltAt}
use Rattle.tableau.proofs.Reading.{bit-of, rows_below, rows_stay, homed_other, prov_bit, digit_sum, basic_kept}
use Rattle.exchange.proofs.Exchanges.{exchange_rows, exchange_homes}
use Rattle.exchange.specs.Steps.{Exchanged}
use Rattle.std.specs.Prelude.{Result, Ok, Err}
use Rattle.opening.specs.declared.Contradiction.{Contradiction}
use Rattle.opening.specs.Opened.{Loaded, Reduced, LowestAt, NoneAt, RowDone, RowOutcome}
use Rattle.words.specs.Store.{StoreRead}
use Rattle.opening.proofs.Homes.{homes_loaded, homes_chain}

-- row k of the buffer, which has no basic variable yet
pub record Slot (n k : ℕ) (w : List ℕ) (a : Row) (s : ℕ → Bool) : Type 0 where
  pub coefs : (i : ℕ) → i < max_vars → bit_at w (row_at k) i ≡ a (suc i)
  pub parity : parity_at w k ≡ a 0
  pub basic : basic_at w k ≡ 0
  pub from : (j : ℕ) → j < max_rows → bit_at w (from_at k) j ≡ s j
  pub clean : (v : ℕ) → n < v → a v ≡ false

slot_same : (n k : ℕ) (w : List ℕ) (a b : Row) (s t : ℕ → Bool) → ((v : ℕ) → a v ≡ b v) → ((j : ℕ) → s j ≡ t j) → Slot n k w a s → Slot n k w b t
slot_same n k w a b s t e f h =
    record { coefs = λ i l. h.coefs i l ∙ e (suc i); parity = h.parity ∙ e 0; basic = h.basic; from = λ j l. h.from j l ∙ f j; clean = λ v l. sym (e v) ∙ h.clean v l }

-- the rows with row k behind them
slot_rows : (n k : ℕ) (w : List ℕ) (R : ℕ → Row) (β : ℕ → ℕ) (S : ℕ → ℕ → Bool) (a : Row) (s : ℕ → Bool) → RowsRead n k w R β S → Slot n k w a s → RowsRead n (suc k) w (extend R k a) (repoint β k 0) (extend S k s)
slot_rows n k w R β S a s rr sl =
    record {
      coefs = at_or_not (suc k) k (λ r. (i : ℕ) → i < max_vars → bit_at w (row_at r) i ≡ extend R k a r (suc i)) (rw (extend_at R k a) sl.coefs) (λ r l d. rw (extend_other R k a r d) (rr.coefs r (below k r l d)));
      parity = at_or_not (suc k) k (λ r. parity_at w r ≡ extend R k a r 0) (rw (extend_at R k a) sl.parity) (λ r l d. rw (extend_other R k a r d) (rr.parity r (below k r l d)));
      basic = at_or_not (suc k) k (λ r. basic_at w r ≡ repoint β k 0 r) (rw (repoint_at β k 0) sl.basic) (λ r l d. rw (repoint_other β k 0 r d) (rr.basic r (below k r l d)));
      from = at_or_not (suc k) k (λ r. (j : ℕ) → j < max_rows → bit_at w (from_at r) j ≡ extend S k s r j) (rw (extend_at S k s) sl.from) (λ r l d. rw (extend_other S k s r d) (rr.from r (below k r l d)));
      clean = at_or_not (suc k) k (λ r. (v : ℕ) → n < v → extend R k a r v ≡ false) (rw (extend_at R k a) sl.clean) (λ r l d. rw (extend_other R k a r d) (rr.clean r (below k r l d)));
    }

rows_basic : (n k : ℕ) (w : List ℕ) (R : ℕ → Row) (β β' : ℕ → ℕ) (S : ℕ → ℕ → Bool) → ((r : ℕ) → r < k → β r ≡ β' r) → RowsRead n k w R β S → RowsRead n k w R β' S
rows_basic n k w R β β' S e rr = record { coefs = rr.coefs; parity = rr.parity; basic = λ r l. rr.basic r l ∙ e r l; from = rr.from; clean = rr.clean }

-- ---- sums so far
module _ (n k : ℕ) (R : ℕ → Row) (β : ℕ → ℕ) (S : ℕ → ℕ → Bool) (t : Tableau n k R β) (c : Row) (q : ℕ) where
  abbrev picked : ℕ → ℕ → Bool
  picked r j = same q j ⊕ combine r (λ p. c (β p)) S j

  reduce_none : (v : ℕ) → c v ≡ reduce 0 R β c v
  unfolding reduce combine xsum
  reduce_none v = sym (xor_false (c v))

  picked_none : (j : ℕ) → same q j ≡ picked 0 j
  unfolding combine xsum
  picked_none j = sym (xor_false (same q j))

  -- the basic variable of row r is not touched before row r
  reduce_same : (r : ℕ) → r < k → reduce r R β c (β r) ≡ c (β r)
  unfolding reduce combine
  reduce_same r l =
      ap (λ (z : Bool). c (β r) ⊕ z) (sum_cong r _ (λ p. false) (λ p h. ap (λ (z : Bool). c (β p) && z) (t.alone r p l (omega arith) (λ (e : r ≡ p). absurd (omega arith))) ∙ and-false (c (β p))) ∙ sum_false r)
      ∙ xor_false (c (β r))

  picked_more : (r : ℕ) → r < k → (j : ℕ) → picked (suc r) j ≡ picked r j ⊕ (reduce r R β c (β r) && S r j)
  unfolding combine
  picked_more r l j =
      ap (λ (z : Bool). same q j ⊕ z) (sum_last r (λ p. c (β p) && S p j))
      ∙ sym (xor_assoc (same q j) _ _)
      ∙ ap (λ (z : Bool). same q j ⊕ xsum r (λ p. c (β p) && S p j) ⊕ (z && S r j)) (sym (reduce_same r l))

  -- ---- one turn
  module _ (ln : n ≤ max_vars) (lk : k < max_rows) (r : ℕ) (lr : r < k) (w w' : List ℕ) (rr : RowsRead n k w R β S) (sl : Slot n k w (reduce r R β c) (picked r)) where
    test : bit_at w (row_at k) (basic_at w r - 1) ≡ reduce r R β c (β r)
    test =
        let lo = (t.var r lr).low in
        let hi = (t.var r lr).high in
        ap (λ (z : ℕ). bit_at w (row_at k) (z - 1)) (rr.basic r lr) ∙ sl.coefs (β r - 1) (omega arith) ∙ ap (reduce r R β c) (bit-of (β r) lo)

    turn_kept : reduce r R β c (β r) ≡ false → Slot n k w (reduce (suc r) R β c) (picked (suc r))
    turn_kept e = slot_same n k w _ _ _ _ (λ v. sym (reduce_more n k R β t c r lr v ∙ rw e (xor_false _))) (λ j. sym (picked_more r lr j ∙ rw e (xor_false _))) sl

    turn_added : reduce r R β c (β r) ≡ true → Added r k w w' → Slot n k w' (reduce (suc r) R β c) (picked (suc r))
    turn_added e a =
        slot_same n k w' (λ v. reduce r R β c v ⊕ R r v) _ (λ j. picked r j ⊕ S r j) _ (λ v. sym (reduce_more n k R β t c r lr v ∙ rw e)) (λ j. sym (picked_more r lr j ∙ rw e))
        (record {
          coefs = λ i l. bits i (omega arith) ∙ ap₂ ◌⊕◌ (sl.coefs i l) (rr.coefs r lr i l);
          parity = ap (λ (x : ℕ). digit (x % 2)) a.last ∙ digit_sum (get_or w (last_at k) 0) (get_or w (last_at r) 0) ∙ ap₂ ◌⊕◌ sl.parity (rr.parity r lr);
          basic = basic_kept (get_or w' (last_at k) 0) (get_or w (last_at k) 0) (get_or w (last_at r) 0) a.last ∙ sl.basic;
          from = λ j l. prov_bit w' (row_at k) j ∙ bits (max_vars + j) (omega arith) ∙ ap₂ ◌⊕◌ (sym (prov_bit w (row_at k) j) ∙ sl.from j l) (sym (prov_bit w (row_at r) j) ∙ rr.from r lr j l);
          clean = λ v l. rw (sl.clean v l, rr.clean r lr v l);
        })
      where
        bits : (i : ℕ) → i < row_bits → bit_at w' (row_at k) i ≡ bit_at w (row_at k) i ⊕ bit_at w (row_at r) i
        bits i l = bit_added w w' (row_at k) (row_at k) (row_at r) i (a.bits (i / 64) (omega arith))

    turn : Reduced k r w w' → RowsRead n k w' R β S × Slot n k w' (reduce (suc r) R β c) (picked (suc r))
    turn (inl h) = rw h.0 (rr, turn_kept (sym test ∙ h.1))
    turn (inr h) = (rows_below n k w w' R β S (λ i l. h.1.rest i (inl l)) rr, turn_added (sym test ∙ h.0) h.1)

  reduced : n ≤ max_vars → k < max_rows → (ws : List ℕ) → RowsRead n k ws R β S → Slot n k ws c (same q) → (r : ℕ) → r ≤ k → (w : List ℕ) → Chain (Reduced k) r ws w → RowsRead n k w R β S × Slot n k w (reduce r R β c) (picked r)
  reduced ln lk ws rr sl zero l w e = rw e (rr, slot_same n k ws c (reduce 0 R β c) (same q) (picked 0) reduce_none picked_none sl)
  reduced ln lk ws rr sl (suc r) l w h =
      let s = reduced ln lk ws rr sl r (omega arith) h.0 h.2 in turn ln lk r l h.0 w s.0 s.1 h.3

-- ---- a row of the sheet
module _ (n m : ℕ) (Sheet : ℕ → Row) (kept : ℕ → Bool) (kp : KeptPlaces n m Sheet kept) (store : List ℕ) (st : StoreRead n m store Sheet) (ln : n ≤ max_vars) (lm : m ≤ max_rows)
    (q k : ℕ) (lq : q < m) (lk : k < max_rows) (ws : List ℕ) (big : size ≤ length ws) (b : BuiltAt ws n m Sheet kept q k) where
  loaded : (a : List ℕ) → Loaded q k store ws a → RowsRead n k a b.R b.β b.S × Slot n k a (Sheet q) (same q)
  loaded a h = (
    rows_below n k ws a b.R b.β b.S (λ i l. h.rest i (inl l)) b.rows,
    record {
      coefs = λ i l. bit_same store a (9 * q) (row_at k) i (h.coefs (i / 64) (omega arith)) ∙ st.coefs q lq i l;
      parity = ap digit (low (get_or a (last_at k) 0) (get_or store (9 * q + 8) 0) h.last) ∙ st.parity q lq;
      basic = high (get_or a (last_at k) 0) (get_or store (9 * q + 8) 0) h.last;
      from = λ j l. own_at a (from_at k) q j (h.from (j / 64) (omega arith));
      clean = st.clean q lq;
    },
  )
    where
      low : (x y : ℕ) → x ≡ y % 2 → x % 2 ≡ y % 2
      low x y e = omega arith

      high : (x y : ℕ) → x ≡ y % 2 → x / 2 ≡ 0
      high x y e = omega arith

  abbrev left : Row
  left = left_over n m Sheet kept kp q lq k b.R b.β b.S b.built

  abbrev src : ℕ → Bool
  src = source n m Sheet kept kp q lq k b.R b.β b.S b.built

  after : (a w : List ℕ) → Loaded q k store ws a → Chain (Reduced k) k a w → RowsRead n k w b.R b.β b.S × Slot n k w left src
  after a w h c = let l = loaded a h in reduced n k b.R b.β b.S b.built.tableau (Sheet q) q ln lk a l.0 l.1 k (omega arith) w c

  none_coefs : (w : List ℕ) → Slot n k w left src → NoneAt w k → SameCoefs n left (λ v. false)
  none_coefs w sl s zero mv = absurd (not-suc-le-zero mv.low)
  none_coefs w sl s (suc i) mv = let h = mv.high in let l : i < max_vars = omega arith in sym (sl.coefs i l) ∙ s i l

  -- a variable is left: it becomes basic in the new row
  grown : (w a v z : List ℕ) (u : ℕ) → Loaded q k store ws a → Chain (Reduced k) k a v → LowestAt v k u → length v ≡ length ws → Homed u k v z
      → Exchanged (k + 1) k u z w → BuiltAt w n m Sheet kept (suc q) (suc k)
  grown w a v z u h c s len home ex = more (u - 1) (bit-of u pos)
    where
      pos : 0 < u
      pos = s.first

      f : RowsRead n k v b.R b.β b.S × Slot n k v left src
      f = after a v h c

      -- the rows with row k behind them, after its home has been set
      rows : RowsRead n (suc k) z (extend b.R k left) (repoint b.β k 0) (extend b.S k src)
      rows = rows_stay n (suc k) v z _ _ _ lk (λ i l. home.rest i (omega arith)) (slot_rows n k v b.R b.β b.S left src f.0 f.1)

      more : (i : ℕ) → suc i ≡ u → BuiltAt w n m Sheet kept (suc q) (suc k)
      more i e =
          record {
            R = pivot (extend b.R k left) k u;
            β = repoint b.β k u;
            S = passed (extend b.S k src) (extend b.R k left) k u;
            rows = rows_basic n (suc k) w _ _ _ _ twice (exchange_rows n (suc k) z _ _ _ k u lk (omega arith) pos upper rows w room moved);
            homes = exchange_homes n (suc k) z _ _ _ k u lk (omega arith) pos upper rows w room moved home.here at_home;
            built = insert_built n m Sheet kept kp q lq k b.R b.β b.S b.built u mu eu;
          }
        where
          upper : u ≤ max_vars
          upper = s.last

          room : size ≤ length z
          room = omega (arith, home.len)

          moved : Exchanged (suc k) k u z w
          moved = rw (add-one k) at ex

          small : i < max_vars
          small = let h = s.last in omega arith

          eu : left u ≡ true
          eu = let q : i ≡ u - 1 = omega arith in ap left (sym e) ∙ sym (f.1.coefs i small) ∙ ap (bit_at v (row_at k)) q ∙ s.has

          mu : Var n u
          mu = record { low = pos; high = le u n (λ g. true≢false (sym eu ∙ f.1.clean u g)) }
            where
              le : (x y : ℕ) → (y < x → ⊥) → x ≤ y
              le x y g = omega (arith, g)

          -- the basic variables of the rows before are not left in the new row, and so u is none of them
          at_home : (r : ℕ) → r < suc k → r ≢ k → home_at z (basic_at z r) ≡ r
          at_home r l d =
              let lr = below k r l d in
              let e = f.0.basic r lr in
              let lo = (b.built.tableau.var r lr).low in
              homed_other u k v z home r (omega arith) (omega arith) (λ g. true≢false (sym eu ∙ ap left (sym g ∙ e) ∙ reduce_basic n k b.R b.β b.built.tableau (Sheet q) r lr)) (homes_chain k lk k a v c (homes_loaded q k lk store ws a h b.homes) r lr)

          twice : (r : ℕ) → r < suc k → repoint (repoint b.β k 0) k u r ≡ repoint b.β k u r
          twice = at_or_not (suc k) k (λ r. repoint (repoint b.β k 0) k u r ≡ repoint b.β k u r) (repoint_at (repoint b.β k 0) k u ∙ sym (repoint_at b.β k u))
              (λ r l d. repoint_other (repoint b.β k 0) k u r d ∙ repoint_other b.β k 0 r d ∙ sym (repoint_other b.β k u r d))

  pub open_step : (w : List ℕ) (ans : Result Bool Contradiction) → RowDone q k store ws w ans → RowOutcome n m Sheet kept q k w ans
  open_step w (Ok true) t = grown w t.begun t.left t.housed t.u t.loaded t.reduced t.lowest t.long t.home t.moved
  open_step w (Ok false) (s, e) =
      let f = after s.begun w s.loaded s.reduced in
      record { R = b.R; β = b.β; S = b.S; rows = f.0; homes = homes_chain k lk k s.begun w s.reduced (homes_loaded q k lk store ws s.begun s.loaded b.homes); built = skip_built n m Sheet kept kp q lq k b.R b.β b.S b.built (none_coefs w f.1 s.empty) (sym f.1.parity ∙ e) }
  open_step w (Err x) (s, e, z) =
      let f = after s.begun w s.loaded s.reduced in
      (others n m Sheet kept kp q lq k b.R b.β b.S b.built, fails n m Sheet kept kp q lq k b.R b.β b.S b.built (none_coefs w f.1 s.empty) (sym f.1.parity ∙ e), f.1.from)
