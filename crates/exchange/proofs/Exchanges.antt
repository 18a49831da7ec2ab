-- WHAT AN EXCHANGE DOES TO THE ROWS that the buffer holds: linear's pivot, with the provenance that goes with it.
--   Clearing r w      the rows below r have been cleared
--   exchange_rows     the rows afterwards
--   exchange_rest     the words behind the rows stay
--   exchange_homes    each row is the home of its basic variable
-- Assumes nothing.
use mathlib.Core.Path.{◌≡◌, refl, sym, ap, ap₂, ◌∙◌}
use mathlib.Core.List.{List}
use mathlib.Core.Bool.{Bool, true, false, not, ◌&&◌, and-false}
use mathlib.Core.Logic.{◌⊎◌, inl, inr, ◌≢◌}
use Prim.Native.Nat.{ℕ, zero, suc, ◌+◌, ◌*◌, ◌-◌, ◌/◌, ◌%◌, ◌<◌, ◌≤◌}
use native.Mathlib.Nat.{not-suc-le-zero}
use native.Mathlib.Decide.{dec_lt}
use native.Mathlib.Omega.{arith}
use lib.ListN.{length, get_or}
use lib.Seq.{get_or-set_same, get_or-set_other}
use Rattle.gf2.specs.Field.{◌⊕◌, same}
use Rattle.gf2.specs.Rows.{Row}
use Rattle.gf2.proofs.Field.{xor_false}
use Rattle.gf2.proofs.Sums.{same_dec, same_refl, same_ne}
use Rattle.linear.specs.Systems.{pivot, repoint}
use Rattle.linear.proofs.Assuming.{passed}
use Rattle.linear.proofs.Exchange.{at_or_not, repoint_at, repoint_other}
use Rattle.words.specs.Words.{digit, bit_at}
use Rattle.words.proofs.Bits.{bit_same, bit_added}
use Rattle.tableau.specs.Buffer.{basic_at, home_at, parity_at, Added, Chain}
use Rattle.tableau.specs.Layout.{max_vars, max_rows, row_bits, row_at, last_at, known_at, size}
use Rattle.tableau.specs.View.{RowsRead, Homes}
use Rattle.tableau.proofs.Reading.{home_stay, prov_bit, digit_sum, basic_kept}
use Rattle.exchange.specs.Steps.{RowCleared, Exchanged}

module _ (n k : ℕ) (ws : List ℕ) (R : ℕ → Row) (β : ℕ → ℕ) (S : ℕ → ℕ → Bool) (p u : ℕ) (lk : k ≤ max_rows) (lp : p < k) (lu : 0 < u) (hu : u ≤ max_vars) (rr : RowsRead n k ws R β S) where
  -- whether row p is added to row q
  abbrev adds : ℕ → Bool
  adds q = not (same q p) && R q u

  pub record Clearing (r : ℕ) (w : List ℕ) : Type 0 where
    pub done : (q : ℕ) → q < r → (i : ℕ) → i < row_bits → bit_at w (row_at q) i ≡ bit_at ws (row_at q) i ⊕ (adds q && bit_at ws (row_at p) i)
    pub parity : (q : ℕ) → q < r → parity_at w q ≡ parity_at ws q ⊕ (adds q && parity_at ws p)
    pub basic : (q : ℕ) → q < r → basic_at w q ≡ basic_at ws q
    pub todo : (i : ℕ) → row_at r ≤ i → get_or w i 0 ≡ get_or ws i 0

  clearing_none : Clearing 0 ws
  clearing_none = record { done = λ q l. absurd (not-suc-le-zero l); parity = λ q l. absurd (not-suc-le-zero l); basic = λ q l. absurd (not-suc-le-zero l); todo = λ i h. refl }

  no_add : adds p ≡ false
  no_add = rw (same_refl p)

  module _ (r : ℕ) (lr : r < k) (w w' : List ℕ) (st : Clearing r w) where
    -- row p is as it was
    pivot_bit : (i : ℕ) → i < row_bits → bit_at w (row_at p) i ≡ bit_at ws (row_at p) i
    pivot_bit i l = go (dec_lt p r)
      where
        go : Dec (p < r) → bit_at w (row_at p) i ≡ bit_at ws (row_at p) i
        go (yes h) = st.done p h i l ∙ rw no_add (xor_false _)
        go (no h) = bit_same ws w (row_at p) (row_at p) i (st.todo (row_at p + i / 64) (omega arith))

    pivot_parity : parity_at w p ≡ parity_at ws p
    pivot_parity = go (dec_lt p r)
      where
        go : Dec (p < r) → parity_at w p ≡ parity_at ws p
        go (yes h) = st.parity p h ∙ rw no_add (xor_false _)
        go (no h) = ap (λ (x : ℕ). digit (x % 2)) (st.todo (last_at p) (omega arith))

    here_bit : (i : ℕ) → i < row_bits → bit_at w (row_at r) i ≡ bit_at ws (row_at r) i
    here_bit i l = bit_same ws w (row_at r) (row_at r) i (st.todo (row_at r + i / 64) (omega arith))

    test : bit_at w (row_at r) (u - 1) ≡ R r u
    test = let e : suc (u - 1) ≡ u = omega arith in here_bit (u - 1) (omega arith) ∙ rr.coefs r lr (u - 1) (omega arith) ∙ ap (R r) e

    kept : adds r ≡ false → Clearing (suc r) w
    kept e =
        record {
          done = at_or_not (suc r) r (λ q. (i : ℕ) → i < row_bits → bit_at w (row_at q) i ≡ bit_at ws (row_at q) i ⊕ (adds q && bit_at ws (row_at p) i)) (λ i l. here_bit i l ∙ sym (rw e (xor_false _))) (λ q l d. st.done q (omega arith));
          parity = at_or_not (suc r) r (λ q. parity_at w q ≡ parity_at ws q ⊕ (adds q && parity_at ws p)) (ap (λ (x : ℕ). digit (x % 2)) (st.todo (last_at r) (omega arith)) ∙ sym (rw e (xor_false _))) (λ q l d. st.parity q (omega arith));
          basic = at_or_not (suc r) r (λ q. basic_at w q ≡ basic_at ws q) (ap (λ (x : ℕ). x / 2) (st.todo (last_at r) (omega arith))) (λ q l d. st.basic q (omega arith));
          todo = λ i h. st.todo i (omega arith);
        }

    added : adds r ≡ true → Added p r w w' → Clearing (suc r) w'
    added e a =
        record {
          done = at_or_not (suc r) r (λ q. (i : ℕ) → i < row_bits → bit_at w' (row_at q) i ≡ bit_at ws (row_at q) i ⊕ (adds q && bit_at ws (row_at p) i))
              (λ i l. bit_added w w' (row_at r) (row_at r) (row_at p) i (a.bits (i / 64) (omega arith)) ∙ ap₂ ◌⊕◌ (here_bit i l) (pivot_bit i l ∙ sym (rw e)))
              (λ q l d i li. bit_same w w' (row_at q) (row_at q) i (a.rest (row_at q + i / 64) (inl (omega arith))) ∙ st.done q (omega arith) i li);
          parity = at_or_not (suc r) r (λ q. parity_at w' q ≡ parity_at ws q ⊕ (adds q && parity_at ws p))
              (ap (λ (x : ℕ). digit (x % 2)) a.last ∙ digit_sum (get_or w (last_at r) 0) (get_or w (last_at p) 0) ∙ ap₂ ◌⊕◌ (ap (λ (x : ℕ). digit (x % 2)) (st.todo (last_at r) (omega arith))) (pivot_parity ∙ sym (rw e)))
              (λ q l d. ap (λ (x : ℕ). digit (x % 2)) (a.rest (last_at q) (inl (omega arith))) ∙ st.parity q (omega arith));
          basic = at_or_not (suc r) r (λ q. basic_at w' q ≡ basic_at ws q)
              (basic_kept (get_or w' (last_at r) 0) (get_or w (last_at r) 0) (get_or w (last_at p) 0) a.last ∙ ap (λ (x : ℕ). x / 2) (st.todo (last_at r) (omega arith)))
              (λ q l d. ap (λ (x : ℕ). x / 2) (a.rest (last_at q) (inl (omega arith))) ∙ st.basic q (omega arith));
          todo = λ i h. a.rest i (inr (omega arith)) ∙ st.todo i (omega arith);
        }

    clearing_step : RowCleared p (u - 1) r w w' → Clearing (suc r) w'
    clearing_step (inl h) = rw (← h.0) at (kept (go h.1))
      where
        go : (r ≡ p) ⊎ (bit_at w (row_at r) (u - 1) ≡ false) → adds r ≡ false
        go (inl e) = rw (e, same_refl p)
        go (inr e) = rw (sym test ∙ e) (and-false (not (same r p)))
    clearing_step (inr h) = added (rw (same_ne r p h.0, sym test ∙ h.1)) h.2

  clearing : (r : ℕ) → r ≤ k → (w : List ℕ) → Chain (RowCleared p (u - 1)) r ws w → Clearing r w
  clearing zero l w e = rw e clearing_none
  clearing (suc r) l w c = clearing_step r l c.0 w (clearing r (omega arith) c.0 c.2) c.3

  module _ (w : List ℕ) (big : size ≤ length ws) (ex : Exchanged k p u ws w) where
    c : Clearing k ex.middle
    c = clearing k (omega arith) ex.middle ex.cleared

    other_word : (i : ℕ) → i ≢ last_at p → get_or w i 0 ≡ get_or ex.middle i 0
    other_word i d = ap (λ (l : List ℕ). get_or l i 0) ex.points ∙ get_or-set_other ex.middle (last_at p) i _ 0 d

    last_word : get_or w (last_at p) 0 ≡ 2 * u + get_or ex.middle (last_at p) 0 % 2
    last_word = ap (λ (l : List ℕ). get_or l (last_at p) 0) ex.points ∙ get_or-set_same ex.middle (last_at p) _ 0 (omega (arith, ex.long))

    bits : (r : ℕ) → r < k → (i : ℕ) → i < row_bits → bit_at w (row_at r) i ≡ bit_at ws (row_at r) i ⊕ (adds r && bit_at ws (row_at p) i)
    bits r l i li = bit_same ex.middle w (row_at r) (row_at r) i (other_word (row_at r + i / 64) (λ (z : row_at r + i / 64 ≡ last_at p). absurd (omega arith))) ∙ c.done r l i li

    parities : (r : ℕ) → r < k → (r ≡ p) ⊎ (r ≢ p) → parity_at w r ≡ parity_at ex.middle r
    parities r l (inr d) = ap (λ (x : ℕ). digit (x % 2)) (other_word (last_at r) (λ (z : last_at r ≡ last_at p). d (omega arith)))
    parities r l (inl e) = rw e (ap digit low)
      where
        low : get_or w (last_at p) 0 % 2 ≡ get_or ex.middle (last_at p) 0 % 2
        low = let h = last_word in omega arith

    basics : (r : ℕ) → r < k → (r ≡ p) ⊎ (r ≢ p) → basic_at w r ≡ repoint β p u r
    basics r l (inr d) = ap (λ (x : ℕ). x / 2) (other_word (last_at r) (λ (z : last_at r ≡ last_at p). d (omega arith))) ∙ c.basic r l ∙ rr.basic r l ∙ sym (repoint_other β p u r d)
    basics r l (inl e) = rw e (high ∙ sym (repoint_at β p u))
      where
        high : get_or w (last_at p) 0 / 2 ≡ u
        high = let h = last_word in omega arith

    pub exchange_rows : RowsRead n k w (pivot R p u) (repoint β p u) (passed S R p u)
    unfolding pivot
    exchange_rows =
        record {
          coefs = λ r l i li. bits r l i (omega arith) ∙ ap₂ (λ (x y : Bool). x ⊕ (adds r && y)) (rr.coefs r l i li) (rr.coefs p lp i li);
          parity = λ r l. parities r l (same_dec r p) ∙ c.parity r l ∙ ap₂ (λ (x y : Bool). x ⊕ (adds r && y)) (rr.parity r l) (rr.parity p lp);
          basic = λ r l. basics r l (same_dec r p);
          from = λ r l j lj.
              prov_bit w (row_at r) j ∙ bits r l (max_vars + j) (omega arith)
              ∙ ap₂ (λ (x y : Bool). x ⊕ (adds r && y)) (sym (prov_bit ws (row_at r) j) ∙ rr.from r l j lj) (sym (prov_bit ws (row_at p) j) ∙ rr.from p lp j lj);
          clean = λ r l v h. rw (rr.clean r l v h, rr.clean p lp v h, and-false (adds r));
        }

    pub exchange_rest : (i : ℕ) → known_at ≤ i → get_or w i 0 ≡ get_or ws i 0
    exchange_rest i h = other_word i (λ (z : i ≡ last_at p). absurd (omega arith)) ∙ c.todo i (omega arith)

    -- each row is the home of its basic variable, where row p was made that of u
    pub exchange_homes : home_at ws u ≡ p → ((r : ℕ) → r < k → r ≢ p → home_at ws (basic_at ws r) ≡ r) → Homes k w
    exchange_homes h hs r l = go (same_dec r p)
      where
        stay : (v : ℕ) → home_at w v ≡ home_at ws v
        stay = home_stay ws w (λ i z. exchange_rest i (omega arith))

        go : (r ≡ p) ⊎ (r ≢ p) → home_at w (basic_at w r) ≡ r
        go (inl e) = ap (home_at w) (basics r l (inl e) ∙ ap (repoint β p u) e ∙ repoint_at β p u) ∙ stay u ∙ h ∙ sym e
        go (inr d) = ap (home_at w) (basics r l (inr d) ∙ repoint_other β p u r d ∙ sym (rr.basic r l)) ∙ stay (basic_at ws r) ∙ hs r l d
