-- THE VALUES OF THE RECORD'S LITERALS ALONE are what linear's Started says.
--   Putting j w        the first j entries have been set
--   entries_started    all have been
--   entries_rest       the words around the values stay
--   entries_within     none is true without a value
--   entries_basic      a variable that is not taken has no value
-- Assumes nothing.
use mathlib.Core.Path.{◌≡◌, refl, sym, ap, ◌∙◌}
use mathlib.Core.List.{List}
use mathlib.Core.Bool.{Bool, true, false, or-false}
use mathlib.Core.Logic.{◌⊎◌, inl, inr, ◌≢◌}
use Prim.Native.Nat.{ℕ, zero, suc, ◌+◌, ◌*◌, ◌-◌, ◌/◌, ◌%◌, ◌<◌, ◌≤◌}
use native.Mathlib.Nat.{not-suc-le-zero}
use native.Mathlib.Omega.{arith}
use lib.ListN.{get_or}
use Rattle.gf2.specs.Field.{same}
use Rattle.gf2.specs.Rows.{Var}
use Rattle.gf2.specs.Answers.{variable, value}
use Rattle.gf2.proofs.Sums.{same_refl, same_ne, same_eq, bool_dec}
use Rattle.linear.specs.State.{Started, Taken}
use Rattle.linear.proofs.Assume.{clash}
use Rattle.linear.proofs.Exchange.{at_or_not}
use Rattle.words.specs.Words.{bit_of, bit_at}
use Rattle.words.proofs.Bits.{zero_bits}
use Rattle.tableau.specs.Buffer.{Run, Chain, entry_at}
use Rattle.tableau.specs.Layout.{max_vars, coef_words, known_at, truth_at, record_at}
use Rattle.tableau.specs.View.{LitsRead, vals}
use Rattle.tableau.proofs.Reading.{bit-of, entry_stay}
use Rattle.settle.proofs.Putting.{Within, or_some, or_right, put_within}
use Rattle.settle.specs.Values.{Entry, Put, EntrySet}

cleared : (ws w : List ℕ) → Run known_at (2 * coef_words) (λ i. 0) ws w → (i : ℕ) → i < max_vars → (bit_at w known_at i ≡ false) × (bit_at w truth_at i ≡ false)
unfolding bit_at
cleared ws w r i l =
    let e : truth_at + i / 64 ≡ known_at + (coef_words + i / 64) = omega arith in (
      ap (λ (x : ℕ). bit_of x (63 - i % 64)) (r.done (i / 64) (omega arith)) ∙ zero_bits (63 - i % 64),
      ap (λ (x : ℕ). bit_of (get_or w x 0) (63 - i % 64)) e ∙ ap (λ (x : ℕ). bit_of x (63 - i % 64)) (r.done (8 + i / 64) (omega arith)) ∙ zero_bits (63 - i % 64),
    )

module _ (n d k : ℕ) (ws : List ℕ) (x : ℕ → ℕ) (y : ℕ → Bool) (β : ℕ → ℕ) (ln : n ≤ max_vars) (t : Taken n d x k β) (ws₀ : List ℕ) (lr : LitsRead d ws x y) (run : Run known_at (2 * coef_words) (λ i. 0) ws₀ ws) where
  -- the first j entries have been set
  pub record Putting (j : ℕ) (w : List ℕ) : Type 0 where
    pub rest : (i : ℕ) → (i < known_at) ⊎ (record_at ≤ i) → get_or w i 0 ≡ get_or ws i 0
    pub on : (q : ℕ) → q < j → (vals w known_at (x q) ≡ true) × (vals w truth_at (x q) ≡ y q)
    pub off : (i : ℕ) → i < max_vars → bit_at w known_at i ≡ true → (q : ℕ) × (q < j) × (x q ≡ suc i)
    pub within : Within w

  putting_none : Putting 0 ws
  putting_none =
      record {
        rest = λ i h. refl;
        on = λ q l. absurd (not-suc-le-zero l);
        off = λ i l e. absurd (clash _ e (cleared ws₀ ws run i l).0);
        within = λ i l e. absurd (clash _ e (cleared ws₀ ws run i l).1);
      }

  module _ (j : ℕ) (lj : j < d) (w w' : List ℕ) (st : Putting j w) where
    code : entry_at w j ≡ entry_at ws j
    code = entry_stay ws w (λ i h. st.rest i (inr h)) j

    var : variable (entry_at w j) ≡ x j
    var = ap variable code ∙ lr.var j lj

    val : value (entry_at w j) ≡ y j
    val = ap value code ∙ lr.val j lj

    entry : Entry w j
    entry = let v = t.var j lj in let a = v.low in let b = v.high in let e = var in record { low = omega arith; high = omega arith }

    mine : suc (x j - 1) ≡ x j
    mine = bit-of (x j) (t.var j lj).low

    small : x j - 1 < max_vars
    small = let a = (t.var j lj).low in let b = (t.var j lj).high in omega arith

    module _ (pt : Put (x j - 1) (y j) w w') where
      away_vals : (v : ℕ) → Var n v → v ≢ x j → (vals w' known_at v ≡ vals w known_at v) × (vals w' truth_at v ≡ vals w truth_at v)
      away_vals zero m e = absurd (not-suc-le-zero m.low)
      away_vals (suc i) m e =
          let l : i < max_vars = let h = m.high in omega arith in
          let z = same_ne (x j - 1) i (λ q. e (ap suc (sym q) ∙ mine)) in
          (pt.known i l ∙ rw z (or-false _), pt.truth i l ∙ rw z (or-false _))

      new : bit_at w truth_at (x j - 1) ≡ false
      new = go (bool_dec (bit_at w truth_at (x j - 1)))
        where
          go : (bit_at w truth_at (x j - 1) ≡ true) ⊎ (bit_at w truth_at (x j - 1) ≡ false) → bit_at w truth_at (x j - 1) ≡ false
          go (inr e) = e
          go (inl e) = let o = st.off (x j - 1) small (st.within (x j - 1) small e) in absurd (twice o.0 o.1 o.2)
            where
              twice : (q : ℕ) → q < j → x q ≡ suc (x j - 1) → ⊥
              twice q lq z = let same : q ≡ j = t.distinct q j (omega arith) lj (z ∙ mine) in omega arith

      more : Putting (suc j) w'
      more =
          record {
            rest = λ i h. pt.rest i h ∙ st.rest i h;
            on = at_or_not (suc j) j (λ q. (vals w' known_at (x q) ≡ true) × (vals w' truth_at (x q) ≡ y q)) here
                (λ q l e. let a = away_vals (x q) (t.var q (omega arith)) (λ z. e (t.distinct q j (omega arith) lj z)) in let o = st.on q (omega arith) in (a.0 ∙ o.0, a.1 ∙ o.1));
            off = λ i l e. off i l (or_some (bit_at w known_at i) (same (x j - 1) i) (sym (pt.known i l) ∙ e));
            within = put_within w w' (x j - 1) (y j) pt st.within;
          }
        where
          here : (vals w' known_at (x j) ≡ true) × (vals w' truth_at (x j) ≡ y j)
          here = (
            sym (ap (vals w' known_at) mine) ∙ pt.known (x j - 1) small ∙ or_right (bit_at w known_at (x j - 1)) _ (same_refl (x j - 1)),
            sym (ap (vals w' truth_at) mine) ∙ pt.truth (x j - 1) small ∙ rw (new, same_refl (x j - 1)),
          )

          off : (i : ℕ) → i < max_vars → (bit_at w known_at i ≡ true) ⊎ (same (x j - 1) i ≡ true) → (q : ℕ) × (q < suc j) × (x q ≡ suc i)
          off i l (inl e) = let o = st.off i l e in (o.0, let h = o.1 in omega arith, o.2)
          off i l (inr e) = (j, omega arith, sym mine ∙ ap suc (same_eq (x j - 1) i e))

    putting_step : EntrySet j w w' → Putting (suc j) w'
    putting_step (inl h) = absurd (h.1 entry)
    putting_step (inr h) = more (rw (var, val) at h.1)

  putting : (j : ℕ) → j ≤ d → (w : List ℕ) → Chain EntrySet j ws w → Putting j w
  putting zero l w e = rw e putting_none
  putting (suc j) l w c = putting_step j l c.0 w (putting j (omega arith) c.0 c.2) c.3

  module _ (w : List ℕ) (c : Chain EntrySet d ws w) where
    pub entries_started : Started n d x y k β (vals w known_at) (vals w truth_at)
    entries_started =
        let s = putting d (omega arith) w c in
        record { on = s.on; off = λ v m nb e. off v m e s }
      where
        off : (v : ℕ) → Var n v → vals w known_at v ≡ true → Putting d w → (j : ℕ) × (j < d) × (x j ≡ v)
        off zero m e s = absurd (not-suc-le-zero m.low)
        off (suc i) m e s = s.off i (let h = m.high in omega arith) e

    pub entries_rest : (i : ℕ) → (i < known_at) ⊎ (record_at ≤ i) → get_or w i 0 ≡ get_or ws i 0
    entries_rest = (putting d (omega arith) w c).rest

    pub entries_within : Within w
    entries_within = (putting d (omega arith) w c).within

    pub entries_basic : (v : ℕ) → Var n v → ((j : ℕ) → j < d → x j ≢ v) → vals w known_at v ≡ false
    entries_basic zero m h = absurd (not-suc-le-zero m.low)
    entries_basic (suc i) m h = go (bool_dec (bit_at w known_at i))
      where
        go : (bit_at w known_at i ≡ true) ⊎ (bit_at w known_at i ≡ false) → bit_at w known_at i ≡ false
        go (inr e) = e
        go (inl e) = let o = (putting d (omega arith) w c).off i (let g = m.high in omega arith) e in absurd (h o.0 o.1 o.2)
