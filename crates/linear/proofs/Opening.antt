-- OPENING, one row of the sheet after another: what is left of a row when it is reduced decides whether it is kept, redundant or contradictory.
--   reduce_more                                  one turn of the loop that reduces a row
--   span_..                                      sums of rows
--   built_none, skip_built, fails, insert_built  the start, and the three ways of a row
--   no_failure                                   no row before fails
--   taken_none                                   nothing is taken at the end
-- Assumes nothing.
use mathlib.Core.Path.{◌≡◌, refl, sym, ap, ap₂, ◌∙◌}
use mathlib.Core.Bool.{Bool, true, false, not, ◌&&◌, and-false}
use mathlib.Core.Logic.{◌⊎◌, inl, inr, ◌≢◌}
use Prim.Native.Nat.{ℕ, zero, suc, ◌+◌, ◌<◌, ◌≤◌, zero-le}
use native.Mathlib.Nat.{not-suc-le-zero}
use native.Mathlib.Omega.{arith}
use Rattle.gf2.specs.Field.{◌⊕◌, xsum, same}
use Rattle.linear.specs.State.{Earlier, Summed, KeptPlaces, tally, Built, Taken, Fails}
use Rattle.gf2.specs.Rows.{Var, Row, Assignment, Holds, SameRow, SameCoefs}
use Rattle.linear.specs.Systems.{combine, Spanned, Tableau, Provenance, pivot, repoint, reduce, extend}
use Rattle.gf2.proofs.Field.{field, xor_false, xor_eq, eq_xor, xor_assoc}
use Rattle.gf2.proofs.Sums.{sum_last, sum_cong, sum_false, same_dec, same_eq, bool_dec}
use Rattle.gf2.proofs.Sat.{row_cong}
use Rattle.linear.proofs.Combine.{combine_xor}
use Rattle.linear.proofs.Tableaux.{solve, solve_sat}
use Rattle.linear.proofs.Exchange.{at_or_not}
use Rattle.linear.proofs.Assume.{clash}
use Rattle.linear.proofs.Insert.{extend_at, extend_other, combine_basic, combine_one, reduce_basic, reduce_provenance, insert_tableau, pivot_provenance, below}
use Rattle.linear.proofs.Spans.{span_sum, span_same, span_trans, span_holds, pivot_span, earlier_sum, xor_some, and_right}
use Rattle.linear.proofs.Assuming.{passed}

-- ---- a sum, and its last part
-- a turn of the loop that reduces a row: row r is added where its basic variable stands
pub reduce_more : (n k : ℕ) (R : ℕ → Row) (β : ℕ → ℕ) → Tableau n k R β → (c : Row) (r : ℕ) → r < k → (v : ℕ)
    → reduce (suc r) R β c v ≡ reduce r R β c v ⊕ (reduce r R β c (β r) && R r v)
unfolding reduce combine
reduce_more n k R β t c r l v =
    ap (λ (z : Bool). c v ⊕ z) (sum_last r (λ q. c (β q) && R q v))
    ∙ sym (xor_assoc (c v) _ _)
    ∙ ap (λ (z : Bool). c v ⊕ xsum r (λ q. c (β q) && R q v) ⊕ (z && R r v)) (sym (ap (λ (z : Bool). c (β r) ⊕ z) none ∙ xor_false (c (β r))))
  where
    none : xsum r (λ q. c (β q) && R q (β r)) ≡ false
    none = sum_cong r _ (λ q. false) (λ q h. ap (λ (z : Bool). c (β q) && z) (t.alone r q l (omega arith) (λ (e : r ≡ q). absurd (omega arith))) ∙ and-false (c (β q))) ∙ sum_false r

pub earlier_more : (kept : ℕ → Bool) (q : ℕ) (s : ℕ → Bool) → Earlier kept q s → Earlier kept (suc q) s
earlier_more kept q s f j e = (let l = (f j e).0 in omega arith, (f j e).1)

pub span_xor : (n k : ℕ) (R : ℕ → Row) (c d : Row) → Spanned n k R c → Spanned n k R d → Spanned n k R (λ v. c v ⊕ d v)
span_xor n k R c d s t = (λ r. s.0 r ⊕ t.0 r, λ v l. combine_xor k s.0 t.0 R v ∙ ap₂ ◌⊕◌ (s.1 v l) (t.1 v l))

pub span_one : (n k : ℕ) (R : ℕ → Row) (r : ℕ) → r < k → Spanned n k R (R r)
span_one n k R r l = (same r, λ v h. combine_one k r R v l)

combine_none : (k : ℕ) (R : ℕ → Row) (v : ℕ) → combine k (λ r. false) R v ≡ false
unfolding combine
combine_none k R v = sum_false k

combine_twice : (m : ℕ) (s : ℕ → Bool) (R : ℕ → Row) (v : ℕ) → combine m s (λ j u. s j && R j u) v ≡ combine m s R v
unfolding combine
combine_twice m s R v = sum_cong m _ _ (λ j l. go (s j) (R j v))
  where
    go : (a c : Bool) → a && (a && c) ≡ a && c
    go true c = refl
    go false c = refl

left_zero : (k : ℕ) (R : ℕ → Row) (β : ℕ → ℕ) (c : Row) (v : ℕ) → reduce k R β c v ≡ false → c v ≡ combine k (λ r. c (β r)) R v
unfolding reduce
left_zero k R β c v h = xor_eq _ _ h

left_back : (k : ℕ) (R : ℕ → Row) (β : ℕ → ℕ) (c : Row) (v : ℕ) → reduce k R β c v ⊕ combine k (λ r. c (β r)) R v ≡ c v
unfolding reduce
left_back k R β c v = simp field

-- what is a sum of the rows is reduced to nothing
reduced_zero : (n k : ℕ) (R : ℕ → Row) (β : ℕ → ℕ) → Tableau n k R β → (c : Row) (s : ℕ → Bool) → SameCoefs n (combine k s R) c → SameCoefs n (reduce k R β c) (λ v. false)
unfolding reduce combine
reduced_zero n k R β t c s h v l =
    eq_xor _ _ (sym (h v l) ∙ sum_cong k _ _ (λ r x. ap (λ (z : Bool). z && R r v) (sym (combine_basic n k R β t s r x) ∙ h (β r) (t.var r x))))

plus_zero : (a : ℕ) → a ≡ a + 0
plus_zero a = omega arith

plus_one : (a : ℕ) → suc a ≡ a + 1
plus_one a = omega arith

-- a sum of rows of which those selected are spanned
pub span_chosen : (n m k : ℕ) (Sheet R : ℕ → Row) (s : ℕ → Bool) → ((j : ℕ) → s j ≡ true → Spanned n k R (Sheet j)) → Spanned n k R (combine m s Sheet)
span_chosen n m k Sheet R s h = span_same n k R (combine m s part) (combine m s Sheet) (span_sum n m k part R spans s) same_sum
  where
    part : ℕ → Row
    part j v = s j && Sheet j v

    spans : (j : ℕ) → j < m → Spanned n k R (part j)
    spans j l = go (s j) refl
      where
        go : (b : Bool) → s j ≡ b → Spanned n k R (part j)
        go true e = span_same n k R (Sheet j) (part j) (h j e) (λ v x. rw e)
        go false e = (λ r. false, λ v x. combine_none k R v ∙ rw e)

    same_sum : SameRow n (combine m s part) (combine m s Sheet)
    same_sum v l = combine_twice m s Sheet v

-- ---- the start
pub built_none : (n m : ℕ) (Sheet : ℕ → Row) (kept : ℕ → Bool) (R : ℕ → Row) (β : ℕ → ℕ) (S : ℕ → ℕ → Bool) → Built n m Sheet kept 0 0 R β S
built_none n m Sheet kept R β S =
    record {
      tableau = record { var = λ r l. absurd (not-suc-le-zero l); own = λ r l. absurd (not-suc-le-zero l); alone = λ r q l h d. absurd (not-suc-le-zero l) };
      from = λ r l. absurd (not-suc-le-zero l);
      only = λ r l. absurd (not-suc-le-zero l);
      cover = λ j l. absurd (not-suc-le-zero l);
      count = refl;
    }

-- ---- row q, reduced by the rows so far: what is left, and where it comes from
module _ (n m : ℕ) (Sheet : ℕ → Row) (kept : ℕ → Bool) (kp : KeptPlaces n m Sheet kept) (q : ℕ) (lq : q < m) (k : ℕ) (R : ℕ → Row) (β : ℕ → ℕ) (S : ℕ → ℕ → Bool)
    (b : Built n m Sheet kept q k R β S) where
  abbrev pub left_over : Row
  left_over = reduce k R β (Sheet q)

  abbrev pub others : ℕ → Bool
  others = combine k (λ r. Sheet q (β r)) S

  abbrev pub source : ℕ → Bool
  source j = same q j ⊕ others j

  others_earlier : Earlier kept q others
  others_earlier = earlier_sum kept q k (λ r. Sheet q (β r)) S b.only

  source_sum : (v : ℕ) → v ≤ n → left_over v ≡ Sheet q v ⊕ combine m others Sheet v
  source_sum v l = reduce_provenance n k R β m Sheet S b.from q lq v l ∙ combine_xor m (same q) others Sheet v ∙ ap (λ (z : Bool). z ⊕ combine m others Sheet v) (combine_one m q Sheet v lq)

  -- ---- no coefficient is left
  module _ (none : SameCoefs n left_over (λ v. false)) where
    pub others_sum : Summed n m Sheet kept q others
    others_sum = (others_earlier, λ v l. sym (xor_eq _ _ (sym (source_sum v l.high) ∙ none v l)))

    pub not_kept : kept q ≡ false
    not_kept = go (bool_dec (kept q))
      where
        go : (kept q ≡ true) ⊎ (kept q ≡ false) → kept q ≡ false
        go (inl e) = absurd (kp.chosen q lq e others others_sum)
        go (inr e) = e

    -- parity 0: the row is skipped
    pub skip_built : left_over 0 ≡ false → Built n m Sheet kept (suc q) k R β S
    skip_built e =
        record {
          tableau = b.tableau;
          from = b.from;
          only = λ r l. earlier_more kept q (S r) (b.only r l);
          cover = λ j l. cover j l (same_dec j q);
          count = b.count ∙ rw not_kept (plus_zero (tally q kept));
        }
      where
        cover : (j : ℕ) → j < suc q → (j ≡ q) ⊎ (j ≢ q) → Spanned n k R (Sheet j)
        cover j l (inr d) = b.cover j (below q j l d)
        cover j l (inl d) = rw d (λ r. Sheet q (β r), at)
          where
            at : (v : ℕ) → v ≤ n → combine k (λ r. Sheet q (β r)) R v ≡ Sheet q v
            at zero h = sym (left_zero k R β (Sheet q) 0 e)
            at (suc v) h = sym (left_zero k R β (Sheet q) (suc v) (none (suc v) (record { low = omega arith; high = h })))

    -- parity 1: the rows of the list add up to 0 = 1
    pub fails : left_over 0 ≡ true → Fails n m Sheet kept q others
    fails e = record { sum = others_sum; parity = λ z. clash (left_over 0) e (source_sum 0 zero-le ∙ eq_xor _ _ (sym z)) }

  -- ---- a coefficient is left
  module _ (u : ℕ) (mu : Var n u) (e : left_over u ≡ true) where
    pub is_kept : kept q ≡ true
    is_kept = go (bool_dec (kept q))
      where
        go : (kept q ≡ true) ⊎ (kept q ≡ false) → kept q ≡ true
        go (inl h) = h
        go (inr h) = absurd (clash (left_over u) e (zero_left (kp.left q lq h)))
          where
            zero_left : ((s : ℕ → Bool) × Summed n m Sheet kept q s) → left_over u ≡ false
            zero_left s =
                let w = span_chosen n m k Sheet R s.0 (λ j z. b.cover j (s.1.0 j z).0) in
                reduced_zero n k R β b.tableau (Sheet q) w.0 (λ v l. w.1 v l.high ∙ s.1.1 v l) u mu

    abbrev R' : ℕ → Row
    R' = extend R k left_over

    abbrev S' : ℕ → ℕ → Bool
    S' = extend S k source

    from' : Provenance n (suc k) R' m Sheet S'
    from' = at_or_not (suc k) k (λ r. SameRow n (R' r) (combine m (S' r) Sheet))
        (rw (extend_at R k left_over, extend_at S k source) (reduce_provenance n k R β m Sheet S b.from q lq))
        (λ r l d. rw (extend_other R k left_over r d, extend_other S k source r d) (b.from r (below k r l d)))

    source_earlier : Earlier kept (suc q) source
    source_earlier j h = go (xor_some (same q j) (others j) h)
      where
        go : (same q j ≡ true) ⊎ (others j ≡ true) → (j < suc q) × (kept j ≡ true)
        go (inl z) = let y : q ≡ j = same_eq q j z in (omega arith, ap kept (sym y) ∙ is_kept)
        go (inr z) = earlier_more kept q others others_earlier j z

    only' : (r : ℕ) → r < suc k → Earlier kept (suc q) (S' r)
    only' = at_or_not (suc k) k (λ r. Earlier kept (suc q) (S' r)) (rw (extend_at S k source) source_earlier) (λ r l d. rw (extend_other S k source r d) (earlier_more kept q (S r) (b.only r (below k r l d))))

    only'' : (r : ℕ) → r < suc k → Earlier kept (suc q) (passed S' R' k u r)
    only'' r l j h = go (xor_some (S' r j) (not (same r k) && R' r u && S' k j) h)
      where
        go : (S' r j ≡ true) ⊎ (not (same r k) && R' r u && S' k j ≡ true) → (j < suc q) × (kept j ≡ true)
        go (inl z) = only' r l j z
        go (inr z) = only' k (omega arith) j (and_right (not (same r k) && R' r u) (S' k j) z)

    cover' : (j : ℕ) → j < suc q → (j ≡ q) ⊎ (j ≢ q) → Spanned n (suc k) R' (Sheet j)
    cover' j l (inr d) = span_trans n k (suc k) R R' (Sheet j) rows (b.cover j (below q j l d))
      where
        rows : (r : ℕ) → r < k → Spanned n (suc k) R' (R r)
        rows r h = rw (extend_other R k left_over r (λ (z : r ≡ k). absurd (omega arith))) at (span_one n (suc k) R' r (omega arith))
    cover' j l (inl d) =
        rw d
        (span_same n (suc k) R' (λ v. left_over v ⊕ combine k (λ r. Sheet q (β r)) R v) (Sheet q)
        (span_xor n (suc k) R' left_over (combine k (λ r. Sheet q (β r)) R) (rw (extend_at R k left_over) at (span_one n (suc k) R' k (omega arith))) (span_sum n k (suc k) R R' rows (λ r. Sheet q (β r))))
        (λ v h. left_back k R β (Sheet q) v))
      where
        rows : (r : ℕ) → r < k → Spanned n (suc k) R' (R r)
        rows r h = rw (extend_other R k left_over r (λ (z : r ≡ k). absurd (omega arith))) at (span_one n (suc k) R' r (omega arith))

    pub insert_built : Built n m Sheet kept (suc q) (suc k) (pivot R' k u) (repoint β k u) (passed S' R' k u)
    insert_built =
        record {
          tableau = insert_tableau n k R β b.tableau left_over u mu e (reduce_basic n k R β b.tableau (Sheet q));
          from = pivot_provenance n (suc k) R' m Sheet S' k u (omega arith) from';
          only = only'';
          cover = λ j l. span_trans n (suc k) (suc k) R' (pivot R' k u) (Sheet j) (pivot_span n m Sheet kept (suc k) R' β S' k u (omega arith)) (cover' j l (same_dec j q));
          count = rw is_kept (ap suc b.count ∙ plus_one (tally q kept));
        }

-- ---- a failing row: which it is, and which rows, is determined
-- no row before q fails
pub no_failure : (n m : ℕ) (Sheet : ℕ → Row) (kept : ℕ → Bool) (q k : ℕ) (R : ℕ → Row) (β : ℕ → ℕ) (S : ℕ → ℕ → Bool) → Built n m Sheet kept q k R β S
    → (j : ℕ) → j < q → (s : ℕ → Bool) → Fails n m Sheet kept j s → ⊥
no_failure n m Sheet kept q k R β S b j l s f = f.parity (sym holds ∙ row_cong n (combine m s Sheet) (Sheet j) a f.sum.1 ∙ row j l)
  where
    a : Assignment
    a = solve n k R β (λ v. false)

    row : (i : ℕ) → i < q → Holds n (Sheet i) a
    row i h = span_holds n k R (Sheet i) a (b.cover i h) (solve_sat n k R β b.tableau (λ v. false))

    holds : Holds n (combine m s Sheet) a
    holds = span_holds n k R (combine m s Sheet) a (span_chosen n m k Sheet R s (λ i e. b.cover i (let h = (f.sum.0 i e).0 in omega arith))) (solve_sat n k R β b.tableau (λ v. false))

-- ---- nothing is taken at the end
pub taken_none : (n : ℕ) (x : ℕ → ℕ) (k : ℕ) (β : ℕ → ℕ) → Taken n 0 x k β
taken_none n x k β = record { var = λ j l. absurd (not-suc-le-zero l); distinct = λ i j l h e. absurd (not-suc-le-zero l); apart = λ j l. absurd (not-suc-le-zero l) }
