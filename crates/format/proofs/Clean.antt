-- LAWS OF CLEAN ROWS: no bit past variable n, and a parity of 0 or 1.
--   CleanRow, clean_row_is    the two facts that the check of a row decides
--   clean_at                  each of the first m rows is clean where the check of all of them says so
--   past_none, past_more      the bits past n of the first words, as a scan of the words passes them
--   row_cleaned, row_spoiled, rows_cleaned, rows_spoiled   what such a scan decides of a row, and of all rows
--   not_true, not_false       a test that was turned round
-- Assumes nothing.
use mathlib.Core.Bool.{Bool, true, false, not, ◌&&◌, false≢true}
use mathlib.Core.List.{List, ◌++◌}
use mathlib.Core.Logic.{⊎_elim}
use mathlib.Core.Path.{◌≡◌, refl, sym, ap, ap₂, ◌∙◌, subst}
use Prim.Native.Nat.{ℕ, zero, suc, ◌+◌, ◌-◌, ◌*◌, ◌%◌, ◌^◌, ◌≤◌, ◌<◌}
use native.Mathlib.Nat.{add-zero, add-suc, eq-or-lt_of_le, zero-mul, suc-mul}
use native.Mathlib.Omega.{arith}
use borrow.Author.Tests.{lt-ltb, le-ltb, ltb-false, ltb-true}
use lib.Dec.{ltb}
use lib.ListN.{drop, length, length-drop, get_or, replicate}
use lib.Pow.{pow_pos}
use Rattle.format.proofs.Digits.{length-bits_n, value_of-append, value_of-bits_n, drop-bits_n, zeros_back}
use Rattle.format.proofs.Packed.{length-packed}
use Rattle.format.proofs.Runs.{drop-append, drop_all}
use Rattle.format.proofs.Values.{shl_low}
use Rattle.format.specs.Bits.{bits_n, value_of}
use Rattle.format.specs.Sheet.{packed, clean_row, clean}

pub record CleanRow (n : ℕ) (ws : List ℕ) : Type 0 where
  pub past : drop n (packed 8 ws) ≡ replicate (512 - n) false
  pub parity : get_or ws 8 0 < 2

both : (a b : Bool) → a && b ≡ true → (a ≡ true) × (b ≡ true)
both true true e = (refl, refl)
both true false e = (refl, e)
both false b e = (e, absurd (false≢true e))

pub not_true : (b : Bool) → not b ≡ true → b ≡ false
not_true true e = sym e
not_true false e = refl

pub not_false : (b : Bool) → not b ≡ false → b ≡ true
not_false true e = refl
not_false false e = sym e

pub clean_row_is : (n : ℕ) (ws : List ℕ) → clean_row n ws ≡ true → CleanRow n ws
unfolding clean_row
clean_row_is n ws e =
    let bs : List Bool = drop n (packed 8 ws) in
    let p = both (not (ltb 0 (value_of bs))) (ltb (get_or ws 8 0) 2) e in
    let z : value_of bs ≡ 0 = omega (arith, ltb-false 0 (value_of bs) (not_true (ltb 0 (value_of bs)) p.0)) in
    record {
      past = zeros_back bs z ∙ ap (λ (k : ℕ). replicate k false) (length-drop n (packed 8 ws) ∙ ap (λ (k : ℕ). k - n) (length-packed 8 ws));
      parity = ltb-true (get_or ws 8 0) 2 p.1;
    }

pub row_cleaned : (n : ℕ) (ws : List ℕ) → value_of (drop n (packed 8 ws)) ≡ 0 → clean_row n ws ≡ ltb (get_or ws 8 0) 2
unfolding clean_row
row_cleaned n ws e = simp (le-ltb 0 (value_of (drop n (packed 8 ws))) (omega arith))

row_not_cleaned : (n : ℕ) (ws : List ℕ) → 0 < value_of (drop n (packed 8 ws)) → clean_row n ws ≡ false
unfolding clean_row
row_not_cleaned n ws h = simp (lt-ltb 0 (value_of (drop n (packed 8 ws))) h)

pub clean_at : (n m : ℕ) (ws : List ℕ) → clean n m ws ≡ true → (r : ℕ) → r < m → clean_row n (drop (9 * r) ws) ≡ true
unfolding clean
clean_at n zero ws e r h = absurd (omega arith)
clean_at n (suc m) ws e r h =
    let h' : r ≤ m = omega arith in
    let p = both (clean n m ws) (clean_row n (drop (9 * m) ws)) e in
    ⊎_elim
    (λ (q : r ≡ m). ap (λ (k : ℕ). clean_row n (drop (9 * k) ws)) q ∙ p.1)
    (λ (l : r < m). clean_at n m ws p.0 r l)
    (eq-or-lt_of_le h')

pub rows_cleaned : (n m : ℕ) (ws : List ℕ) → clean n m ws ≡ true → clean_row n (drop (9 * m) ws) ≡ true → clean n (suc m) ws ≡ true
unfolding clean
rows_cleaned n m ws e f = ap₂ (λ (a b : Bool). a && b) e f

rows_stay : (n m i : ℕ) (ws : List ℕ) → clean n m ws ≡ false → clean n (m + i) ws ≡ false
unfolding clean
rows_stay n m zero ws e = ap (λ (k : ℕ). clean n k ws) (add-zero m) ∙ e
rows_stay n m (suc i) ws e =
    ap (λ (k : ℕ). clean n k ws) (add-suc m i) ∙ ap (λ (b : Bool). b && clean_row n (drop (9 * (m + i)) ws)) (rows_stay n m i ws e)

and_false : (a : Bool) → a && false ≡ false
and_false true = refl
and_false false = refl

pub rows_spoiled : (n m r : ℕ) (ws : List ℕ) → r < m → clean_row n (drop (9 * r) ws) ≡ false → clean n m ws ≡ false
unfolding clean
rows_spoiled n m r ws h e =
    let f : m ≡ suc r + (m - suc r) = omega arith in
    ap (λ (k : ℕ). clean n k ws) f ∙ rows_stay n (suc r) (m - suc r) ws (ap (λ (b : Bool). clean n r ws && b) e ∙ and_false (clean n r ws))

-- ---- a scan of the words of a row

pub past_none : (n w : ℕ) (ws : List ℕ) → w * 64 ≤ n → value_of (drop n (packed w ws)) ≡ 0
unfolding value_of
past_none n w ws h = ap value_of (drop_all n (packed w ws) (rw (length-packed w ws) h))

-- of one word more, whose first bits are coefficients
past_value : (n w k : ℕ) (ws : List ℕ) → k ≡ n - w * 64 → k ≤ 64
    → value_of (drop n (packed (suc w) ws)) ≡ value_of (drop n (packed w ws)) * 2 ^ (64 - k) + get_or ws w 0 % 2 ^ (64 - k)
unfolding packed
past_value n w k ws e h =
    let v : ℕ = get_or ws w 0 in
    let f : n - length (packed w ws) ≡ k = ap (λ (i : ℕ). n - i) (length-packed w ws) ∙ sym e in
    ap value_of (drop-append n (packed w ws) (bits_n 64 v) ∙ ap (λ (r : List Bool). drop n (packed w ws) ++ r) (ap (λ (i : ℕ). drop i (bits_n 64 v)) f ∙ drop-bits_n k v h))
    ∙ value_of-append (drop n (packed w ws)) (bits_n (64 - k) v)
    ∙ ap₂ (λ (i x : ℕ). value_of (drop n (packed w ws)) * 2 ^ i + x) (length-bits_n (64 - k) v) (value_of-bits_n (64 - k) v)

-- the word moved up by k has the same bits past them
moved_up : (v k : ℕ) → k ≤ 64 → v * 2 ^ k % 2 ^ 64 ≡ v % 2 ^ (64 - k) * 2 ^ k
moved_up v k h =
    let e : 64 ≡ 64 - k + k = omega arith in
    ap (λ (i : ℕ). v * 2 ^ k % 2 ^ i) e ∙ shl_low v (64 - k) k

past_stays : (n w i : ℕ) (ws : List ℕ) → 0 < value_of (drop n (packed w ws)) → 0 < value_of (drop n (packed (w + i) ws))
unfolding packed
past_stays n w zero ws h = rw (ap (λ (k : ℕ). value_of (drop n (packed k ws))) (add-zero w)) h
past_stays n w (suc i) ws h =
    let xs : List Bool = drop n (packed (w + i) ws) in
    let ys : List Bool = drop (n - length (packed (w + i) ws)) (bits_n 64 (get_or ws (w + i) 0)) in
    let e : value_of (drop n (packed (w + suc i) ws)) ≡ value_of xs * 2 ^ length ys + value_of ys =
    ap (λ (k : ℕ). value_of (drop n (packed k ws))) (add-suc w i) ∙ ap value_of (drop-append n (packed (w + i) ws) (bits_n 64 (get_or ws (w + i) 0))) ∙ value_of-append xs ys in
    rw e (some_more (value_of xs) (2 ^ length ys) (value_of ys) (past_stays n w i ws h) (pow_pos (length ys)))
  where
    some_more : (a b c : ℕ) → 0 < a → 0 < b → 0 < a * b + c
    some_more zero b c ha hb = absurd (omega arith)
    some_more (suc a) b c ha hb = omega (arith, suc-mul a b)

module _ (n w k x : ℕ) (ws : List ℕ) (e : k ≡ n - w * 64) (h : k ≤ 64) (ex : x ≡ get_or ws w 0 * 2 ^ k % 2 ^ 64) where
  pub past_more : value_of (drop n (packed w ws)) ≡ 0 → x ≤ 0 → value_of (drop n (packed (suc w) ws)) ≡ 0
  past_more z hx =
      let r : ℕ = get_or ws w 0 % 2 ^ (64 - k) in
      let p : r * 2 ^ k ≡ 0 = sym (moved_up (get_or ws w 0) k h) ∙ sym ex ∙ le_zero hx in
      let q : r ≡ 0 = none_of r (2 ^ k) (pow_pos k) p in
      past_value n w k ws e h ∙ ap₂ (λ (a b : ℕ). a * 2 ^ (64 - k) + b) z q ∙ ap (λ (a : ℕ). a + 0) (zero-mul (2 ^ (64 - k)))
    where
      le_zero : {a : ℕ} → a ≤ 0 → a ≡ 0
      le_zero l = omega arith

      none_of : (a b : ℕ) → 0 < b → a * b ≡ 0 → a ≡ 0
      none_of zero b l q = refl
      none_of (suc a) b l q = absurd (omega (arith, suc-mul a b))

  past_some : 0 < x → 0 < value_of (drop n (packed (suc w) ws))
  past_some hx =
      let r : ℕ = get_or ws w 0 % 2 ^ (64 - k) in
      let p : 0 < r * 2 ^ k = rw (← moved_up (get_or ws w 0) k h, ← ex) hx in
      rw (past_value n w k ws e h) (omega (arith, some_of r (2 ^ k) p))
    where
      some_of : (a b : ℕ) → 0 < a * b → 0 < a
      some_of zero b l = absurd (omega (arith, zero-mul b))
      some_of (suc a) b l = omega arith

  -- a word with such a bit spoils the row
  pub row_spoiled : w < 8 → 0 < x → clean_row n ws ≡ false
  row_spoiled l hx =
      let e₈ : suc w + (7 - w) ≡ 8 = omega arith in
      row_not_cleaned n ws (subst (λ (j : ℕ). 0 < value_of (drop n (packed j ws))) e₈ (past_stays n (suc w) (7 - w) ws (past_some hx)))
