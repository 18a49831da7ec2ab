-- LAWS OF THE ROWS THAT ARE READ, as constraints and as words of the row store.
--   rows_ascend               the numbers of the constraints ascend
--   full c                    coefficients and zeros behind them, 512 bits
--   front c w                 the first w words of these, and zeros behind them, eight words
--   words_read, row_read      one word of a row is read; the row is read
--   length-words_of, length-row_words, length-store_words   eight words and the parity, nine words a row
--   fill_step                 one more row in the store
--   store_fits                every word is below 2 ^ 64
-- Assumes nothing.
use mathlib.Core.Bool.{Bool, false}
use mathlib.Core.List.{List, [], ◌∷◌, ◌++◌, map, append_assoc, append-nil}
use mathlib.Core.Logic.{◌⊎◌, ⊎_elim}
use mathlib.Core.Path.{◌≡◌, refl, sym, ap, ap₂, ◌∙◌}
use Prim.Native.Nat.{ℕ, zero, suc, ◌+◌, ◌-◌, ◌*◌, ◌/◌, ◌%◌, ◌^◌, ◌≤◌, ◌<◌, min}
use native.Mathlib.Nat.{add-zero, mul-one, zero-mul}
use native.Mathlib.Numerals.{add-one}
use native.Mathlib.Omega.{arith}
use lib.ListN.{drop, length, take, length-append, length-drop, get_or, length-take, replicate, set}
use lib.Pow.{pow_mono, shl_exact}
use lib.Seq.{take_at, drop-append-add, drop-drop, length-take-le, append_snoc, set_at}
use Rattle.gf2.specs.Lists.{All, Ascending}
use Rattle.format.proofs.Digits.{value_of-lt, value_of-pad}
use Rattle.format.proofs.Runs.{drop-take, take_min, take_pad, drop_pad, drop_all}
use Rattle.format.proofs.Values.{field_lt, value_front, value_back}
use Rattle.format.specs.Bits.{value_of}
use Rattle.format.specs.Sheet.{rows_from, word_at, words_of, row_words, store_words}

-- ---- numbers

rows_above : (a k n m : ℕ) (bs : List Bool) → a < k → All (λ y. a < y) (map (λ c. c.number) (rows_from k n m bs))
unfolding rows_from
rows_above a k n zero bs l = tt
rows_above a k n (suc m) bs l = (l, rows_above a (suc k) n m (drop (n + 1) bs) (omega arith))

pub rows_ascend : (k n m : ℕ) (bs : List Bool) → Ascending (map (λ c. c.number) (rows_from k n m bs))
unfolding rows_from
rows_ascend k n zero bs = tt
rows_ascend k n (suc m) bs = (rows_above k (suc k) n m (drop (n + 1) bs) (omega arith), rows_ascend (suc k) n m (drop (n + 1) bs))

-- ---- words

abbrev pub full : List Bool → List Bool
full c = c ++ replicate (512 - length c) false

pub length-words_of : (k : ℕ) (bs : List Bool) → length (words_of k bs) ≡ k
unfolding words_of
length-words_of zero bs = refl
length-words_of (suc k) bs = omega (arith, length-append (words_of k bs) (word_at bs k ∷ []), length-words_of k bs)

-- word w of a full run
word_full : (c : List Bool) (w : ℕ) → length c ≤ 512 → w < 8 → word_at (full c) w ≡ value_of (take 64 (drop (w * 64) c)) * 2 ^ (64 - (length c - w * 64))
unfolding word_at
word_full c w h l =
    let b : ℕ = w * 64 in
    let j : ℕ = 512 - length c - (b - length c) in
    ap (λ (r : List Bool). value_of (take 64 r)) (drop_pad false b c (512 - length c))
    ∙ ap value_of (take_pad false 64 (drop b c) j (rw length-drop (omega arith)))
    ∙ ap (λ (n : ℕ). value_of (take 64 (drop b c) ++ replicate (64 - n) false)) (length-drop b c)
    ∙ value_of-pad (take 64 (drop b c)) (64 - (length c - b))

-- a word past the coefficients
word_past : (c : List Bool) (w : ℕ) → length c ≤ w * 64 → w < 8 → word_at (full c) w ≡ 0
unfolding value_of
word_past c w h l =
    let b : ℕ = w * 64 in
    word_full c w (omega arith) l
    ∙ ap (λ (r : List Bool). value_of (take 64 r) * 2 ^ (64 - (length c - b))) (drop_all b c h)
    ∙ zero-mul (2 ^ (64 - (length c - b)))

-- word w of the n bits from at on is the k bits at pos, moved to the top of a word
word_read : (bs : List Bool) (at n w pos k : ℕ) → n ≤ 512 → at + n ≤ length bs → w < 8 → w * 64 ≤ n → k ≡ min 64 (n - w * 64) → pos ≡ at + w * 64
    → value_of (take k (drop pos bs)) * 2 ^ (64 - k) ≡ word_at (full (take n (drop at bs))) w
word_read bs at n w pos k hn hb hw hl hk hp =
    let b : ℕ = w * 64 in
    let c : List Bool = take n (drop at bs) in
    let lc : length c ≡ n = length-take-le n (drop at bs) (rw length-drop (omega arith)) in
    let e : 64 - (n - b) ≡ 64 - k = omega arith in
    let part : take 64 (drop b c) ≡ take k (drop pos bs) =
    ap (take 64) (drop-take b n (drop at bs))
    ∙ take_min 64 (n - b) (drop b (drop at bs))
    ∙ ap₂ (λ (i : ℕ) (r : List Bool). take i r) (sym hk) (drop-drop b at bs ∙ ap (λ (i : ℕ). drop i bs) (sym hp)) in
    sym (word_full c w (omega (arith, lc)) hw
    ∙ ap (λ (i : ℕ). value_of (take 64 (drop b c)) * 2 ^ (64 - (i - b))) lc
    ∙ ap₂ (λ (r : List Bool) (i : ℕ). value_of r * 2 ^ i) part e)

-- ---- eight words, filled from the front

abbrev pub front : List Bool → ℕ → List ℕ
front c w = words_of w (full c) ++ replicate (8 - w) 0

-- one word more
front_more : (c : List Bool) (w v : ℕ) (ws : List ℕ) → w < 8 → v ≡ word_at (full c) w → ws ≡ front c w → set ws w v ≡ front c (suc w)
unfolding words_of
front_more c w v ws h ev e =
    let W : List ℕ = words_of w (full c) in
    let k : 8 - w ≡ suc (8 - suc w) = omega arith in
    ap (λ (r : List ℕ). set r w v) (e ∙ ap (λ (i : ℕ). W ++ replicate i 0) k)
    ∙ set_at W 0 (replicate (8 - suc w) 0) v w (length-words_of w (full c))
    ∙ sym (append_snoc W v (replicate (8 - suc w) 0))
    ∙ ap (λ (x : ℕ). W ++ (x ∷ []) ++ replicate (8 - suc w) 0) ev

-- the words past the coefficients are zeros
front_past : (c : List Bool) (w i : ℕ) → length c ≤ w * 64 → w + i ≤ 8 → words_of w (full c) ++ replicate i 0 ≡ words_of (w + i) (full c)
unfolding words_of
front_past c w zero h l = append-nil (words_of w (full c)) ∙ ap (λ (j : ℕ). words_of j (full c)) (sym (add-zero w))
front_past c w (suc i) h l =
    let W : List ℕ = words_of w (full c) in
    let e : suc w + i ≡ w + suc i = omega arith in
    sym (append_snoc W 0 (replicate i 0))
    ∙ ap (λ (x : ℕ). W ++ (x ∷ []) ++ replicate i 0) (sym (word_past c w h (omega arith)))
    ∙ front_past c (suc w) i (omega arith) (omega arith)
    ∙ ap (λ (j : ℕ). words_of j (full c)) e

front_all : (c : List Bool) (w : ℕ) → length c ≤ w * 64 → w ≤ 8 → front c w ≡ words_of 8 (full c)
front_all c w h l = let e : w + (8 - w) ≡ 8 = omega arith in front_past c w (8 - w) h (omega arith) ∙ ap (λ (j : ℕ). words_of j (full c)) e

-- a turn of `row_at`
pub words_read : (bs : List Bool) (at n w pos v : ℕ) (ws : List ℕ) → n ≤ 512 → at + n ≤ length bs → w < n / 64 → pos ≡ at + 64 * w → v ≡ value_of (take 64 (drop pos bs))
    → ws ≡ front (take n (drop at bs)) w → set ws w v ≡ front (take n (drop at bs)) (w + 1)
words_read bs at n w pos v ws hn hb hw hp ev e =
    let c : List Bool = take n (drop at bs) in
    let x : v ≡ word_at (full c) w = ev ∙ sym (mul-one (value_of (take 64 (drop pos bs)))) ∙ word_read bs at n w pos 64 hn hb (omega arith) (omega arith) (omega arith) (omega arith) in
    front_more c w v ws (omega arith) x e ∙ ap (front c) (sym (add-one w))

-- the last n % 64 coefficients and the parity, in one field
module _ (bs : List Bool) (at n k pos v : ℕ) (ws : List ℕ) (hn : n ≤ 512) (hb : at + (n + 1) ≤ length bs) (hk : k ≡ n / 64) (hp : pos ≡ at + 64 * k)
    (ev : v ≡ value_of (take (n % 64 + 1) (drop pos bs))) (e : ws ≡ front (take n (drop at bs)) k) where
  last_word : k < 8 → set ws k (v / 2 * 2 ^ (64 - n % 64) % 2 ^ 64) ≡ words_of 8 (full (take n (drop at bs)))
  last_word h =
      let c : List Bool = take n (drop at bs) in
      let left : ℕ = n % 64 in
      let lc : length c ≡ n = length-take-le n (drop at bs) (rw length-drop (omega arith)) in
      let i : 1 ≡ left + 1 - left = omega arith in
      let half : v / 2 ≡ value_of (take left (drop pos bs)) =
      ap₂ (λ (x j : ℕ). x / 2 ^ j) ev i ∙ sym (value_front (drop pos bs) left (left + 1) (omega arith) (rw length-drop (omega arith))) in
      let x : v / 2 * 2 ^ (64 - left) % 2 ^ 64 ≡ word_at (full c) k =
      ap (λ (y : ℕ). y * 2 ^ (64 - left) % 2 ^ 64) half
      ∙ shl_exact left (64 - left) 64 (field_lt left pos bs (omega arith)) (omega arith)
      ∙ word_read bs at n k pos left hn (omega arith) h (omega arith) (omega arith) (omega arith) in
      front_more c k (v / 2 * 2 ^ (64 - left) % 2 ^ 64) ws h x e ∙ front_all c (suc k) (omega arith) h

  no_word : 8 ≤ k → ws ≡ words_of 8 (full (take n (drop at bs)))
  no_word h = e ∙ front_all (take n (drop at bs)) k (omega (arith, length-take n (drop at bs))) (omega arith)

  last_parity : v % 2 ≡ value_of (take 1 (drop n (drop at bs)))
  last_parity =
      let left : ℕ = n % 64 in
      let i : pos + left ≡ at + n = omega arith in
      ap (λ (x : ℕ). x % 2 ^ 1) ev
      ∙ sym (value_back (drop pos bs) left 1 (rw length-drop (omega arith)))
      ∙ ap (λ (r : List Bool). value_of (take 1 r)) (drop-drop left pos bs ∙ ap (λ (j : ℕ). drop j bs) i ∙ sym (drop-drop n at bs))

  -- what `row_at` returns
  pub row_read : (ws' : List ℕ) (p : ℕ) → ((k < 8) × (ws' ≡ set ws k (v / 2 * 2 ^ (64 - n % 64) % 2 ^ 64))) ⊎ ((8 ≤ k) × (ws' ≡ ws)) → p ≡ v % 2
      → ws' ++ (p ∷ []) ≡ row_words n (drop at bs)
  unfolding row_words
  row_read ws' p t ep =
      ap₂ (λ (r : List ℕ) (x : ℕ). r ++ (x ∷ [])) (⊎_elim (λ q. q.1 ∙ last_word q.0) (λ q. q.1 ∙ no_word q.0) t) (ep ∙ last_parity)

-- ---- lengths

pub length-row_words : (n : ℕ) (bs : List Bool) → length (row_words n bs) ≡ 9
unfolding row_words
length-row_words n bs =
    omega (arith, length-append (words_of 8 (full (take n bs))) (value_of (take 1 (drop n bs)) ∷ []), length-words_of 8 (full (take n bs)))

pub length-store_words : (n m : ℕ) (bs : List Bool) → length (store_words n m bs) ≡ 9 * m
unfolding store_words
length-store_words n zero bs = refl
length-store_words n (suc m) bs =
    omega (arith, length-append (store_words n m bs) (row_words n (drop (m * (n + 1)) bs)), length-store_words n m bs, length-row_words n (drop (m * (n + 1)) bs))

-- ---- the store

-- a row is kept behind the r that are there
pub fill_step : (n r : ℕ) (bs : List Bool) (store old row : List ℕ) → store ≡ store_words n r bs ++ drop (9 * r) old → row ≡ row_words n (drop (r * (n + 1)) bs)
    → take (9 * r) store ++ (row ++ drop (9 * r + 9) store) ≡ store_words n (suc r) bs ++ drop (9 * suc r) old
unfolding store_words
fill_step n r bs store old row e er =
    let R : List ℕ = store_words n r bs in
    let D : List ℕ = drop (9 * r) old in
    let lR : length R ≡ 9 * r = length-store_words n r bs in
    let k : 9 * r + 9 ≡ 9 * suc r = omega arith in
    let front : take (9 * r) store ≡ R = ap (take (9 * r)) e ∙ take_at R D (9 * r) lR in
    let back : drop (9 * r + 9) store ≡ drop (9 * suc r) old =
    ap (drop (9 * r + 9)) e
    ∙ ap (λ (i : ℕ). drop (i + 9) (R ++ D)) (sym lR)
    ∙ drop-append-add R D 9
    ∙ drop-drop 9 (9 * r) old
    ∙ ap (λ (i : ℕ). drop i old) k in
    ap₂ (λ (u v : List ℕ). u ++ (row ++ v)) front back
    ∙ ap (λ (u : List ℕ). R ++ (u ++ drop (9 * suc r) old)) er
    ∙ sym (append_assoc R (row_words n (drop (r * (n + 1)) bs)) (drop (9 * suc r) old))

-- ---- every word has 64 bits

fit_append : (xs ys : List ℕ) → ((i : ℕ) → get_or xs i 0 < 2 ^ 64) → ((i : ℕ) → get_or ys i 0 < 2 ^ 64) → (i : ℕ) → get_or (xs ++ ys) i 0 < 2 ^ 64
fit_append [] ys hx hy i = hy i
fit_append (x ∷ xs) ys hx hy zero = hx 0
fit_append (x ∷ xs) ys hx hy (suc i) = fit_append xs ys (λ j. hx (suc j)) hy i

fit_one : (k : ℕ) (bs : List Bool) → k ≤ 64 → (i : ℕ) → get_or (value_of (take k bs) ∷ []) i 0 < 2 ^ 64
fit_one k bs h zero =
    let l : length (take k bs) ≤ 64 = omega (arith, length-take k bs) in
    let m : 2 ^ length (take k bs) ≤ 2 ^ 64 = pow_mono l in
    omega (arith, value_of-lt (take k bs))
fit_one k bs h (suc i) = omega arith

words_fit : (k : ℕ) (bs : List Bool) (i : ℕ) → get_or (words_of k bs) i 0 < 2 ^ 64
unfolding words_of word_at
words_fit zero bs i = omega arith
words_fit (suc k) bs i = fit_append (words_of k bs) (word_at bs k ∷ []) (words_fit k bs) (fit_one 64 (drop (k * 64) bs) (omega arith)) i

row_fits : (n : ℕ) (bs : List Bool) (i : ℕ) → get_or (row_words n bs) i 0 < 2 ^ 64
unfolding row_words
row_fits n bs i = fit_append (words_of 8 (full (take n bs))) (value_of (take 1 (drop n bs)) ∷ []) (words_fit 8 (full (take n bs))) (fit_one 1 (drop n bs) (omega arith)) i

pub store_fits : (n m : ℕ) (bs : List Bool) (i : ℕ) → get_or (store_words n m bs) i 0 < 2 ^ 64
unfolding store_words
store_fits n zero bs i = omega arith
store_fits n (suc m) bs i = fit_append (store_words n m bs) (row_words n (drop (m * (n + 1)) bs)) (store_fits n m bs) (row_fits n (drop (m * (n + 1)) bs)) i
