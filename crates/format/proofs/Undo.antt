-- READING AND WRITING UNDO EACH OTHER, on bits and words.
--   row_packed, row_parity, parity_lt   the bits of a row's eight words as they were read, and its ninth word
--   store_row                row r of a store as it was read, with what stands behind it
--   write_read               an accepted sheet is what is written of what was read
--   read_write               bytes that hold the sheet of a clean store are accepted, and what is read is the store
--   clean_read               what was read is clean
-- Assumes nothing.
use mathlib.Core.Bool.{Bool, true, false, ◌&&◌}
use mathlib.Core.List.{List, [], ◌∷◌, ◌++◌, append_assoc}
use mathlib.Core.Logic.{⊎_elim}
use mathlib.Core.Path.{◌≡◌, refl, sym, ap, ap₂, ◌∙◌}
use Prim.Native.Nat.{ℕ, zero, suc, ◌+◌, ◌-◌, ◌*◌, ◌^◌, ◌≤◌, ◌<◌}
use native.Mathlib.Nat.{eq-or-lt_of_le, mod-eq_of_lt, zero-mul}
use native.Mathlib.Omega.{arith}
use borrow.Author.Tests.{lt-ltb}
use lib.ListN.{drop, length, take, length-append, length-drop, get_or, length-take, take-append-drop, replicate, length-replicate, get_or-append}
use lib.Seq.{take_all, take_at, drop-drop, take-add, length-take-le, take-append-le, get_or-drop, drop_at, get_or_at, take-suc, drop-append-le}
use Rattle.format.proofs.Accepted.{Accepted}
use Rattle.format.proofs.Bytes.{length-bits_of}
use Rattle.format.proofs.Clean.{CleanRow, clean_row_is, row_cleaned, clean_at}
use Rattle.format.proofs.Digits.{length-bits_n, value_of-lt, value_of-bits_n, bits_back, value_of-zeros, zeros_back}
use Rattle.format.proofs.Packed.{length-packed, length-body_bits}
use Rattle.format.proofs.Rows.{full, length-words_of, length-store_words}
use Rattle.format.specs.Bits.{bits_n, bits_of, value_of}
use Rattle.format.specs.Sheet.{n_of, m_of, bits_for, size_for, word_at, words_of, row_words, store_words, packed, row_bits, body_bits, sheet_bits, clean_row, clean}

-- ---- what was read is written again

-- only the first k words matter
packed_front : (k : ℕ) (xs ys : List ℕ) → k ≤ length xs → packed k (xs ++ ys) ≡ packed k xs
unfolding packed
packed_front zero xs ys h = refl
packed_front (suc k) xs ys h =
    ap₂ (λ (r : List Bool) (v : ℕ). r ++ bits_n 64 v) (packed_front k xs ys (omega arith)) (get_or-append xs ys 0 k (omega arith))

packed_words : (k : ℕ) (bs : List Bool) → k * 64 ≤ length bs → packed k (words_of k bs) ≡ take (k * 64) bs
unfolding packed words_of word_at
packed_words zero bs h = ap (λ (i : ℕ). take i bs) (sym (zero-mul 64))
packed_words (suc k) bs h =
    let W : List ℕ = words_of k bs in
    let t : List Bool = take 64 (drop (k * 64) bs) in
    let lt : length t ≡ 64 = length-take-le 64 (drop (k * 64) bs) (omega (arith, length-drop (k * 64) bs)) in
    let e : k * 64 + 64 ≡ suc k * 64 = omega arith in
    ap₂ (λ (r : List Bool) (v : ℕ). r ++ bits_n 64 v) (packed_front k W (value_of t ∷ []) (omega (arith, length-words_of k bs)) ∙ packed_words k bs (omega arith)) (get_or_at W (value_of t) [] 0 k (length-words_of k bs))
    ∙ ap (λ (r : List Bool). take (k * 64) bs ++ r) (bits_back 64 t lt)
    ∙ sym (take-add (k * 64) 64 bs)
    ∙ ap (λ (i : ℕ). take i bs) e

length_full : (c : List Bool) → length c ≤ 512 → length (full c) ≡ 512
length_full c h = omega (arith, length-append c (replicate (512 - length c) false), length-replicate (512 - length c) false)

pub row_packed : (n : ℕ) (bs : List Bool) (rest : List ℕ) → n ≤ 512 → packed 8 (row_words n bs ++ rest) ≡ full (take n bs)
unfolding row_words
row_packed n bs rest h =
    let F : List Bool = full (take n bs) in
    let W : List ℕ = words_of 8 F in
    let p : ℕ = value_of (take 1 (drop n bs)) in
    let lF : length F ≡ 512 = length_full (take n bs) (omega (arith, length-take n bs)) in
    ap (packed 8) (append_assoc W (p ∷ []) rest)
    ∙ packed_front 8 W (p ∷ rest) (omega (arith, length-words_of 8 F))
    ∙ packed_words 8 F (omega arith)
    ∙ take_all 512 F (omega arith)

pub row_parity : (n : ℕ) (bs : List Bool) (rest : List ℕ) → get_or (row_words n bs ++ rest) 8 0 ≡ value_of (take 1 (drop n bs))
unfolding row_words
row_parity n bs rest =
    let W : List ℕ = words_of 8 (full (take n bs)) in
    let p : ℕ = value_of (take 1 (drop n bs)) in
    ap (λ (r : List ℕ). get_or r 8 0) (append_assoc W (p ∷ []) rest) ∙ get_or_at W p rest 0 8 (length-words_of 8 (full (take n bs)))

row_back : (n : ℕ) (bs : List Bool) (rest : List ℕ) → n ≤ 512 → n + 1 ≤ length bs → row_bits n (row_words n bs ++ rest) ≡ take (n + 1) bs
unfolding row_bits
row_back n bs rest hn hb =
    let C : List Bool = take n bs in
    let lC : length C ≡ n = length-take-le n bs (omega arith) in
    let l1 : length (take 1 (drop n bs)) ≡ 1 = length-take-le 1 (drop n bs) (omega (arith, length-drop n bs)) in
    ap₂ (λ (r : List Bool) (v : ℕ). r ++ bits_n 1 v) (ap (take n) (row_packed n bs rest hn) ∙ take_at C (replicate (512 - length C) false) n lC) (row_parity n bs rest)
    ∙ ap (λ (r : List Bool). C ++ r) (bits_back 1 (take 1 (drop n bs)) l1)
    ∙ sym (take-add n 1 bs)

body_back : (n m : ℕ) (bs : List Bool) (rest : List ℕ) → n ≤ 512 → m * (n + 1) ≤ length bs → body_bits n m (store_words n m bs ++ rest) ≡ take (m * (n + 1)) bs
unfolding body_bits store_words
body_back n zero bs rest hn hb = ap (λ (i : ℕ). take i bs) (sym (zero-mul (n + 1)))
body_back n (suc m) bs rest hn hb =
    let R : List ℕ = store_words n m bs in
    let row : List ℕ = row_words n (drop (m * (n + 1)) bs) in
    let e : m * (n + 1) + (n + 1) ≡ suc m * (n + 1) = omega arith in
    let a : R ++ row ++ rest ≡ R ++ (row ++ rest) = append_assoc R row rest in
    ap (λ (ws : List ℕ). body_bits n m ws ++ row_bits n (drop (9 * m) ws)) a
    ∙ ap₂ (λ (x y : List Bool). x ++ y) (body_back n m bs (row ++ rest) hn (omega arith))
    (ap (row_bits n) (drop_at R (row ++ rest) (9 * m) (length-store_words n m bs)) ∙ row_back n (drop (m * (n + 1)) bs) rest hn (omega (arith, length-drop (m * (n + 1)) bs)))
    ∙ sym (take-add (m * (n + 1)) (n + 1) bs)
    ∙ ap (λ (i : ℕ). take i bs) e

-- an accepted sheet is what is written of what was read
pub write_read : (s rest : List ℕ) (room n m : ℕ) → Accepted s room n m → sheet_bits n m (store_words n m (drop 19 (bits_of s)) ++ rest) ≡ bits_of s
unfolding sheet_bits
write_read s rest room n m k =
    let B : List Bool = bits_of s in
    let d : ℕ = m * (n + 1) in
    let lB : length B ≡ length s * 8 = length-bits_of s in
    let pad : drop (19 + d) B ≡ replicate (size_for n m * 8 - bits_for n m) false =
    zeros_back (drop (19 + d) B) k.zeros
    ∙ ap (λ (i : ℕ). replicate i false) (length-drop (19 + d) B ∙ ap (λ (i : ℕ). i - (19 + d)) (lB ∙ ap (λ (i : ℕ). i * 8) k.size)) in
    let t₁₀ : bits_n 10 n ≡ take 10 B = ap (bits_n 10) k.n_is ∙ bits_back 10 (take 10 B) (length-take-le 10 B (omega (arith, k.size))) in
    let t₉ : bits_n 9 m ≡ take 9 (drop 10 B) = ap (bits_n 9) k.m_is ∙ bits_back 9 (take 9 (drop 10 B)) (length-take-le 9 (drop 10 B) (omega (arith, length-drop 10 B, k.size))) in
    let body : body_bits n m (store_words n m (drop 19 B) ++ rest) ≡ take d (drop 19 B) = body_back n m (drop 19 B) rest k.n_small (omega (arith, length-drop 19 B, k.size)) in
    rw (t₁₀, t₉, body, ← pad)
    (ap (λ (r : List Bool). take 10 B ++ (take 9 (drop 10 B) ++ (take d (drop 19 B) ++ r))) (sym (drop-drop d 19 B))
    ∙ ap (λ (r : List Bool). take 10 B ++ (take 9 (drop 10 B) ++ r)) (take-append-drop d (drop 19 B) ∙ sym (drop-drop 9 10 B))
    ∙ ap (λ (r : List Bool). take 10 B ++ r) (take-append-drop 9 (drop 10 B))
    ∙ take-append-drop 10 B)

-- ---- what was written is read again

word_packed : (j k : ℕ) (ws : List ℕ) → k < j → get_or ws k 0 < 2 ^ 64 → word_at (packed j ws) k ≡ get_or ws k 0
unfolding word_at packed
word_packed zero k ws h hv = absurd (omega arith)
word_packed (suc j) k ws h hv =
    let h' : k ≤ j = omega arith in
    ⊎_elim
    (λ (e : k ≡ j).
    ap (λ (i : ℕ). value_of (take 64 (drop (k * 64) (packed j ws ++ bits_n 64 (get_or ws i 0))))) (sym e)
    ∙ ap (λ (r : List Bool). value_of (take 64 r)) (drop_at (packed j ws) (bits_n 64 (get_or ws k 0)) (k * 64) (length-packed j ws ∙ ap (λ (i : ℕ). i * 64) (sym e)))
    ∙ ap value_of (take_all 64 (bits_n 64 (get_or ws k 0)) (omega (arith, length-bits_n 64 (get_or ws k 0))))
    ∙ value_of-bits_n 64 (get_or ws k 0)
    ∙ mod-eq_of_lt hv)
    (λ (l : k < j).
    ap (λ (r : List Bool). value_of (take 64 r)) (drop-append-le (k * 64) (packed j ws) (bits_n 64 (get_or ws j 0)) (omega (arith, length-packed j ws)))
    ∙ ap value_of (take-append-le 64 (drop (k * 64) (packed j ws)) (bits_n 64 (get_or ws j 0)) (omega (arith, length-drop (k * 64) (packed j ws), length-packed j ws)))
    ∙ word_packed j k ws l hv)
    (eq-or-lt_of_le h')

words_packed : (k j : ℕ) (ws : List ℕ) → k ≤ j → k ≤ length ws → ((i : ℕ) → get_or ws i 0 < 2 ^ 64) → words_of k (packed j ws) ≡ take k ws
unfolding words_of
words_packed zero j ws h l hv = refl
words_packed (suc k) j ws h l hv =
    ap₂ (λ (r : List ℕ) (v : ℕ). r ++ (v ∷ [])) (words_packed k j ws (omega arith) (omega arith) hv) (word_packed j k ws (omega arith) (hv k))
    ∙ sym (take-suc ws k 0 (omega arith))

row_again : (n : ℕ) (ws : List ℕ) (rest : List Bool) → n ≤ 512 → 9 ≤ length ws → ((i : ℕ) → get_or ws i 0 < 2 ^ 64) → CleanRow n ws → row_words n (row_bits n ws ++ rest) ≡ take 9 ws
unfolding row_bits row_words
row_again n ws rest hn hl hv k =
    let P : List Bool = packed 8 ws in
    let C : List Bool = take n P in
    let q : List Bool = bits_n 1 (get_or ws 8 0) in
    let lP : length P ≡ 512 = length-packed 8 ws in
    let lC : length C ≡ n = length-take-le n P (omega arith) in
    let a : C ++ q ++ rest ≡ C ++ (q ++ rest) = append_assoc C q rest in
    let front : take n (C ++ q ++ rest) ≡ C = ap (take n) a ∙ take_at C (q ++ rest) n lC in
    let back : take 1 (drop n (C ++ q ++ rest)) ≡ q =
    ap (λ (r : List Bool). take 1 (drop n r)) a ∙ ap (take 1) (drop_at C (q ++ rest) n lC) ∙ take_at q rest 1 (length-bits_n 1 (get_or ws 8 0)) in
    let whole : C ++ replicate (512 - length C) false ≡ P =
    ap (λ (i : ℕ). C ++ replicate (512 - i) false) lC ∙ ap (λ (r : List Bool). C ++ r) (sym k.past) ∙ take-append-drop n P in
    let coefs : words_of 8 (take n (C ++ q ++ rest) ++ replicate (512 - length (take n (C ++ q ++ rest))) false) ≡ take 8 ws =
    ap (λ (c : List Bool). words_of 8 (c ++ replicate (512 - length c) false)) front ∙ ap (words_of 8) whole ∙ words_packed 8 8 ws (omega arith) (omega arith) hv in
    let parity : value_of (take 1 (drop n (C ++ q ++ rest))) ≡ get_or ws 8 0 = ap value_of back ∙ value_of-bits_n 1 (get_or ws 8 0) ∙ mod-eq_of_lt k.parity in
    ap₂ (λ (r : List ℕ) (v : ℕ). r ++ (v ∷ [])) coefs parity ∙ sym (take-suc ws 8 0 (omega arith))

rows_again : (n m : ℕ) (ws : List ℕ) (rest : List Bool) → n ≤ 512 → 9 * m ≤ length ws → ((i : ℕ) → get_or ws i 0 < 2 ^ 64) → ((r : ℕ) → r < m → CleanRow n (drop (9 * r) ws))
    → store_words n m (body_bits n m ws ++ rest) ≡ take (9 * m) ws
unfolding store_words body_bits
rows_again n zero ws rest hn hl hv k = refl
rows_again n (suc m) ws rest hn hl hv k =
    let X : List Bool = body_bits n m ws in
    let D : List ℕ = drop (9 * m) ws in
    let Y : List Bool = row_bits n D in
    let e : 9 * m + 9 ≡ 9 * suc m = omega arith in
    let hD : (i : ℕ) → get_or D i 0 < 2 ^ 64 = λ i. rw get_or-drop (hv (9 * m + i)) in
    ap (λ (b : List Bool). store_words n m b ++ row_words n (drop (m * (n + 1)) b)) (append_assoc X Y rest)
    ∙ ap₂ (λ (x y : List ℕ). x ++ y) (rows_again n m ws (Y ++ rest) hn (omega arith) hv (λ r h. k r (omega arith)))
    (ap (row_words n) (drop_at X (Y ++ rest) (m * (n + 1)) (length-body_bits n m ws hn)) ∙ row_again n D rest hn (omega (arith, length-drop (9 * m) ws)) hD (k m (omega arith)))
    ∙ sym (take-add (9 * m) 9 ws)
    ∙ ap (λ (i : ℕ). take i ws) e

-- bytes that hold a row store's sheet are accepted, and the rows that are read are the store's
pub read_write : (s ws : List ℕ) (room n m : ℕ) → n ≤ 512 → m ≤ 256 → 9 * m ≤ length ws → 9 * m ≤ room → ((i : ℕ) → get_or ws i 0 < 2 ^ 64) → clean n m ws ≡ true
    → bits_of s ≡ sheet_bits n m ws → Accepted s room n m × (store_words n m (drop 19 (bits_of s)) ≡ take (9 * m) ws)
unfolding sheet_bits
read_write s ws room n m hn hm hl hr hv k e =
    let A : List Bool = bits_n 10 n in
    let B : List Bool = bits_n 9 m in
    let X : List Bool = body_bits n m ws in
    let z : ℕ = size_for n m * 8 - bits_for n m in
    let Z : List Bool = replicate z false in
    let lA : length A ≡ 10 = length-bits_n 10 n in
    let lB : length B ≡ 9 = length-bits_n 9 m in
    let lX : length X ≡ m * (n + 1) = length-body_bits n m ws hn in
    let d₁₀ : drop 10 (bits_of s) ≡ B ++ (X ++ Z) = ap (drop 10) e ∙ drop_at A (B ++ (X ++ Z)) 10 lA in
    let d₁₉ : drop 19 (bits_of s) ≡ X ++ Z = sym (drop-drop 9 10 (bits_of s)) ∙ ap (drop 9) d₁₀ ∙ drop_at B (X ++ Z) 9 lB in
    let dZ : drop (bits_for n m) (bits_of s) ≡ Z = sym (drop-drop (m * (n + 1)) 19 (bits_of s)) ∙ ap (drop (m * (n + 1))) d₁₉ ∙ drop_at X Z (m * (n + 1)) lX in
    let n_is : n ≡ n_of s = sym (ap (λ (r : List Bool). value_of (take 10 r)) e ∙ ap value_of (take_at A (B ++ (X ++ Z)) 10 lA) ∙ value_of-bits_n 10 n ∙ mod-eq_of_lt (omega arith)) in
    let m_is : m ≡ m_of s = sym (ap (λ (r : List Bool). value_of (take 9 r)) d₁₀ ∙ ap value_of (take_at B (X ++ Z) 9 lB) ∙ value_of-bits_n 9 m ∙ mod-eq_of_lt (omega arith)) in
    let lS : length s ≡ size_for n m = omega (arith, length-bits_of s, ap length e, length-append A (B ++ (X ++ Z)), length-append B (X ++ Z), length-append X Z, length-replicate z false, lA, lB, lX) in
    let row : (r : ℕ) → r < m → CleanRow n (drop (9 * r) ws) = λ r h. clean_row_is n (drop (9 * r) ws) (clean_at n m ws k r h) in (
      record { n_is = n_is; m_is = m_is; n_small = hn; m_small = hm; size = lS; zeros = ap value_of dZ ∙ value_of-zeros z; room_enough = hr },
      ap (store_words n m) d₁₉ ∙ rows_again n m ws Z hn hl hv row,
    )

-- ---- what was read, row by row

pub store_row : (n m r : ℕ) (bs : List Bool) (rest : List ℕ) → r < m → (tail : List ℕ) × (drop (9 * r) (store_words n m bs ++ rest) ≡ row_words n (drop (r * (n + 1)) bs) ++ tail)
unfolding store_words
store_row n zero r bs rest h = absurd (omega arith)
store_row n (suc m) r bs rest h =
    let h' : r ≤ m = omega arith in
    let R : List ℕ = store_words n m bs in
    let row : List ℕ = row_words n (drop (m * (n + 1)) bs) in
    let a : R ++ row ++ rest ≡ R ++ (row ++ rest) = append_assoc R row rest in
    ⊎_elim
    (λ (e : r ≡ m).
    (rest, ap (drop (9 * r)) a ∙ drop_at R (row ++ rest) (9 * r) (length-store_words n m bs ∙ ap (λ (i : ℕ). 9 * i) (sym e)) ∙ ap (λ (i : ℕ). row_words n (drop (i * (n + 1)) bs) ++ rest) (sym e)))
    (λ (l : r < m). let p = store_row n m r bs (row ++ rest) l in (p.0, ap (drop (9 * r)) a ∙ p.1))
    (eq-or-lt_of_le h')

pub parity_lt : (n : ℕ) (bs : List Bool) (rest : List ℕ) → get_or (row_words n bs ++ rest) 8 0 < 2
parity_lt n bs rest =
    let t : List Bool = take 1 (drop n bs) in
    rw (row_parity n bs rest) (small (length t) (omega (arith, length-take 1 (drop n bs))) (value_of-lt t))
  where
    small : {v : ℕ} (k : ℕ) → k ≤ 1 → v < 2 ^ k → v < 2
    small zero l h = omega arith
    small (suc zero) l h = omega arith
    small (suc (suc k)) l h = absurd (omega arith)

row_clean : (n : ℕ) (bs : List Bool) (rest : List ℕ) → n ≤ 512 → n ≤ length bs → clean_row n (row_words n bs ++ rest) ≡ true
row_clean n bs rest hn hb =
    let C : List Bool = take n bs in
    let Z : List Bool = replicate (512 - length C) false in
    row_cleaned n (row_words n bs ++ rest) (ap (λ (r : List Bool). value_of (drop n r)) (row_packed n bs rest hn) ∙ ap value_of (drop_at C Z n (length-take-le n bs hb)) ∙ value_of-zeros (512 - length C))
    ∙ lt-ltb (get_or (row_words n bs ++ rest) 8 0) 2 (parity_lt n bs rest)

pub clean_read : (n m : ℕ) (bs : List Bool) (rest : List ℕ) → n ≤ 512 → m * (n + 1) ≤ length bs → clean n m (store_words n m bs ++ rest) ≡ true
unfolding clean store_words
clean_read n zero bs rest hn hb = refl
clean_read n (suc m) bs rest hn hb =
    let R : List ℕ = store_words n m bs in
    let row : List ℕ = row_words n (drop (m * (n + 1)) bs) in
    ap (λ (ws : List ℕ). clean n m ws && clean_row n (drop (9 * m) ws)) (append_assoc R row rest)
    ∙ ap₂ (λ (a b : Bool). a && b) (clean_read n m bs (row ++ rest) hn (omega arith))
    (ap (clean_row n) (drop_at R (row ++ rest) (9 * m) (length-store_words n m bs)) ∙ row_clean n (drop (m * (n + 1)) bs) rest hn (omega (arith, length-drop (m * (n + 1)) bs)))
