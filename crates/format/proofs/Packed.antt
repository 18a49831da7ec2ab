-- LAWS OF THE BITS THAT A ROW STORE MAKES, as the writer puts them.
--   length-packed, length-row_bits, length-body_bits, length-sheet_bits   how many they are
--   words_step, row_put        one word of a row is put; the row is put
--   emitted                    head, rows and padding are put
--   front_bits, back_bytes     what that leaves: the sheet in the first bytes, and the others as they were
--   bit_packed                 a coefficient, as a bit of its word
-- Assumes nothing.
use mathlib.Core.Bool.{Bool, false}
use mathlib.Core.List.{List, ◌++◌, append_assoc, append-nil}
use mathlib.Core.Logic.{⊎_elim}
use mathlib.Core.Path.{◌≡◌, refl, sym, ap, ap₂, ◌∙◌}
use Prim.Native.Nat.{ℕ, zero, suc, ◌+◌, ◌-◌, ◌*◌, ◌/◌, ◌%◌, ◌^◌, ◌≤◌, ◌<◌, min}
use native.Mathlib.Nat.{add-zero, add-suc, eq-or-lt_of_le, mod-lt, suc-sub-suc}
use native.Mathlib.Numerals.{add-one}
use native.Mathlib.Omega.{arith}
use lib.ListN.{drop, length, take, length-append, get_or, length-take, replicate, length-replicate, get_or-append}
use lib.Pow.{pow_pos}
use lib.Seq.{take_all, take_at, take-append-le, get_or-drop, get_or-append-add, drop_at}
use Rattle.format.proofs.Bytes.{take-bits, drop_bits, bytes_same}
use Rattle.format.proofs.Digits.{length-bits_n, bits_n-mod, bits_n-cat, take-bits_n, get_or-bits_n, bits_n-zero}
use Rattle.format.proofs.Puts.{put_at-next}
use Rattle.format.proofs.Runs.{take_min, take-append}
use Rattle.format.specs.Bits.{odd, bits_n, bits_of, put_at}
use Rattle.format.specs.Sheet.{bits_for, size_for, packed, row_bits, body_bits, sheet_bits}

-- ---- lengths

pub length-packed : (k : ℕ) (ws : List ℕ) → length (packed k ws) ≡ k * 64
unfolding packed
length-packed zero ws = refl
length-packed (suc k) ws = omega (arith, length-append (packed k ws) (bits_n 64 (get_or ws k 0)), length-packed k ws, length-bits_n 64 (get_or ws k 0))

length-row_part : (n w : ℕ) (ws : List ℕ) → length (take n (packed w ws)) ≡ min n (w * 64)
length-row_part n w ws = length-take n (packed w ws) ∙ ap (min n) (length-packed w ws)

pub length-row_bits : (n : ℕ) (ws : List ℕ) → n ≤ 512 → length (row_bits n ws) ≡ n + 1
unfolding row_bits
length-row_bits n ws h = omega (arith, length-append (take n (packed 8 ws)) (bits_n 1 (get_or ws 8 0)), length-row_part n 8 ws, length-bits_n 1 (get_or ws 8 0))

pub length-body_bits : (n m : ℕ) (ws : List ℕ) → n ≤ 512 → length (body_bits n m ws) ≡ m * (n + 1)
unfolding body_bits
length-body_bits n zero ws h = omega arith
length-body_bits n (suc m) ws h =
    omega (arith, length-append (body_bits n m ws) (row_bits n (drop (9 * m) ws)), length-body_bits n m ws h, length-row_bits n (drop (9 * m) ws) h)

pub length-sheet_bits : (n m : ℕ) (ws : List ℕ) → n ≤ 512 → length (sheet_bits n m ws) ≡ size_for n m * 8
unfolding sheet_bits
length-sheet_bits n m ws hn =
    let X : List Bool = body_bits n m ws in
    let z : ℕ = size_for n m * 8 - bits_for n m in
    let Z : List Bool = replicate z false in
    omega (arith, length-append (bits_n 10 n) (bits_n 9 m ++ (X ++ Z)), length-append (bits_n 9 m) (X ++ Z), length-append X Z, length-replicate z false, length-bits_n 10 n, length-bits_n 9 m, length-body_bits n m ws hn)

-- ---- a row

-- n bits of w + 1 words: those of w words, and the first bits of the next
packed_more : (n w k : ℕ) (ws : List ℕ) → k ≡ min 64 (n - w * 64) → take n (packed (suc w) ws) ≡ take n (packed w ws) ++ bits_n k (get_or ws w 0 / 2 ^ (64 - k))
unfolding packed
packed_more n w k ws e =
    let v : ℕ = get_or ws w 0 in
    let l : List Bool = bits_n 64 v in
    let f : min (n - w * 64) 64 ≡ k = omega arith in
    let cut : take (n - w * 64) l ≡ take k l =
    ap (take (n - w * 64)) (sym (take_all 64 l (omega (arith, length-bits_n 64 v)))) ∙ take_min (n - w * 64) 64 l ∙ ap (λ (i : ℕ). take i l) f in
    take-append n (packed w ws) l
    ∙ ap (λ (i : ℕ). take n (packed w ws) ++ take (n - i) l) (length-packed w ws)
    ∙ ap (λ (r : List Bool). take n (packed w ws) ++ r) (cut ∙ take-bits_n k v (omega arith))

-- words past the n-th bit do not matter
packed_cut : (n k i : ℕ) (ws : List ℕ) → n ≤ k * 64 → take n (packed (k + i) ws) ≡ take n (packed k ws)
unfolding packed
packed_cut n k zero ws h = ap (λ (m : ℕ). take n (packed m ws)) (add-zero k)
packed_cut n k (suc i) ws h =
    let l : n ≤ length (packed (k + i) ws) = rw (length-packed (k + i) ws) (omega arith) in
    ap (λ (m : ℕ). take n (packed m ws)) (add-suc k i)
    ∙ take-append-le n (packed (k + i) ws) (bits_n 64 (get_or ws (k + i) 0)) l
    ∙ packed_cut n k i ws h

packed_whole : (n k : ℕ) (ws : List ℕ) → k * 64 ≤ n → take n (packed k ws) ≡ packed k ws
packed_whole n k ws h = take_all n (packed k ws) (rw (length-packed k ws) h)

-- n bits of eight words: k words, and n % 64 bits more
packed_rest : (n k left : ℕ) (ws : List ℕ) → n ≤ 512 → n ≡ 64 * k + left → left < 64 → take n (packed 8 ws) ≡ packed k ws ++ bits_n left (get_or ws k 0 / 2 ^ (64 - left))
unfolding bits_n
packed_rest n k left ws h e l =
    let le : k ≤ 8 = omega arith in
    ⊎_elim
    (λ (p : k ≡ 8).
    let z : 0 ≡ left = omega arith in
    packed_whole n 8 ws (omega arith)
    ∙ sym (append-nil (packed 8 ws))
    ∙ ap₂ (λ (j d : ℕ). packed j ws ++ bits_n d (get_or ws j 0 / 2 ^ (64 - d))) (sym p) z)
    (λ (p : k < 8).
    let m : 8 ≡ suc k + (7 - k) = omega arith in
    ap (λ (j : ℕ). take n (packed j ws)) m
    ∙ packed_cut n (suc k) (7 - k) ws (omega arith)
    ∙ packed_more n k left ws (omega arith)
    ∙ ap (λ (r : List Bool). r ++ bits_n left (get_or ws k 0 / 2 ^ (64 - left))) (packed_whole n k ws (omega arith)))
    (eq-or-lt_of_le le)

-- a turn of `put_row`
pub words_step : (b b₁ b₂ : List Bool) (at pos w v : ℕ) (ws : List ℕ) → pos ≡ at + 64 * w → pos ≤ length b → v ≡ get_or ws w 0
    → b₁ ≡ put_at b at (packed w ws) → b₂ ≡ put_at b₁ pos (bits_n 64 v)
    → b₂ ≡ put_at b at (packed (w + 1) ws)
unfolding packed
words_step b b₁ b₂ at pos w v ws ep l ev e₁ e₂ =
    let xs : List Bool = packed w ws in
    let lx : length xs ≡ w * 64 = length-packed w ws in
    e₂
    ∙ ap₂ (λ (r : List Bool) (x : ℕ). put_at r pos (bits_n 64 x)) e₁ ev
    ∙ put_at-next b at xs (bits_n 64 (get_or ws w 0)) pos (omega (arith, lx)) l
    ∙ ap (λ (k : ℕ). put_at b at (packed k ws)) (sym (add-one w))

-- what `put_row` writes: k words, and the rest with the parity
pub row_put : (b b₁ b₂ : List Bool) (at n k pos : ℕ) (ws : List ℕ) (v : ℕ) → n ≤ 512 → at + (n + 1) ≤ length b → k ≡ n / 64 → pos ≡ at + 64 * k
    → b₁ ≡ put_at b at (packed k ws)
    → v ≡ get_or ws (n / 64) 0 / 2 ^ (64 - n % 64) * 2 ^ 1 + get_or ws 8 0 % 2 ^ 1
    → b₂ ≡ put_at b₁ pos (bits_n (n % 64 + 1) v)
    → b₂ ≡ put_at b at (row_bits n ws)
unfolding row_bits
row_put b b₁ b₂ at n k pos ws v h l ek ep e₁ ev e₂ =
    let left : ℕ = n % 64 in
    let x : ℕ = get_or ws k 0 / 2 ^ (64 - left) in
    let p : ℕ = get_or ws 8 0 in
    let lx : length (packed k ws) ≡ k * 64 = length-packed k ws in
    let ev' : v ≡ x * 2 ^ 1 + p % 2 ^ 1 =
    ev ∙ ap (λ (i : ℕ). get_or ws i 0 / 2 ^ (64 - left) * 2 ^ 1 + p % 2 ^ 1) (sym ek) in
    let last : bits_n (left + 1) v ≡ bits_n left x ++ bits_n 1 p = ap (bits_n (left + 1)) ev' ∙ bits_n-cat left 1 x (mod-lt p (pow_pos 1)) ∙ ap (λ (r : List Bool). bits_n left x ++ r) (bits_n-mod 1 p) in
    e₂
    ∙ ap₂ (λ (r xs : List Bool). put_at r pos xs) e₁ last
    ∙ put_at-next b at (packed k ws) (bits_n left x ++ bits_n 1 p) pos (omega (arith, lx)) (omega arith)
    ∙ ap (put_at b at) (sym (append_assoc (packed k ws) (bits_n left x) (bits_n 1 p)) ∙ ap (λ (r : List Bool). r ++ bits_n 1 p) (sym (packed_rest n k left ws h (omega arith) (omega arith))))

-- ---- the sheet

-- what four puts, one after the other, leave
pub emitted : (n m : ℕ) (ws : List ℕ) (b₀ b₁ b₂ b₃ b₄ : List Bool) (p₁ p₂ p₃ : ℕ) → n ≤ 512 → size_for n m * 8 ≤ length b₀
    → b₁ ≡ put_at b₀ 0 (bits_n 10 n) → p₁ ≡ 10
    → b₂ ≡ put_at b₁ p₁ (bits_n 9 m) → p₂ ≡ p₁ + 9
    → b₃ ≡ put_at b₂ p₂ (body_bits n m ws) → p₃ ≡ p₂ + m * (n + 1)
    → b₄ ≡ put_at b₃ p₃ (bits_n ((p₃ + 7) / 8 * 8 - p₃) 0)
    → b₄ ≡ put_at b₀ 0 (sheet_bits n m ws)
unfolding sheet_bits
emitted n m ws b₀ b₁ b₂ b₃ b₄ p₁ p₂ p₃ hn hl e₁ q₁ e₂ q₂ e₃ q₃ e₄ =
    let A : List Bool = bits_n 10 n in
    let B : List Bool = bits_n 9 m in
    let C : List Bool = body_bits n m ws in
    let Z : List Bool = replicate (size_for n m * 8 - bits_for n m) false in
    let la : length A ≡ 10 = length-bits_n 10 n in
    let lb : length (A ++ B) ≡ 19 = omega (arith, length-append A B, la, length-bits_n 9 m) in
    let lc : length (A ++ B ++ C) ≡ 19 + m * (n + 1) = omega (arith, length-append (A ++ B) C, lb, length-body_bits n m ws hn) in
    let k : (p₃ + 7) / 8 * 8 - p₃ ≡ size_for n m * 8 - bits_for n m = omega arith in
    let f₂ : b₂ ≡ put_at b₀ 0 (A ++ B) = e₂ ∙ ap (λ (r : List Bool). put_at r p₁ B) e₁ ∙ put_at-next b₀ 0 A B p₁ (omega arith) (omega arith) in
    let f₃ : b₃ ≡ put_at b₀ 0 (A ++ B ++ C) = e₃ ∙ ap (λ (r : List Bool). put_at r p₂ C) f₂ ∙ put_at-next b₀ 0 (A ++ B) C p₂ (omega arith) (omega arith) in
    let f₄ : b₄ ≡ put_at b₀ 0 (A ++ B ++ C ++ Z) =
    e₄ ∙ ap₂ (λ (r z : List Bool). put_at r p₃ z) f₃ (ap (λ (i : ℕ). bits_n i 0) k ∙ bits_n-zero (size_for n m * 8 - bits_for n m)) ∙ put_at-next b₀ 0 (A ++ B ++ C) Z p₃ (omega arith) (omega arith) in
    f₄ ∙ ap (put_at b₀ 0) (append_assoc (A ++ B) C Z ∙ append_assoc A B (C ++ Z))

-- what `emit` leaves: the sheet in the first bytes, and the others as they were
pub front_bits : (n m : ℕ) (ws old new : List ℕ) → n ≤ 512 → size_for n m ≤ length old → length new ≡ length old → bits_of new ≡ put_at (bits_of old) 0 (sheet_bits n m ws) → bits_of (take (size_for n m) new) ≡ sheet_bits n m ws
front_bits n m ws old new hn hl hk e =
    let S : List Bool = sheet_bits n m ws in
    take-bits (size_for n m) new (omega arith) ∙ ap (take (size_for n m * 8)) e ∙ take_at S (drop (0 + length S) (bits_of old)) (size_for n m * 8) (length-sheet_bits n m ws hn)

pub back_bytes : (n m : ℕ) (ws old new : List ℕ) → n ≤ 512 → size_for n m ≤ length old → length new ≡ length old → ((i : ℕ) → get_or old i 0 < 2 ^ 8) → ((i : ℕ) → get_or new i 0 < 2 ^ 8)
    → bits_of new ≡ put_at (bits_of old) 0 (sheet_bits n m ws) → drop (size_for n m) new ≡ drop (size_for n m) old
back_bytes n m ws old new hn hl hk ho hw e =
    let S : List Bool = sheet_bits n m ws in
    let lS : length S ≡ size_for n m * 8 = length-sheet_bits n m ws hn in
    let k : ℕ = size_for n m in
    let f : 0 + length S ≡ k * 8 = omega arith in
    bytes_same (drop k new) (drop k old) (λ i. rw get_or-drop (hw (k + i))) (λ i. rw get_or-drop (ho (k + i)))
    (drop_bits k new (omega arith) ∙ ap (drop (k * 8)) e ∙ drop_at S (drop (0 + length S) (bits_of old)) (k * 8) lS ∙ ap (λ (i : ℕ). drop i (bits_of old)) f ∙ sym (drop_bits k old hl))

-- ---- one bit

pub bit_packed : (j w i : ℕ) (ws : List ℕ) → w < j → i < 64 → get_or (packed j ws) (w * 64 + i) false ≡ odd (get_or ws w 0 / 2 ^ (63 - i))
unfolding packed
bit_packed zero w i ws h hi = absurd (omega arith)
bit_packed (suc j) w i ws h hi =
    let h' : w ≤ j = omega arith in
    let Q : List Bool = bits_n 64 (get_or ws j 0) in
    let lP : length (packed j ws) ≡ j * 64 = length-packed j ws in
    ⊎_elim
    (λ (e : w ≡ j).
    let p : w * 64 + i ≡ length (packed j ws) + i = omega (arith, ap (λ (x : ℕ). x * 64) e) in
    ap (λ (x : ℕ). get_or (packed j ws ++ Q) x false) p
    ∙ get_or-append-add (packed j ws) Q i false
    ∙ get_or-bits_n 64 (get_or ws j 0) i hi
    ∙ ap₂ (λ (x y : ℕ). odd (get_or ws x 0 / 2 ^ y)) (sym e) (suc-sub-suc 63 i))
    (λ (l : w < j). get_or-append (packed j ws) Q false (w * 64 + i) (omega arith) ∙ bit_packed j w i ws l hi)
    (eq-or-lt_of_le h')
