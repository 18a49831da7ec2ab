-- THE ROW STORE AFTER AN ACCEPTED READ, as constraints.
--   store_read      its rows are the sheet's: row q, counted from 0, is the one that begins where q rows end
-- (That n and m are the sheet's own is `read_accepted`.)
-- Assumes nothing.
use mathlib.Core.Bool.{Bool, true, false}
use mathlib.Core.List.{List, [], ◌∷◌, ◌++◌}
use mathlib.Core.Path.{◌≡◌, refl, sym, ap, ◌∙◌}
use Prim.Native.Nat.{ℕ, zero, suc, ◌+◌, ◌-◌, ◌*◌, ◌/◌, ◌%◌, ◌^◌, ◌<◌}
use native.Mathlib.Nat.{add-zero, mod-lt, zero-lt-suc}
use native.Mathlib.Omega.{arith}
use lib.Dec.{eqb}
use lib.ListN.{drop, length, take, get_or}
use lib.Seq.{get_or-drop}
use Rattle.std.specs.Prelude.{Ok}
use Rattle.format.proofs.Packed.{bit_packed}
use Rattle.format.proofs.Runs.{get_or-take_past, get_or_pad}
use Rattle.format.proofs.Undo.{row_packed, row_parity, store_row}
use Rattle.format.specs.Bits.{odd, bits_of, value_of}
use Rattle.format.specs.Sheet.{row_of, row_words, packed}
use Rattle.sheet.proofs.Reader.{read_accepted}
use Rattle.sheet.specs.Reader.{Reads}
use Rattle.words.specs.Store.{StoreRead}
use Rattle.words.specs.Words.{digit, bit_at}
use Rattle.cursor.specs.declared.shape.Shape.{Shape}

-- the two readings of a digit
digit_odd : (v : ℕ) → digit (v % 2) ≡ odd v
unfolding odd
digit_odd v = small (v % 2) (mod-lt v (zero-lt-suc 1))
  where
    small : (d : ℕ) → d < 2 → digit d ≡ eqb d 1
    small zero h = refl
    small (suc zero) h = refl
    small (suc (suc d)) h = absurd (omega arith)

-- one bit of a row of the store
bit_is : (store : List ℕ) (base i : ℕ) → i < 512 → bit_at store base i ≡ get_or (packed 8 (drop base store)) i false
unfolding bit_at
bit_is store base i h =
    let w : ℕ = i / 64 in
    let j : ℕ = i % 64 in
    let e : w * 64 + j ≡ i = omega arith in
    digit_odd (get_or store (base + w) 0 / 2 ^ (63 - j))
    ∙ ap (λ (v : ℕ). odd (v / 2 ^ (63 - j))) (sym (get_or-drop base store w 0))
    ∙ sym (bit_packed 8 w j (drop base store) (omega arith) (omega arith))
    ∙ ap (λ (k : ℕ). get_or (packed 8 (drop base store)) k false) e

one_bit : (l : List Bool) → digit (value_of (take 1 l) % 2) ≡ get_or l 0 false
unfolding value_of
one_bit [] = refl
one_bit (true ∷ l) = refl
one_bit (false ∷ l) = refl

module _ (s old store : List ℕ) (h : Shape) (p : Reads s old (Ok h) store) where
  abbrev n : ℕ
  n = h.n

  abbrev m : ℕ
  m = h.m

  -- row q of the store, with what stands behind it
  row_is : (q : ℕ) → q < m → (tail : List ℕ) × (drop (9 * q) store ≡ row_words n (drop (q * (n + 1)) (drop 19 (bits_of s))) ++ tail)
  row_is q h =
      let r = store_row n m q (drop 19 (bits_of s)) (drop (9 * m) old) h in
      (r.0, ap (drop (9 * q)) p.store ∙ r.1)

  parity_is : (q : ℕ) (h : q < m) → get_or store (9 * q + 8) 0 ≡ get_or (row_words n (drop (q * (n + 1)) (drop 19 (bits_of s))) ++ (row_is q h).0) 8 0
  parity_is q h = sym (get_or-drop (9 * q) store 8 0) ∙ ap (λ (ws : List ℕ). get_or ws 8 0) (row_is q h).1

  pub store_read : StoreRead h.n h.m store (λ q. row_of h.n (drop (q * (h.n + 1)) (drop 19 (bits_of s))))
  store_read =
      let k = read_accepted s (length old) h p.answer in
      record {
        coefs = λ q h i hi.
            let bs : List Bool = drop (q * (n + 1)) (drop 19 (bits_of s)) in
            bit_is store (9 * q) i hi
            ∙ ap (λ (ws : List ℕ). get_or (packed 8 ws) i false) (row_is q h).1
            ∙ ap (λ (l : List Bool). get_or l i false) (row_packed n bs (row_is q h).0 k.n_small)
            ∙ get_or_pad (take n bs) (512 - length (take n bs)) i false;
        parity = λ q h.
            let bs : List Bool = drop (q * (n + 1)) (drop 19 (bits_of s)) in
            ap (λ (v : ℕ). digit (v % 2)) (parity_is q h ∙ row_parity n bs (row_is q h).0)
            ∙ one_bit (drop n bs)
            ∙ get_or-drop n bs 0 false
            ∙ ap (λ (j : ℕ). get_or bs j false) (add-zero n);
        clean = λ q h v l. past (drop (q * (n + 1)) (drop 19 (bits_of s))) v l;
      }
    where
      past : (bs : List Bool) (v : ℕ) → n < v → row_of n bs v ≡ false
      past bs zero l = absurd (omega arith)
      past bs (suc i) l = get_or-take_past n i bs false (omega arith)
