-- WINDOWS OF 64 BITS THAT BEGIN INSIDE A BYTE: eight bytes and the first bits of a ninth.
--   word_room     fewer than eight bytes leave room for one more
--   window_calc   what `window` reads
--   window_put    what `put_window` writes
-- Assumes nothing.
use mathlib.Core.Bool.{Bool}
use mathlib.Core.List.{List, ◌++◌}
use mathlib.Core.Path.{◌≡◌, sym, ap, ap₂, ◌∙◌}
use Prim.Native.Nat.{ℕ, ◌+◌, ◌-◌, ◌*◌, ◌/◌, ◌%◌, ◌^◌, ◌≤◌, ◌<◌}
use native.Mathlib.Nat.{mod-lt}
use native.Mathlib.Omega.{arith}
use lib.Bits.{bit_or, or_shifted}
use lib.ListN.{drop, length, take, length-drop, get_or, set}
use lib.Pow.{pow_pos, pow_mono, shr_lt}
use lib.Seq.{drop-drop}
use Rattle.format.proofs.Bytes.{length-bits_of, read_piece, byte_front}
use Rattle.format.proofs.Digits.{length-bits_n, bits_n-split, bits_n-mod, bits_n-cat}
use Rattle.format.proofs.Puts.{put_at-next, put_at-front, write_piece}
use Rattle.format.proofs.Values.{field_lt, shl_low, value_moved}
use Rattle.format.specs.Bits.{bits_n, bits_of, value_of, put_at}

-- fewer than eight bytes leave room for one more
pub word_room : (s : List ℕ) (q i : ℕ) → q + 8 ≤ length s → i < 8 → value_of (take (8 * i) (drop (8 * q) (bits_of s))) < 2 ^ 56
word_room s q i h l =
    let m : 2 ^ (8 * i) ≤ 2 ^ 56 = let k : 8 * i ≤ 56 = omega arith in pow_mono k in
    omega (arith, field_lt (8 * i) (8 * q) (bits_of s) (simp length-bits_of (omega arith)))

-- what `window` computes: `(w << off) | (b >> (8 - off))`
pub window_calc : (s : List ℕ) (q off w b : ℕ) → q + 9 ≤ length s → off < 8 → b < 2 ^ 8 → b ≡ get_or s (q + 8) 0
    → w ≡ value_of (take 64 (drop (8 * q) (bits_of s)))
    → bit_or (w * 2 ^ off % 2 ^ 64) (b / 2 ^ (8 - off)) ≡ value_of (take 64 (drop (8 * q + off) (bits_of s)))
window_calc s q off w b h l hb eb ew =
    let j : ℕ = 64 - off in
    let k : j + off ≡ 64 = omega arith in
    let k' : off + j ≡ 64 = omega arith in
    let f : 8 * q + 64 ≡ 8 * (q + 8) = omega arith in
    let g : off + (8 - off) ≡ 8 = omega arith in
    let bs : List Bool = drop (8 * q) (bits_of s) in
    let lb : j + off + off ≤ length bs = simp (length-drop, length-bits_of) (omega arith) in
    let lo : b / 2 ^ (8 - off) < 2 ^ off = shr_lt off (8 - off) (rw g hb) in
    let wide : w * 2 ^ off % 2 ^ 64 ≡ w % 2 ^ j * 2 ^ off = ap (λ (n : ℕ). w * 2 ^ off % 2 ^ n) (sym k) ∙ shl_low w j off in
    let tail : value_of (take off (drop 64 bs)) ≡ b / 2 ^ (8 - off) =
    ap (λ (r : List Bool). value_of (take off r)) (drop-drop 64 (8 * q) (bits_of s) ∙ ap (λ (n : ℕ). drop n (bits_of s)) f)
    ∙ byte_front s (q + 8) off (omega arith) (omega arith) (rw eb at hb)
    ∙ ap (λ (n : ℕ). n / 2 ^ (8 - off)) (sym eb) in
    ap (λ (n : ℕ). bit_or n (b / 2 ^ (8 - off))) wide
    ∙ or_shifted (w % 2 ^ j) off (b / 2 ^ (8 - off)) lo
    ∙ ap₂ (λ (x y : ℕ). x + y) (sym wide ∙ ap (λ (n : ℕ). n * 2 ^ off % 2 ^ 64) ew) (sym tail)
    ∙ sym (ap (λ (r : List Bool). value_of (take 64 r)) (sym (drop-drop off (8 * q) (bits_of s)))
    ∙ ap (λ (n : ℕ). value_of (take n (drop off bs))) (sym k)
    ∙ value_moved bs j off lb
    ∙ ap₂ (λ (n m : ℕ). value_of (take n bs) * 2 ^ off % 2 ^ m + value_of (take off (drop n bs))) k' k)

-- the first off bits of byte q
head_bits : (s : List ℕ) (q off : ℕ) → q < length s → off < 8 → bits_n off (get_or s q 0 / 2 ^ (8 - off)) ≡ take off (drop (8 * q) (bits_of s))
head_bits s q off h l =
    let e : q * 8 + 0 ≡ 8 * q = omega arith in
    sym (ap (λ (n : ℕ). take off (drop n (bits_of s))) (sym e) ∙ read_piece s q 0 off (8 - off) h (omega arith))

module _ (s : List ℕ) (q off v : ℕ) (h : q + 9 ≤ length s) (l : off < 8) (hv : v < 2 ^ 64) where
  window_word : (s₁ : List ℕ) (x : ℕ) → x ≡ get_or s q 0 / 2 ^ (8 - off) * 2 ^ (64 - off) + v / 2 ^ off → bits_of s₁ ≡ put_at (bits_of s) (8 * q) (bits_n 64 x)
      → bits_of s₁ ≡ put_at (bits_of s) (8 * q + off) (bits_n (64 - off) (v / 2 ^ off))
  window_word s₁ x ex e₁ =
      let t : ℕ = get_or s q 0 / 2 ^ (8 - off) in
      let k : 64 ≡ off + (64 - off) = omega arith in
      let k' : 64 - off + off ≡ 64 = omega arith in
      let lo : v / 2 ^ off < 2 ^ (64 - off) = shr_lt (64 - off) off (rw k' hv) in
      e₁
      ∙ ap (put_at (bits_of s) (8 * q))
      (ap₂ bits_n k ex
      ∙ bits_n-cat off (64 - off) t lo
      ∙ ap (λ (r : List Bool). r ++ bits_n (64 - off) (v / 2 ^ off)) (head_bits s q off (omega arith) l))
      ∙ put_at-front (bits_of s) (8 * q) off (bits_n (64 - off) (v / 2 ^ off)) (rw length-bits_of (omega arith))

  pub window_put : (s₁ : List ℕ) (x z : ℕ) → length s₁ ≡ length s
      → x ≡ get_or s q 0 / 2 ^ (8 - off) * 2 ^ (64 - off) + v / 2 ^ off → bits_of s₁ ≡ put_at (bits_of s) (8 * q) (bits_n 64 x)
      → z ≡ (get_or s₁ (q + 8) 0 / 2 ^ (8 - 0) * 2 ^ off + v % 2 ^ off) * 2 ^ (8 - 0 - off) + get_or s₁ (q + 8) 0 % 2 ^ (8 - 0 - off)
      → bits_of (set s₁ (q + 8) z) ≡ put_at (bits_of s) (8 * q + off) (bits_n 64 v)
  window_put s₁ x z ls ex e₁ ez =
      let y : ℕ = get_or s₁ (q + 8) 0 in
      let p : ℕ = v % 2 ^ off in
      let sh : ℕ = 8 - off in
      let f : 8 ≡ off + sh = omega arith in
      let k' : 64 - off + off ≡ 64 = omega arith in
      let xs : List Bool = bits_n (64 - off) (v / 2 ^ off) in
      let lx : length xs ≡ 64 - off = length-bits_n (64 - off) (v / 2 ^ off) in
      ap (λ (n : ℕ). bits_of (set s₁ (q + 8) n)) (ez ∙ ap (λ (n : ℕ). (y / 2 ^ n * 2 ^ off + p) * 2 ^ sh + y % 2 ^ sh) f)
      ∙ write_piece s₁ (q + 8) 0 off sh p (omega arith) (omega arith) (mod-lt v (pow_pos off))
      ∙ ap₂ (λ (r b : List Bool). put_at r ((q + 8) * 8 + 0) b) (window_word s₁ x ex e₁) (bits_n-mod off v)
      ∙ put_at-next (bits_of s) (8 * q + off) xs (bits_n off v) ((q + 8) * 8 + 0) (omega (arith, lx)) (rw length-bits_of (omega arith))
      ∙ ap (put_at (bits_of s) (8 * q + off)) (sym (bits_n-split (64 - off) off v) ∙ ap (λ (n : ℕ). bits_n n v) k')
