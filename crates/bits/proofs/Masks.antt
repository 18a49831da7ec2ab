-- WHAT SHIFTS AND MASKS OF A MACHINE WORD COMPUTE.
--   mask, one_le_shl      `n & ((1 << t) - 1)` is n % 2 ^ t, and its subtraction does not wrap
--   joined                `(v << t) | p` is v * 2 ^ t + p
--   patch_lt, patch_calc  a byte with some of its bits replaced: it fits, and what it is
--   head_calc             the first bits of a byte, and a word behind them
--   last_calc             the first bits of a word, and one bit behind them
-- Assumes nothing.
use mathlib.Core.Path.{◌≡◌, ap, ap₂, ◌∙◌}
use Prim.Native.Nat.{ℕ, ◌+◌, ◌-◌, ◌*◌, ◌/◌, ◌%◌, ◌^◌, ◌≤◌, ◌<◌}
use native.Mathlib.Nat.{mod-lt, one-mul}
use native.Mathlib.Omega.{arith}
use lib.Arith.{digits_lt}
use lib.Bits.{bit_and, bit_or, or_shifted, and_mask}
use lib.Pow.{pow_pos, pow_mono, pow-add, shl_exact, shr_lt}

-- `n & ((1 << t) - 1)`
pub mask : (n t : ℕ) → t < 64 → bit_and n (1 * 2 ^ t % 2 ^ 64 - 1) ≡ n % 2 ^ t
mask n t h = ap (λ (x : ℕ). bit_and n (x - 1)) (shl_exact 1 t 64 (omega arith) (omega arith) ∙ one-mul (2 ^ t)) ∙ and_mask n t

-- `(1 << t) - 1` does not wrap
pub one_le_shl : (t : ℕ) → t < 64 → 1 ≤ 1 * 2 ^ t % 2 ^ 64
one_le_shl t h = rw (shl_exact {a = 1} 1 t 64 (omega arith) (omega arith)) (omega (arith, pow_pos t))

-- `(v << t) | p`
pub joined : (v k t : ℕ) {p : ℕ} → v < 2 ^ k → k + t ≤ 64 → p < 2 ^ t → bit_or (v * 2 ^ t % 2 ^ 64) p ≡ v * 2 ^ t + p
joined v k t {p} hv hk hp = ap (λ (x : ℕ). bit_or x p) (shl_exact k t 64 hv hk) ∙ or_shifted v t p hp

module _ (w p off t : ℕ) (hw : w < 2 ^ 8) (h : off + t ≤ 8) (hp : p < 2 ^ t) where
  hi_lt : w / 2 ^ (8 - off) < 2 ^ off
  hi_lt =
      let e : off + (8 - off) ≡ 8 = omega arith in
      shr_lt off (8 - off) (rw e hw)

  top_lt : w / 2 ^ (8 - off) * 2 ^ t + p < 2 ^ (off + t)
  top_lt = rw (pow-add 2 off t) (digits_lt hi_lt hp)

  pub patch_lt : (w / 2 ^ (8 - off) * 2 ^ t + p) * 2 ^ (8 - off - t) + w % 2 ^ (8 - off - t) < 2 ^ 8
  patch_lt =
      let e : off + t + (8 - off - t) ≡ 8 = omega arith in
      rw (ap (λ (k : ℕ). 2 ^ k) e) at (rw (← pow-add 2 (off + t) (8 - off - t)) at (digits_lt top_lt (mod-lt w (pow_pos (8 - off - t)))))

  pub patch_calc : bit_or (bit_or (w / 2 ^ (8 - off) * 2 ^ t % 2 ^ 64) p * 2 ^ (8 - off - t) % 2 ^ 64) (bit_and w (1 * 2 ^ (8 - off - t) % 2 ^ 64 - 1)) ≡ (w / 2 ^ (8 - off) * 2 ^ t + p) * 2 ^ (8 - off - t) + w % 2 ^ (8 - off - t)
  patch_calc =
      let sh : ℕ = 8 - off - t in
      ap₂ (λ (x y : ℕ). bit_or (x * 2 ^ sh % 2 ^ 64) y) (joined (w / 2 ^ (8 - off)) off t hi_lt (omega arith) hp) (mask w sh (omega arith))
      ∙ joined (w / 2 ^ (8 - off) * 2 ^ t + p) (off + t) sh top_lt (omega arith) (mod-lt w (pow_pos sh))

module _ (y off v : ℕ) (hy : y < 2 ^ 8) (h : off < 8) (hv : v < 2 ^ 64) where
  head_top : y / 2 ^ (8 - off) < 2 ^ off
  head_top = let e : off + (8 - off) ≡ 8 = omega arith in shr_lt off (8 - off) (rw e hy)

  head_low : v / 2 ^ off < 2 ^ (64 - off)
  head_low = let e : 64 - off + off ≡ 64 = omega arith in shr_lt (64 - off) off (rw e hv)

  pub head_calc : bit_or (y / 2 ^ (8 - off) * 2 ^ (64 - off) % 2 ^ 64) (v / 2 ^ off) ≡ y / 2 ^ (8 - off) * 2 ^ (64 - off) + v / 2 ^ off
  head_calc = ap (λ (n : ℕ). bit_or n (v / 2 ^ off)) (shl_exact off (64 - off) 64 head_top (omega arith)) ∙ or_shifted (y / 2 ^ (8 - off)) (64 - off) (v / 2 ^ off) head_low

-- what `last_bits` computes
pub last_calc : (v count p x y : ℕ) → count < 64 → v < 2 ^ 64 → x ≡ v / 2 ^ (64 - count) → y ≡ p % 2 ^ 1 → bit_or (x * 2 ^ 1 % 2 ^ 64) y ≡ v / 2 ^ (64 - count) * 2 ^ 1 + p % 2 ^ 1
last_calc v count p x y h hv ex ey =
    let z : ℕ = v / 2 ^ (64 - count) in
    let e : count + (64 - count) ≡ 64 = omega arith in
    let l : count ≤ 63 = omega arith in
    let m : 2 ^ count ≤ 2 ^ 63 = pow_mono l in
    let hz' : z < 2 ^ count = shr_lt count (64 - count) (rw e hv) in
    let hz : z < 2 ^ 63 = omega arith in
    ap₂ (λ (a b : ℕ). bit_or (a * 2 ^ 1 % 2 ^ 64) b) ex ey ∙ joined z 63 1 hz (omega arith) (mod-lt p (pow_pos 1))
