-- WHICH OF SOME ROWS HAVE A VARIABLE, as the digits of one word.
--   gathered_two                    two rows, as the code reads them
--   gathered_join, gathered_drop    n rows more; the digits of the rows from e on dropped
--   gathered_small, column_done     a word of n digits at most; the digits moved up to the top
-- Assumes nothing.
use mathlib.Core.Path.{◌≡◌, sym, ap, ap₂, ◌∙◌}
use mathlib.Core.List.{List}
use Prim.Native.Nat.{ℕ, suc, ◌+◌, ◌*◌, ◌-◌, ◌/◌, ◌%◌, ◌^◌, ◌<◌, ◌≤◌}
use native.Mathlib.Nat.{div-one, zero-lt-suc, mod-lt, mul_comm, mul-le-mul, le_refl, lt_of_lt_of_le}
use native.Mathlib.Decide.{dec_lt}
use native.Mathlib.Omega.{arith}
use lib.ListN.{get_or}
use lib.Pow.{pow_mono, pow-add, shl_exact, shr_lt, shr-shr, high, low}
use Rattle.words.specs.Words.{digit, bit_of, bit_at}
use Rattle.words.proofs.Tops.{high_digit, low_digit, digit_below}
use Rattle.tableau.specs.Layout.{row_at}
use Rattle.tableau.specs.Buffer.{Gathered, Column}

gathered_one : (ws : List ℕ) (r p a d : ℕ) → a ≡ row_at r + p / 64 → d ≡ 63 - p % 64 → Gathered ws r (r + 1) p (get_or ws a 0 / 2 ^ d % 2)
unfolding bit_at
gathered_one ws r p a d e g =
    record {
      low = let n : r + 1 - r ≡ 1 = omega arith in rw n (mod-lt word (zero-lt-suc 1));
      digits = λ i l.
          let n : r + 1 - suc (r + i) ≡ 0 = omega arith in
          let f : a ≡ row_at (r + i) + p / 64 = omega arith in
          let m : word % 2 % 2 ≡ word % 2 = omega arith in
          ap (bit_of (word % 2)) n ∙ ap (λ (y : ℕ). digit (y % 2)) (div-one (word % 2)) ∙ ap digit m ∙ ap₂ (λ (y z : ℕ). bit_of (get_or ws y 0) z) f g;
    }
  where
    word : ℕ
    word = get_or ws a 0 / 2 ^ d

pub gathered_small : (ws : List ℕ) (q r p x n : ℕ) → r - q ≤ n → Gathered ws q r p x → x < 2 ^ n
gathered_small ws q r p x n l g = lt_of_lt_of_le g.low (pow_mono l)

-- the digits of x above the n digits of y
module _ (n x y : ℕ) (l : y < 2 ^ n) where
  commuted : 2 ^ n * x + y ≡ x * 2 ^ n + y
  commuted = ap (λ (z : ℕ). z + y) (mul_comm (2 ^ n) x)

  upper : (j : ℕ) → bit_of (2 ^ n * x + y) (n + j) ≡ bit_of x j
  upper j = ap (λ (z : ℕ). digit (z % 2)) (ap (λ (z : ℕ). z / 2 ^ (n + j)) commuted ∙ sym (shr-shr (x * 2 ^ n + y) n j) ∙ ap (λ (z : ℕ). z / 2 ^ j) (high x n l))

  lower : (j : ℕ) → j < n → bit_of (2 ^ n * x + y) j ≡ bit_of y j
  lower j h = ap (λ (z : ℕ). bit_of z j) commuted ∙ sym (digit_below (x * 2 ^ n + y) n j h) ∙ ap (λ (z : ℕ). bit_of z j) (low x n l)

  joined_lt : (m : ℕ) → x < 2 ^ m → 2 ^ n * x + y < 2 ^ (m + n)
  joined_lt m h = rw (pow-add 2 m n) (room (2 ^ n) (2 ^ m) l (mul-le-mul h (le_refl (2 ^ n))))
    where
      room : (a b : ℕ) → y < a → suc x * a ≤ b * a → a * x + y < b * a
      room a b f g = omega (arith, f, g)

pub gathered_join : (ws : List ℕ) (q r s n p x y : ℕ) → q ≤ r → s ≡ r + n → Gathered ws q r p x → Gathered ws r (r + n) p y → Gathered ws q s p (2 ^ n * x + y)
gathered_join ws q r s n p x y l e g h =
    record {
      low = let m : s - q ≡ r - q + n = omega arith in rw m (joined_lt n x y less (r - q) g.low);
      digits = λ i a. digits i a (dec_lt (q + i) r);
    }
  where
    less : y < 2 ^ n
    less = gathered_small ws r (r + n) p y n (omega arith) h

    digits : (i : ℕ) → q + i < s → Dec (q + i < r) → bit_of (2 ^ n * x + y) (s - suc (q + i)) ≡ bit_at ws (row_at (q + i)) p
    digits i a (yes b) =
        let m : s - suc (q + i) ≡ n + (r - suc (q + i)) = omega arith in
        ap (bit_of (2 ^ n * x + y)) m ∙ upper n x y less (r - suc (q + i)) ∙ g.digits i b
    digits i a (no b) =
        let m : r + (q + i - r) ≡ q + i = omega arith in
        lower n x y less (s - suc (q + i)) (omega arith) ∙ rw (← e, m) at (h.digits (q + i - r) (omega arith))

pub gathered_two : (ws : List ℕ) (r p a b d : ℕ) → a ≡ row_at r + p / 64 → b ≡ row_at (r + 1) + p / 64 → d ≡ 63 - p % 64 → Gathered ws r (r + 2) p (2 * (get_or ws a 0 / 2 ^ d % 2) + get_or ws b 0 / 2 ^ d % 2)
gathered_two ws r p a b d e f g = gathered_join ws r (r + 1) (r + 2) 1 p _ _ (omega arith) (omega arith) (gathered_one ws r p a d e g) (gathered_one ws (r + 1) p b d f g)

pub gathered_drop : (ws : List ℕ) (q e r p x : ℕ) → q ≤ e → e ≤ r → Gathered ws q r p x → Gathered ws q e p (x / 2 ^ (r - e))
gathered_drop ws q e r p x a b g =
    record {
      low = let m : r - q ≡ e - q + (r - e) = omega arith in shr_lt (e - q) (r - e) (rw m at g.low);
      digits = λ i l.
          let m : r - e + (e - suc (q + i)) ≡ r - suc (q + i) = omega arith in
          ap (λ (y : ℕ). digit (y % 2)) (shr-shr x (r - e) (e - suc (q + i)) ∙ ap (λ (d : ℕ). x / 2 ^ d) m) ∙ g.digits i (omega arith);
    }

pub column_done : (ws : List ℕ) (q e p x : ℕ) → q < e → e ≤ q + 64 → Gathered ws q e p x → Column ws q e p (x * 2 ^ (64 - (e - q)) % 2 ^ 64)
column_done ws q e p x lo hi g =
    record {
      has = λ i a b.
          let s : 63 - i ≡ 64 - (e - q) + (e - suc (q + i)) = omega arith in
          ap₂ bit_of whole s ∙ high_digit x (64 - (e - q)) (e - suc (q + i)) ∙ g.digits i b;
      none = λ i a b.
          let s : 64 - (e - q) ≡ suc (q + i - e) + (63 - i) = omega arith in
          ap (λ (y : ℕ). bit_of y (63 - i)) (whole ∙ ap (λ (d : ℕ). x * 2 ^ d) s) ∙ low_digit x (q + i - e) (63 - i);
    }
  where
    whole : x * 2 ^ (64 - (e - q)) % 2 ^ 64 ≡ x * 2 ^ (64 - (e - q))
    whole = shl_exact (e - q) (64 - (e - q)) 64 g.low (omega arith)
