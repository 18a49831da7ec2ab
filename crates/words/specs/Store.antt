-- THE ROW STORE READ AS CONSTRAINTS (document 01, "The row sheet"): nine words a row, eight of coefficients and then the parity.
--   StoreRead n m store Sheet   the first m rows of the store are the constraints Sheet 0, Sheet 1, .., over the variables 1 .. n
--     coefs    bit i of the eight coefficient words of row q is the coefficient of variable i + 1
--     parity   the ninth word's lowest digit is the parity
--     clean    no variable above n has a coefficient
-- Assumes nothing.
use Rattle.std.specs.Prelude.{◌≡◌, List, false, ℕ, suc, ◌+◌, ◌*◌, ◌%◌, ◌<◌, get_or}
use Rattle.gf2.specs.Rows.{Row}
use Rattle.words.specs.Words.{digit, bit_at}

pub record StoreRead (n m : ℕ) (store : List ℕ) (Sheet : ℕ → Row) : Type 0 where
  pub coefs : (q : ℕ) → q < m → (i : ℕ) → i < 512 → bit_at store (9 * q) i ≡ Sheet q (suc i)
  pub parity : (q : ℕ) → q < m → digit (get_or store (9 * q + 8) 0 % 2) ≡ Sheet q 0
  pub clean : (q : ℕ) → q < m → (v : ℕ) → n < v → Sheet q v ≡ false
