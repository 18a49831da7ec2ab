-- PARITY ROWS over the variables 1 .. n, and which of them an opening keeps (document 01, "What the module is" and "Opening").
--   Var n v             v is one of the variables 1 .. n
--   Row, Assignment     a constraint x1 ⊕ .. ⊕ xk ≡ p; a value for each variable
--   row_sum, Holds       the sum of a row's variables under an assignment; the row is satisfied
--   Numbered, Rows      a row with its number; a system, in the order of its numbers, which may have gaps
--   total ps            the sum of rows
--   SameCoefs, SameRow  two rows have the same coefficients; and the same parity
--   SumOf n ks c ps     the coefficients of c are the sum of those of ps, some of the rows ks
--   Takes, Outcome      what taking the rows in order comes to
--   Kept n rows ks      ks are the kept rows of a system in which no row fails
-- Assumes nothing.
use Rattle.std.specs.Prelude.{◌≡◌, ◌≢◌, Bool, false, ◌&&◌, List, [], ◌∷◌, ◌++◌, map, ℕ, suc, ◌<◌, ◌≤◌}
use Rattle.gf2.specs.Field.{◌⊕◌, xsum}
use Rattle.gf2.specs.Lists.{Part}

pub record Var (n v : ℕ) : Type 0 where
  pub low : 0 < v
  pub high : v ≤ n

-- Column 0 is the parity p, column v the coefficient of variable v. Columns above n are not read.
abbrev pub Row : Type 0
Row = ℕ → Bool

-- Column 0, and columns above n, are not read.
abbrev pub Assignment : Type 0
Assignment = ℕ → Bool

unfoldable pub row_sum : ℕ → Row → Assignment → Bool
row_sum n c a = xsum n (λ i. c (suc i) && a (suc i))

abbrev pub Holds : ℕ → Row → Assignment → Type 0
Holds n c a = row_sum n c a ≡ c 0

pub record Numbered : Type 0 where
  pub number : ℕ
  pub row : Row

abbrev pub Rows : Type 0
Rows = List Numbered

-- the empty sum is 0 ≡ 0
unfoldable pub total : Rows → Row
total [] v = false
total (c ∷ cs) v = c.row v ⊕ total cs v

-- two rows with the same coefficients; with the same parity too
abbrev pub SameCoefs : ℕ → Row → Row → Type 0
SameCoefs n c d = (v : ℕ) → Var n v → c v ≡ d v

abbrev pub SameRow : ℕ → Row → Row → Type 0
SameRow n c d = (v : ℕ) → v ≤ n → c v ≡ d v

pub record SumOf (n : ℕ) (ks : Rows) (c : Row) (ps : Rows) : Type 0 where
  pub part : Part ps ks
  pub coefs : SameCoefs n (total ps) c

-- What taking the rows in order comes to: the kept rows; or the rows kept before the one that fails, and the numbers that are listed.
pub data Outcome : Type 0 where
  passed : Rows → Outcome
  failed : Rows → List ℕ → Outcome

-- `Takes n ks rs out`: with the rows ks kept so far, taking the rows rs in order comes to out.
--   keep: a row is kept when its coefficients are not the sum of those of some kept earlier rows;
--   leave: they are such a sum, and so is its parity;
--   fail: they are such a sum, and its parity differs; that row and the rows of the sum are listed, in order.
pub data Takes (n : ℕ) : Rows → Rows → Outcome → Type 0 where
  end : {ks : Rows} → Takes n ks [] (passed ks)
  keep : {ks rs : Rows} {c : Numbered} {out : Outcome} → ((ps : Rows) → SumOf n ks c.row ps → ⊥) → Takes n (ks ++ (c ∷ [])) rs out → Takes n ks (c ∷ rs) out
  leave : {ks rs ps : Rows} {c : Numbered} {out : Outcome} → SumOf n ks c.row ps → total ps 0 ≡ c.row 0 → Takes n ks rs out → Takes n ks (c ∷ rs) out
  fail : {ks rs ps : Rows} {c : Numbered} → SumOf n ks c.row ps → total ps 0 ≢ c.row 0 → Takes n ks (c ∷ rs) (failed ks (map (λ r. r.number) (ps ++ (c ∷ []))))

abbrev pub Kept : ℕ → Rows → Rows → Type 0
Kept n rows ks = Takes n [] rows (passed ks)
