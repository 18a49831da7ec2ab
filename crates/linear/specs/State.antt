-- THE INVARIANT OF THE MODULE, on rows, values and literals (where they lie in words is said in tableau).
-- Rows of a sheet go by their place: row q has the number q + 1. A place that no row has reads as the row 0 ≡ 0.
--   Earlier, Summed         a choice of kept rows before row q; one whose coefficients sum to those of row q
--   KeptPlaces, Fails       which rows are kept, by their places; a row that contradicts
--   one_if, tally           1 for a flag; how many of the first places have one
--   Built                   a tableau that says what the first q rows of the sheet say, with the provenance of its rows
--   Taken                   the taken literals: of distinct variables, none basic
--   Made                    the state between calls
--   Started, Finished       values before settling: of the variables that are not basic, the taken ones have theirs; what settling then does
--   with_at, with_bool      a function changed at one place
-- Assumes nothing.
use Rattle.std.specs.Prelude.{◌≡◌, ◌≢◌, Bool, true, false, cond, ℕ, zero, suc, ◌+◌, ◌<◌}
use Rattle.gf2.specs.Field.{same}
use Rattle.gf2.specs.Rows.{Var, Row, Holds, SameCoefs}
use Rattle.linear.specs.Systems.{combine, Spanned, Tableau, NonBasic, Settled, Provenance, Literals, Decides}

-- s selects only kept rows before row q
abbrev pub Earlier : (ℕ → Bool) → ℕ → (ℕ → Bool) → Type 0
Earlier kept q s = (j : ℕ) → s j ≡ true → (j < q) × (kept j ≡ true)

-- the coefficients of row q are the sum of those of the kept earlier rows that s selects
abbrev pub Summed : (n m : ℕ) → (ℕ → Row) → (ℕ → Bool) → ℕ → (ℕ → Bool) → Type 0
Summed n m Sheet kept q s = Earlier kept q s × SameCoefs n (combine m s Sheet) (Sheet q)

-- a row is kept exactly if its coefficients are no such sum
pub record KeptPlaces (n m : ℕ) (Sheet : ℕ → Row) (kept : ℕ → Bool) : Type 0 where
  pub left : (q : ℕ) → q < m → kept q ≡ false → (s : ℕ → Bool) × Summed n m Sheet kept q s
  pub chosen : (q : ℕ) → q < m → kept q ≡ true → (s : ℕ → Bool) → Summed n m Sheet kept q s → ⊥

-- row q is a sum of the kept earlier rows that s selects, but for the parity
pub record Fails (n m : ℕ) (Sheet : ℕ → Row) (kept : ℕ → Bool) (q : ℕ) (s : ℕ → Bool) : Type 0 where
  pub sum : Summed n m Sheet kept q s
  pub parity : combine m s Sheet 0 ≢ Sheet q 0

abbrev pub one_if : Bool → ℕ
one_if true = 1
one_if false = 0

abbrev pub tally : ℕ → (ℕ → Bool) → ℕ
tally zero f = 0
tally (suc q) f = tally q f + one_if (f q)

pub record Built (n m : ℕ) (Sheet : ℕ → Row) (kept : ℕ → Bool) (q k : ℕ) (R : ℕ → Row) (β : ℕ → ℕ) (S : ℕ → ℕ → Bool) : Type 0 where
  pub tableau : Tableau n k R β
  pub from : Provenance n k R m Sheet S
  pub only : (r : ℕ) → r < k → Earlier kept q (S r)
  pub cover : (j : ℕ) → j < q → Spanned n k R (Sheet j)
  pub count : k ≡ tally q kept

pub record Taken (n d : ℕ) (x : ℕ → ℕ) (k : ℕ) (β : ℕ → ℕ) : Type 0 where
  pub var : (j : ℕ) → j < d → Var n (x j)
  pub distinct : (i j : ℕ) → i < d → j < d → x i ≡ x j → i ≡ j
  pub apart : (j : ℕ) → j < d → NonBasic k β (x j)

pub record Made (n m : ℕ) (Sheet : ℕ → Row) (kept : ℕ → Bool) (d : ℕ) (x : ℕ → ℕ) (y : ℕ → Bool) (k : ℕ) (R : ℕ → Row) (β : ℕ → ℕ) (S : ℕ → ℕ → Bool) (known truth : ℕ → Bool) : Type 0 where
  pub built : Built n m Sheet kept m k R β S
  pub taken : Taken n d x k β
  pub settled : Settled n k R β (Literals d x y) known truth

pub record Started (n d : ℕ) (x : ℕ → ℕ) (y : ℕ → Bool) (k : ℕ) (β : ℕ → ℕ) (known truth : ℕ → Bool) : Type 0 where
  pub on : (j : ℕ) → j < d → (known (x j) ≡ true) × (truth (x j) ≡ y j)
  pub off : (v : ℕ) → Var n v → NonBasic k β v → known v ≡ true → (j : ℕ) × (j < d) × (x j ≡ v)

-- settling changes basic variables only, and gives one a value exactly if all the others of its row had one
pub record Finished (n k : ℕ) (R : ℕ → Row) (β : ℕ → ℕ) (known truth known' truth' : ℕ → Bool) : Type 0 where
  pub free : (v : ℕ) → Var n v → NonBasic k β v → (known' v ≡ known v) × (truth' v ≡ truth v)
  pub if : (r : ℕ) → r < k → Decides n (R r) (β r) known → known' (β r) ≡ true
  pub only_if : (r : ℕ) → r < k → known' (β r) ≡ true → Decides n (R r) (β r) known
  pub value : (r : ℕ) → r < k → known' (β r) ≡ true → Holds n (R r) truth'

-- f, but a at d
unfoldable pub with_at : (ℕ → ℕ) → ℕ → ℕ → ℕ → ℕ
with_at f d a j = cond (same j d) a (f j)

unfoldable pub with_bool : (ℕ → Bool) → ℕ → Bool → ℕ → Bool
with_bool f d a j = cond (same j d) a (f j)
