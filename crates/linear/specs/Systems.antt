-- SYSTEMS OF ROWS BY PLACE, AND TABLEAUX: what the engine's proofs speak of. (What an answer means is said in gf2; this is how it is reached.)
--   Sat n k R a          the rows R 0 .. R (k - 1) hold under a
--   Assumptions          `A v b`: variable v is assumed to have the value b; Agrees, Implied, Conflict; And, Literals: one more, and m of them
--   combine k s R        the sum of the rows below k that s selects; Spanned: a row is such a sum
--   Tableau n k R β      row r has the basic variable β r, which stands in no other row; NonBasic
--   Decides n c u known  all variables of the row c but u have a value
--   Settled              values for some variables, as a tableau under assumptions has them
--   pivot, repoint       row p is added to each other row that has column u; u is then basic in row p
--   reduce, extend       a row with each basic variable removed by its row; one row more
--   Provenance           row r is the sum of the rows of the sheet that S r selects
-- Assumes nothing.
use Rattle.std.specs.Prelude.{◌≡◌, ◌≢◌, ◌⊎◌, Bool, true, false, ◌&&◌, not, cond, ℕ, ◌<◌}
use Rattle.gf2.specs.Field.{◌⊕◌, xsum, same}
use Rattle.gf2.specs.Rows.{Var, Row, Assignment, Holds, SameRow}

abbrev pub Sat : (n k : ℕ) → (ℕ → Row) → Assignment → Type 0
Sat n k R a = (r : ℕ) → r < k → Holds n (R r) a

abbrev pub Assumptions : Type 1
Assumptions = ℕ → Bool → Type 0

abbrev pub Agrees : Assumptions → Assignment → Type 0
Agrees A a = (v : ℕ) (b : Bool) → A v b → a v ≡ b

abbrev pub Implied : (n k : ℕ) → (ℕ → Row) → Assumptions → ℕ → Bool → Type 0
Implied n k R A v b = (a : Assignment) → Sat n k R a → Agrees A a → a v ≡ b

abbrev pub Conflict : (n k : ℕ) → (ℕ → Row) → Assumptions → Type 0
Conflict n k R A = (a : Assignment) → Sat n k R a → Agrees A a → ⊥

abbrev pub And : Assumptions → ℕ → Bool → Assumptions
And A v b w c = A w c ⊎ ((w ≡ v) × (c ≡ b))

-- the m literals `variable x j has the value y j`
abbrev pub Literals : ℕ → (ℕ → ℕ) → (ℕ → Bool) → Assumptions
Literals m x y v b = (j : ℕ) × (j < m) × (x j ≡ v) × (y j ≡ b)

unfoldable pub combine : ℕ → (ℕ → Bool) → (ℕ → Row) → Row
combine k s R v = xsum k (λ r. s r && R r v)

abbrev pub Spanned : (n k : ℕ) → (ℕ → Row) → Row → Type 0
Spanned n k R c = (s : ℕ → Bool) × SameRow n (combine k s R) c

pub record Tableau (n k : ℕ) (R : ℕ → Row) (β : ℕ → ℕ) : Type 0 where
  pub var : (r : ℕ) → r < k → Var n (β r)
  pub own : (r : ℕ) → r < k → R r (β r) ≡ true
  pub alone : (r q : ℕ) → r < k → q < k → r ≢ q → R q (β r) ≡ false

abbrev pub NonBasic : ℕ → (ℕ → ℕ) → ℕ → Type 0
NonBasic k β v = (r : ℕ) → r < k → β r ≢ v

-- all variables of the row c but u have a value, so the row decides u
abbrev pub Decides : (n : ℕ) → Row → ℕ → (ℕ → Bool) → Type 0
Decides n c u known = (v : ℕ) → Var n v → c v ≡ true → v ≢ u → known v ≡ true

-- `known v` says whether v has a value, and `truth v` which
pub record Settled (n k : ℕ) (R : ℕ → Row) (β : ℕ → ℕ) (A : Assumptions) (known truth : ℕ → Bool) : Type 0 where
  -- what is assumed has the value assumed
  pub assumed : (v : ℕ) (b : Bool) → A v b → (known v ≡ true) × (truth v ≡ b)
  -- a variable that is not basic has a value only if it is assumed
  pub free : (v : ℕ) → Var n v → NonBasic k β v → known v ≡ true → A v (truth v)
  -- a basic variable has a value if all the other variables of its row have one, and only then
  pub basic_if : (r : ℕ) → r < k → Decides n (R r) (β r) known → known (β r) ≡ true
  pub basic_only_if : (r : ℕ) → r < k → known (β r) ≡ true → Decides n (R r) (β r) known
  -- and then it is the value that makes the row hold
  pub basic_value : (r : ℕ) → r < k → known (β r) ≡ true → Holds n (R r) truth

unfoldable pub pivot : (ℕ → Row) → ℕ → ℕ → ℕ → Row
pivot R p u r v = R r v ⊕ (not (same r p) && R r u && R p v)

unfoldable pub repoint : (ℕ → ℕ) → ℕ → ℕ → ℕ → ℕ
repoint β p u r = cond (same r p) u (β r)

unfoldable pub reduce : ℕ → (ℕ → Row) → (ℕ → ℕ) → Row → Row
reduce k R β c v = c v ⊕ combine k (λ r. c (β r)) R v

-- the rows R, with c as row k
unfoldable pub extend : (ℕ → Row) → ℕ → Row → ℕ → Row
extend R k c r v = cond (same r k) (c v) (R r v)

abbrev pub Provenance : (n k : ℕ) → (ℕ → Row) → ℕ → (ℕ → Row) → (ℕ → ℕ → Bool) → Type 0
Provenance n k R m Sheet S = (r : ℕ) → r < k → SameRow n (R r) (combine m (S r) Sheet)
