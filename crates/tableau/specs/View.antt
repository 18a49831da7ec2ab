-- THE STATE THAT A WORKING BUFFER HOLDS: rows, values and literals, and that they were made for a sheet and taken literals.
--   RowsRead n k ws R β S     the first k rows read as R, with the basic variables β and the provenance S; past variable n there is nothing
--   vals ws off               the bits of eight words as values of variables
--   ValuesRead                the values: which variables have one, and which; none is true without one
--   LitsRead d ws x y         the first d entries of the record: variable x j has the value y j
--   Homes k ws                each row below k is the home of its basic variable
--   MadeAt                    the buffer holds a state of the module (linear's Made)
--   BuiltAt                   the buffer holds k rows that say what the first q rows of the sheet say (linear's Built)
-- Assumes nothing.
use Rattle.std.specs.Prelude.{◌≡◌, List, Bool, true, false, ℕ, zero, suc, ◌<◌, ◌≤◌, length}
use Rattle.gf2.specs.Rows.{Row}
use Rattle.gf2.specs.Answers.{variable, value}
use Rattle.linear.specs.State.{Built, Made}
use Rattle.words.specs.Words.{bit_at}
use Rattle.tableau.specs.Layout.{max_vars, max_rows, row_at, from_at, known_at, truth_at, size}
use Rattle.tableau.specs.Buffer.{basic_at, parity_at, entry_at, home_at}

pub record RowsRead (n k : ℕ) (ws : List ℕ) (R : ℕ → Row) (β : ℕ → ℕ) (S : ℕ → ℕ → Bool) : Type 0 where
  pub coefs : (r : ℕ) → r < k → (i : ℕ) → i < max_vars → bit_at ws (row_at r) i ≡ R r (suc i)
  pub parity : (r : ℕ) → r < k → parity_at ws r ≡ R r 0
  pub basic : (r : ℕ) → r < k → basic_at ws r ≡ β r
  pub from : (r : ℕ) → r < k → (j : ℕ) → j < max_rows → bit_at ws (from_at r) j ≡ S r j
  pub clean : (r : ℕ) → r < k → (v : ℕ) → n < v → R r v ≡ false

abbrev pub vals : List ℕ → ℕ → ℕ → Bool
vals ws off zero = false
vals ws off (suc i) = bit_at ws off i

pub record ValuesRead (ws : List ℕ) (known truth : ℕ → Bool) : Type 0 where
  pub knows : (i : ℕ) → i < max_vars → bit_at ws known_at i ≡ known (suc i)
  pub trues : (i : ℕ) → i < max_vars → bit_at ws truth_at i ≡ truth (suc i)
  pub within : (i : ℕ) → i < max_vars → truth (suc i) ≡ true → known (suc i) ≡ true

pub record LitsRead (d : ℕ) (ws : List ℕ) (x : ℕ → ℕ) (y : ℕ → Bool) : Type 0 where
  pub var : (j : ℕ) → j < d → variable (entry_at ws j) ≡ x j
  pub val : (j : ℕ) → j < d → value (entry_at ws j) ≡ y j

abbrev pub Homes : ℕ → List ℕ → Type 0
Homes k ws = (r : ℕ) → r < k → home_at ws (basic_at ws r) ≡ r

pub record MadeAt (ws : List ℕ) (n m : ℕ) (Sheet : ℕ → Row) (kept : ℕ → Bool) (d : ℕ) (x : ℕ → ℕ) (y : ℕ → Bool) (k : ℕ) : Type 0 where
  pub R : ℕ → Row
  pub β : ℕ → ℕ
  pub S : ℕ → ℕ → Bool
  pub known : ℕ → Bool
  pub truth : ℕ → Bool
  pub vars : n ≤ max_vars
  pub few : k ≤ max_rows
  pub room : size ≤ length ws
  pub rows : RowsRead n k ws R β S
  pub values : ValuesRead ws known truth
  pub lits : LitsRead d ws x y
  pub homes : Homes k ws
  pub made : Made n m Sheet kept d x y k R β S known truth

pub record BuiltAt (ws : List ℕ) (n m : ℕ) (Sheet : ℕ → Row) (kept : ℕ → Bool) (q k : ℕ) : Type 0 where
  pub R : ℕ → Row
  pub β : ℕ → ℕ
  pub S : ℕ → ℕ → Bool
  pub rows : RowsRead n k ws R β S
  pub homes : Homes k ws
  pub built : Built n m Sheet kept q k R β S
