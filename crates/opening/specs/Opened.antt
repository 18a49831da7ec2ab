-- WHAT OPENING DOES TO THE BUFFER (document 01, "Opening"): on every buffer, and what it means for rows that read as a sheet.
--   Loaded q k store ws w        row q of the row store stands as row k, which has no basic variable yet and comes from row q alone
--   Basics k ws                  each row below k has a basic variable, one of 1 .. max_vars
--   Reduced k r ws w             row r has been added into row k, if that has its basic variable
--   LowestAt ws k u              u is the lowest variable of row k; NoneAt: row k has none
--   Spent, Entered               row q stands as row k and no variable is left in it; one was left, row k is its home, and it is now basic there
--   RowDone q k store ws w x     what row q comes to, with k rows kept so far: it is kept, or says nothing new, or contradicts
--   RowOutcome                   the same for rows that say what the first q rows of the sheet say
--   Opens store ws q k w         the first q rows have gone in, and k of them are kept
--   AllIn, Stopped, Answered     the answer: all m rows are in and the values are made; or row q contradicts, and stands reduced as row k
-- Assumes nothing.
use Rattle.std.specs.Prelude.{◌≡◌, List, Result, Ok, Err, ◌⊎◌, Bool, true, false, ℕ, suc, ◌+◌, ◌*◌, ◌-◌, ◌%◌, ◌<◌, ◌≤◌, length, get_or}
use Rattle.gf2.specs.Field.{◌⊕◌, same}
use Rattle.gf2.specs.Rows.{Row}
use Rattle.linear.specs.State.{Fails}
use Rattle.words.specs.Words.{bit_at, own_word}
use Rattle.tableau.specs.Layout.{coef_words, from_words, max_vars, max_rows, row_size, row_at, from_at, last_at}
use Rattle.tableau.specs.Buffer.{basic_at, parity_at, Added, Homed, Chain}
use Rattle.tableau.specs.View.{BuiltAt}
use Rattle.settle.specs.Values.{Restarted}
use Rattle.exchange.specs.Steps.{Exchanged}
use Rattle.opening.specs.declared.Contradiction.{Contradiction}

pub record Loaded (q k : ℕ) (store ws w : List ℕ) : Type 0 where
  pub coefs : (j : ℕ) → j < coef_words → get_or w (row_at k + j) 0 ≡ get_or store (9 * q + j) 0
  pub from : (j : ℕ) → j < from_words → get_or w (from_at k + j) 0 ≡ own_word q j
  pub last : get_or w (last_at k) 0 ≡ get_or store (9 * q + 8) 0 % 2
  pub rest : (i : ℕ) → (i < row_at k) ⊎ (row_at k + row_size ≤ i) → get_or w i 0 ≡ get_or ws i 0

abbrev pub Basics : ℕ → List ℕ → Type 0
Basics k ws = (r : ℕ) → r < k → (0 < basic_at ws r) × (basic_at ws r ≤ max_vars)

abbrev pub Reduced : ℕ → ℕ → List ℕ → List ℕ → Type 0
Reduced k r ws w =
    ((w ≡ ws) × (bit_at ws (row_at k) (basic_at ws r - 1) ≡ false))
    ⊎ ((bit_at ws (row_at k) (basic_at ws r - 1) ≡ true) × Added r k ws w)

pub record LowestAt (ws : List ℕ) (k u : ℕ) : Type 0 where
  pub first : 0 < u
  pub last : u ≤ max_vars
  pub has : bit_at ws (row_at k) (u - 1) ≡ true
  pub under : (i : ℕ) → suc i < u → bit_at ws (row_at k) i ≡ false

abbrev pub NoneAt : List ℕ → ℕ → Type 0
NoneAt ws k = (i : ℕ) → i < max_vars → bit_at ws (row_at k) i ≡ false

pub record Spent (q k : ℕ) (store ws w : List ℕ) : Type 0 where
  pub begun : List ℕ
  pub loaded : Loaded q k store ws begun
  pub reduced : Chain (Reduced k) k begun w
  pub empty : NoneAt w k

pub record Entered (q k : ℕ) (store ws w : List ℕ) : Type 0 where
  pub begun : List ℕ
  pub left : List ℕ
  pub u : ℕ
  pub loaded : Loaded q k store ws begun
  pub reduced : Chain (Reduced k) k begun left
  pub lowest : LowestAt left k u
  pub long : length left ≡ length ws
  pub housed : List ℕ
  pub home : Homed u k left housed
  pub moved : Exchanged (k + 1) k u housed w

abbrev pub RowDone : (q k : ℕ) → List ℕ → List ℕ → List ℕ → Result Bool Contradiction → Type 0
RowDone q k store ws w (Ok true) = Entered q k store ws w
RowDone q k store ws w (Ok false) = Spent q k store ws w × (parity_at w k ≡ false)
RowDone q k store ws w (Err x) = Spent q k store ws w × (parity_at w k ≡ true) × (x.row ≡ k)

abbrev pub RowOutcome : (n m : ℕ) → (ℕ → Row) → (ℕ → Bool) → (q k : ℕ) → List ℕ → Result Bool Contradiction → Type 0
RowOutcome n m Sheet kept q k w (Ok true) = BuiltAt w n m Sheet kept (suc q) (suc k)
RowOutcome n m Sheet kept q k w (Ok false) = BuiltAt w n m Sheet kept (suc q) k
RowOutcome n m Sheet kept q k w (Err x) = (s : ℕ → Bool) × Fails n m Sheet kept q s × ((j : ℕ) → j < max_rows → bit_at w (from_at k) j ≡ same q j ⊕ s j)

pub data Opens (store ws : List ℕ) : ℕ → ℕ → List ℕ → Type 0 where
  start : Opens store ws 0 0 ws
  pass : (q k : ℕ) (v w : List ℕ) → Opens store ws q k v → length v ≡ length ws → RowDone q k store v w (Ok false) → Opens store ws (suc q) k w
  grow : (q k : ℕ) (v w : List ℕ) → Opens store ws q k v → length v ≡ length ws → RowDone q k store v w (Ok true) → Opens store ws (suc q) (suc k) w

pub record AllIn (m : ℕ) (store ws : List ℕ) (k : ℕ) (w : List ℕ) : Type 0 where
  pub middle : List ℕ
  pub rows : Opens store ws m k middle
  pub few : k ≤ m
  pub long : length middle ≡ length ws
  pub settled : Restarted k 0 middle w

pub record Stopped (m : ℕ) (store ws : List ℕ) (k : ℕ) (w : List ℕ) : Type 0 where
  pub q : ℕ
  pub middle : List ℕ
  pub low : q < m
  pub rows : Opens store ws q k middle
  pub few : k ≤ q
  pub long : length middle ≡ length ws
  pub last : RowDone q k store middle w (Err (record { row = k }))

abbrev pub Answered : ℕ → List ℕ → List ℕ → Result ℕ Contradiction → List ℕ → Type 0
Answered m store ws (Ok k) w = AllIn m store ws k w
Answered m store ws (Err x) w = Stopped m store ws x.row w
