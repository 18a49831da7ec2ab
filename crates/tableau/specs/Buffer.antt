-- WHAT THE LEAF OPERATIONS READ AND WRITE, on every buffer.
--   Run off k want ws w     the k words from off are the wanted ones; the others of ws are as they were
--   Slice k ws at r         the first k words of r are those of ws from place at
--   basic_at, parity_at       the basic variable and the parity of a row
--   entry_at                 an entry of the record; Recorded: one has been set
--   home_at ws v             the home of variable v, v above 0: on a state of the module its row, if it is basic (View, Homes), and of no meaning else; Homed: one has been set
--   Added f t ws w          row f has been added into row t, which keeps its basic variable
--   Gathered ws q e p x     which rows from q to below e have variable p + 1: a digit of x each, the lowest for the last row
--   Column ws q e p x       which rows from q to below e have variable p + 1: a digit of x each, the top one for row q
--   Chain Step k ws w       the steps 0 .. k - 1 one after another; Span Step a j ws w: the j steps from a on
-- Assumes nothing.
use Rattle.std.specs.Prelude.{◌≡◌, List, ◌≢◌, ◌⊎◌, Bool, false, ℕ, zero, suc, ◌+◌, ◌*◌, ◌-◌, ◌/◌, ◌%◌, ◌^◌, ◌<◌, ◌≤◌, length, get_or}
use Rattle.std.specs.Int.Bits.{bit_xor}
use Rattle.words.specs.Words.{digit, bit_of, bit_at}
use Rattle.tableau.specs.Layout.{coef_words, from_words, row_size, row_at, last_at, record_at, home_step}

pub record Run (off k : ℕ) (want : ℕ → ℕ) (ws w : List ℕ) : Type 0 where
  pub len : length w ≡ length ws
  pub done : (i : ℕ) → i < k → get_or w (off + i) 0 ≡ want i
  pub rest : (i : ℕ) → (i < off) ⊎ (off + k ≤ i) → get_or w i 0 ≡ get_or ws i 0

pub record Slice (k : ℕ) (ws : List ℕ) (at : ℕ) (r : List ℕ) : Type 0 where
  pub word : (j : ℕ) → j < k → get_or r j 0 ≡ get_or ws (at + j) 0

abbrev pub basic_at : List ℕ → ℕ → ℕ
basic_at ws r = get_or ws (last_at r) 0 / 2

abbrev pub parity_at : List ℕ → ℕ → Bool
parity_at ws r = digit (get_or ws (last_at r) 0 % 2)

unfoldable pub entry_at : List ℕ → ℕ → ℕ
entry_at ws j = get_or ws (record_at + j) 0 % home_step

unfoldable pub home_at : List ℕ → ℕ → ℕ
home_at ws v = get_or ws (record_at + (v - 1)) 0 / home_step

pub record Recorded (j code : ℕ) (ws w : List ℕ) : Type 0 where
  pub len : length w ≡ length ws
  pub here : entry_at w j ≡ code
  pub others : (i : ℕ) → i ≢ j → entry_at w i ≡ entry_at ws i
  pub homes : (v : ℕ) → home_at w v ≡ home_at ws v
  pub rest : (i : ℕ) → i < record_at → get_or w i 0 ≡ get_or ws i 0

pub record Homed (v r : ℕ) (ws w : List ℕ) : Type 0 where
  pub len : length w ≡ length ws
  pub here : home_at w v ≡ r
  pub others : (u : ℕ) → 0 < u → u ≢ v → home_at w u ≡ home_at ws u
  pub entries : (j : ℕ) → entry_at w j ≡ entry_at ws j
  pub rest : (i : ℕ) → i < record_at → get_or w i 0 ≡ get_or ws i 0

pub record Added (f t : ℕ) (ws w : List ℕ) : Type 0 where
  pub len : length w ≡ length ws
  pub bits : (j : ℕ) → j < coef_words + from_words → get_or w (row_at t + j) 0 ≡ bit_xor (get_or ws (row_at t + j) 0) (get_or ws (row_at f + j) 0)
  pub last : get_or w (last_at t) 0 ≡ get_or ws (last_at t) 0 / 2 * 2 + (get_or ws (last_at t) 0 % 2 + get_or ws (last_at f) 0 % 2) % 2
  pub rest : (i : ℕ) → (i < row_at t) ⊎ (row_at t + row_size ≤ i) → get_or w i 0 ≡ get_or ws i 0

pub record Gathered (ws : List ℕ) (q e p x : ℕ) : Type 0 where
  pub low : x < 2 ^ (e - q)
  pub digits : (i : ℕ) → q + i < e → bit_of x (e - suc (q + i)) ≡ bit_at ws (row_at (q + i)) p

pub record Column (ws : List ℕ) (q e p x : ℕ) : Type 0 where
  pub has : (i : ℕ) → i < 64 → q + i < e → bit_of x (63 - i) ≡ bit_at ws (row_at (q + i)) p
  pub none : (i : ℕ) → i < 64 → e ≤ q + i → bit_of x (63 - i) ≡ false

abbrev pub Chain : (ℕ → List ℕ → List ℕ → Type 0) → ℕ → List ℕ → List ℕ → Type 0
Chain Step zero ws w = w ≡ ws
Chain Step (suc k) ws w = (v : List ℕ) × (length v ≡ length ws) × Chain Step k ws v × Step k v w

abbrev pub Span : (ℕ → List ℕ → List ℕ → Type 0) → ℕ → ℕ → List ℕ → List ℕ → Type 0
Span Step a zero ws w = w ≡ ws
Span Step a (suc j) ws w = (v : List ℕ) × (length v ≡ length ws) × Span Step a j ws v × Step (a + j) v w
