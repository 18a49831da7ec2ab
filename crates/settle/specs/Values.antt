-- HOW VARIABLES GET VALUES, on every buffer: from the record, and from rows all of whose other variables have one.
--   lacks ws r i          row r has variable i + 1, which has no value
--   Overlay k ws r x      each one in the word x stands where one of the first k words of row r has a variable without a value
--   Sole ws r p x         whether variable p + 1 is the one variable of row r without a value
--   Put p b ws w          variable p + 1 has been given the value b
--   value_at ws r          the value that makes row r hold; Can: the row gives it to its basic variable
--   Ready ws r x          x is that variable, and nothing where the row gives nothing
--   RowSettled r ws w     row r has given its basic variable a value, if it can
--   Entry, EntrySet       an entry of the record that is a literal; its variable has been given its value
--   Restarted k d ws w    the values have been made anew from the first d entries and the first k rows
--   RowFollowed p r ws w  row r has been settled, if it has variable p + 1
--   Followed k p b ws w   variable p + 1 has been given the value b, and the rows below k that have it have been settled
--   Leaves                what a step leaves of a buffer when it is taken for a row
--   RowTaken post p r ws w   it has been taken for row r, if that has variable p + 1
--   StepCallable pre post p k ws   `pre` allows it for each row below k that has variable p + 1, once it was taken for those before
--   StepApart post k      it keeps the rows after the one that it is taken for
-- Assumes nothing.
use denote.Ref.{MutBor}
use Rattle.std.specs.Prelude.{⊤, ◌≡◌, List, Option, None, Some, ◌⊎◌, Bool, true, false, not, ◌&&◌, ◌||◌, ℕ, suc, ◌+◌, ◌*◌, ◌-◌, ◌<◌, ◌≤◌, length, get_or}
use Rattle.gf2.specs.Field.{◌⊕◌, xsum, same}
use Rattle.gf2.specs.Answers.{variable, value}
use Rattle.words.specs.declared.variable.Variable.{Variable}
use Rattle.words.specs.Words.{bit_of, bit_at}
use Rattle.tableau.specs.Layout.{max_vars, coef_words, row_at, known_at, truth_at, record_at}
use Rattle.tableau.specs.Buffer.{Run, basic_at, parity_at, entry_at, Chain}

unfoldable pub lacks : List ℕ → ℕ → ℕ → Bool
lacks ws r i = bit_at ws (row_at r) i && not (bit_at ws known_at i)

abbrev pub Overlay : ℕ → List ℕ → ℕ → ℕ → Type 0
Overlay k ws r x = (t : ℕ) → t < 64 → bit_of x (63 - t) ≡ true → (j : ℕ) × (j < k) × (lacks ws r (j * 64 + t) ≡ true)

pub record Sole (ws : List ℕ) (r p : ℕ) (x : Bool) : Type 0 where
  pub yes : x ≡ true → (i : ℕ) → i < max_vars → lacks ws r i ≡ same p i
  pub no : x ≡ false → ((i : ℕ) → i < max_vars → lacks ws r i ≡ same p i) → ⊥

pub record Put (p : ℕ) (b : Bool) (ws w : List ℕ) : Type 0 where
  pub len : length w ≡ length ws
  pub known : (i : ℕ) → i < max_vars → bit_at w known_at i ≡ (bit_at ws known_at i || same p i)
  pub truth : (i : ℕ) → i < max_vars → bit_at w truth_at i ≡ (bit_at ws truth_at i || (same p i && b))
  pub rest : (i : ℕ) → (i < known_at) ⊎ (record_at ≤ i) → get_or w i 0 ≡ get_or ws i 0

abbrev pub value_at : List ℕ → ℕ → Bool
value_at ws r = parity_at ws r ⊕ xsum max_vars (λ i. bit_at ws (row_at r) i && bit_at ws truth_at i)

pub record Can (ws : List ℕ) (r : ℕ) : Type 0 where
  pub low : 0 < basic_at ws r
  pub high : basic_at ws r ≤ max_vars
  pub alone : (i : ℕ) → i < max_vars → lacks ws r i ≡ same (basic_at ws r - 1) i

abbrev pub Ready : List ℕ → ℕ → Option Variable → Type 0
Ready ws r None = Can ws r → ⊥
Ready ws r (Some v) = Can ws r × (v.number ≡ basic_at ws r)

abbrev pub RowSettled : ℕ → List ℕ → List ℕ → Type 0
RowSettled r ws w = ((w ≡ ws) × (Can ws r → ⊥)) ⊎ (Can ws r × Put (basic_at ws r - 1) (value_at ws r) ws w)

pub record Entry (ws : List ℕ) (j : ℕ) : Type 0 where
  pub low : 2 ≤ entry_at ws j
  pub high : entry_at ws j < 2 * max_vars + 2

abbrev pub EntrySet : ℕ → List ℕ → List ℕ → Type 0
EntrySet j ws w = ((w ≡ ws) × (Entry ws j → ⊥)) ⊎ (Entry ws j × Put (variable (entry_at ws j) - 1) (value (entry_at ws j)) ws w)

pub record Restarted (k d : ℕ) (ws w : List ℕ) : Type 0 where
  pub empty : List ℕ
  pub begun : List ℕ
  pub cleared : Run known_at (2 * coef_words) (λ i. 0) ws empty
  pub set : Chain EntrySet d empty begun
  pub settled : Chain RowSettled k begun w

abbrev pub RowFollowed : ℕ → ℕ → List ℕ → List ℕ → Type 0
RowFollowed p r ws w = ((w ≡ ws) × (bit_at ws (row_at r) p ≡ false)) ⊎ ((bit_at ws (row_at r) p ≡ true) × RowSettled r ws w)

pub record Followed (k p : ℕ) (b : Bool) (ws w : List ℕ) : Type 0 where
  pub begun : List ℕ
  pub given : Put p b ws begun
  pub settled : Chain (RowFollowed p) k begun w

abbrev pub Leaves : Type 1
Leaves = MutBor (List ℕ) → ℕ → ⊤ → MutBor (List ℕ) → Type 0

pub data RowTaken (post : Leaves) (p r : ℕ) (ws w : List ℕ) : Type 0 where
  passed : bit_at ws (row_at r) p ≡ false → w ≡ ws → RowTaken post p r ws w
  taken : (x y : MutBor (List ℕ)) → x.now ≡ ws → y.now ≡ w → bit_at ws (row_at r) p ≡ true → post x r tt y → RowTaken post p r ws w

abbrev pub StepCallable : (MutBor (List ℕ) → ℕ → Type 0) → Leaves → (p k : ℕ) → List ℕ → Type 0
StepCallable pre post p k ws = (r : ℕ) (x : MutBor (List ℕ)) → r < k → length x.now ≡ length ws → Chain (RowTaken post p) r ws x.now → bit_at x.now (row_at r) p ≡ true → pre x r

abbrev pub StepApart : Leaves → ℕ → Type 0
StepApart post k = (r : ℕ) (x y : MutBor (List ℕ)) → r < k → post x r tt y → (i : ℕ) → row_at (suc r) ≤ i → i < known_at → get_or y.now i 0 ≡ get_or x.now i 0
