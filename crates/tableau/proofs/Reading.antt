-- WHAT STAYS AS IT WAS READ where words stay, and what the words of a sum read as.
--   bit-of                    a variable by the number of its bit
--   rows_stay, rows_below     the rows of a buffer whose words, or whose words before row k, stay
--   entry_stay, lits_stay     the entries of the record where its words stay
--   home_stay                 the homes where those words stay; homes_same, homes_stay: they are those of the basic variables still
--   homed_other               a row is the home of its basic variable still, where another variable's home is set
--   prov_bit                  provenance as bits behind the coefficients
--   digit_sum, basic_kept     the parity of a sum, and its basic variable
-- Assumes nothing.
use mathlib.Core.Path.{◌≡◌, refl, ap, ap₂, ◌∙◌}
use mathlib.Core.List.{List}
use mathlib.Core.Bool.{Bool}
use mathlib.Core.Logic.{◌⊎◌, inl, inr, ◌≢◌}
use Prim.Native.Nat.{ℕ, zero, suc, ◌+◌, ◌*◌, ◌-◌, ◌/◌, ◌%◌, ◌<◌, ◌≤◌}
use native.Mathlib.Omega.{arith}
use lib.ListN.{get_or}
use Rattle.gf2.specs.Field.{◌⊕◌}
use Rattle.gf2.specs.Rows.{Row}
use Rattle.gf2.specs.Answers.{variable, value}
use Rattle.words.specs.Words.{bit_of, digit, bit_at}
use Rattle.words.proofs.Bits.{bit_same}
use Rattle.tableau.specs.Layout.{max_vars, max_rows, coef_words, row_at, from_at, last_at, known_at, record_at, home_step}
use Rattle.tableau.specs.Buffer.{basic_at, entry_at, home_at, Homed}
use Rattle.tableau.specs.View.{RowsRead, LitsRead, Homes}

pub bit-of : (v : ℕ) → 0 < v → suc (v - 1) ≡ v
bit-of v h = omega arith

pub rows_below : (n k : ℕ) (ws w : List ℕ) (R : ℕ → Row) (β : ℕ → ℕ) (S : ℕ → ℕ → Bool) → ((i : ℕ) → i < row_at k → get_or w i 0 ≡ get_or ws i 0) → RowsRead n k ws R β S → RowsRead n k w R β S
rows_below n k ws w R β S h rr =
    record {
      coefs = λ r l i li. bit_same ws w (row_at r) (row_at r) i (h (row_at r + i / 64) (omega arith)) ∙ rr.coefs r l i li;
      parity = λ r l. ap (λ (x : ℕ). digit (x % 2)) (h (last_at r) (omega arith)) ∙ rr.parity r l;
      basic = λ r l. ap (λ (x : ℕ). x / 2) (h (last_at r) (omega arith)) ∙ rr.basic r l;
      from = λ r l j lj. bit_same ws w (from_at r) (from_at r) j (h (from_at r + j / 64) (omega arith)) ∙ rr.from r l j lj;
      clean = rr.clean;
    }

pub rows_stay : (n k : ℕ) (ws w : List ℕ) (R : ℕ → Row) (β : ℕ → ℕ) (S : ℕ → ℕ → Bool) → k ≤ max_rows → ((i : ℕ) → i < known_at → get_or w i 0 ≡ get_or ws i 0) → RowsRead n k ws R β S → RowsRead n k w R β S
rows_stay n k ws w R β S lk h = rows_below n k ws w R β S (λ i l. h i (omega arith))

pub entry_stay : (ws w : List ℕ) → ((i : ℕ) → record_at ≤ i → get_or w i 0 ≡ get_or ws i 0) → (j : ℕ) → entry_at w j ≡ entry_at ws j
unfolding entry_at
entry_stay ws w h j = ap (λ (x : ℕ). x % home_step) (h (record_at + j) (omega arith))

pub home_stay : (ws w : List ℕ) → ((i : ℕ) → record_at ≤ i → get_or w i 0 ≡ get_or ws i 0) → (v : ℕ) → home_at w v ≡ home_at ws v
unfolding home_at
home_stay ws w h v = ap (λ (x : ℕ). x / home_step) (h (record_at + (v - 1)) (omega arith))

pub homes_same : (k : ℕ) (ws w : List ℕ) → ((r : ℕ) → r < k → basic_at w r ≡ basic_at ws r) → ((v : ℕ) → home_at w v ≡ home_at ws v) → Homes k ws → Homes k w
homes_same k ws w b h s r l = ap (home_at w) (b r l) ∙ h (basic_at ws r) ∙ s r l

pub homes_stay : (k : ℕ) (ws w : List ℕ) → ((i : ℕ) → (i < row_at k) ⊎ (record_at ≤ i) → get_or w i 0 ≡ get_or ws i 0) → Homes k ws → Homes k w
homes_stay k ws w h = homes_same k ws w (λ r l. ap (λ (x : ℕ). x / 2) (h (last_at r) (inl (omega arith)))) (home_stay ws w (λ i l. h i (inr l)))

pub homed_other : (u p : ℕ) (ws w : List ℕ) → Homed u p ws w → (r : ℕ) → r < max_rows → 0 < basic_at ws r → basic_at ws r ≢ u → home_at ws (basic_at ws r) ≡ r → home_at w (basic_at w r) ≡ r
homed_other u p ws w h r l lo d e = ap (λ (x : ℕ). home_at w (x / 2)) (h.rest (last_at r) (omega arith)) ∙ h.others (basic_at ws r) lo d ∙ e

pub lits_stay : (d : ℕ) (ws w : List ℕ) (x : ℕ → ℕ) (y : ℕ → Bool) → ((j : ℕ) → j < d → entry_at w j ≡ entry_at ws j) → LitsRead d ws x y → LitsRead d w x y
lits_stay d ws w x y h lr = record { var = λ j l. ap variable (h j l) ∙ lr.var j l; val = λ j l. ap value (h j l) ∙ lr.val j l }

pub prov_bit : (ws : List ℕ) (a j : ℕ) → bit_at ws (a + coef_words) j ≡ bit_at ws a (max_vars + j)
unfolding bit_at
prov_bit ws a j =
    let e : a + coef_words + j / 64 ≡ a + (max_vars + j) / 64 = omega arith in
    let f : j % 64 ≡ (max_vars + j) % 64 = omega arith in
    ap₂ (λ (x y : ℕ). bit_of (get_or ws x 0) (63 - y)) e f

pub basic_kept : (x y z : ℕ) → x ≡ y / 2 * 2 + (y % 2 + z % 2) % 2 → x / 2 ≡ y / 2
basic_kept x y z h = omega arith

pub digit_sum : (a b : ℕ) → digit ((a / 2 * 2 + (a % 2 + b % 2) % 2) % 2) ≡ digit (a % 2) ⊕ digit (b % 2)
digit_sum a b = go (a % 2) (b % 2) (omega arith) (omega arith)
  where
    low : (p q : ℕ) → p < 2 → q < 2 → digit ((p + q) % 2) ≡ digit p ⊕ digit q
    low zero zero h g = refl
    low zero (suc zero) h g = refl
    low (suc zero) zero h g = refl
    low (suc zero) (suc zero) h g = refl
    low zero (suc (suc q)) h g = absurd (omega arith)
    low (suc zero) (suc (suc q)) h g = absurd (omega arith)
    low (suc (suc p)) q h g = absurd (omega arith)

    go : (p q : ℕ) → p < 2 → q < 2 → digit ((a / 2 * 2 + (p + q) % 2) % 2) ≡ digit p ⊕ digit q
    go p q h g = let e : (a / 2 * 2 + (p + q) % 2) % 2 ≡ (p + q) % 2 = omega arith in ap digit e ∙ low p q h g
