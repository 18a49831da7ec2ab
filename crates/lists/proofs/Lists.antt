-- WHAT EACH LIST PICKS: the ones of the words that a list reads are what its test picks, with their items.
--   same_new, same_known         what is new, and what has a value
--   same_others, same_rows       the other variables of a row, and the rows that a row is the sum of
--   few_ones, few_others         there is room: at most as many as places; of the other variables fewer, since v is not among them
-- Assumes nothing.
use mathlib.Core.Path.{◌≡◌, refl, sym, ap, ap₂, ◌∙◌}
use mathlib.Core.Bool.{Bool, true, false, ◌&&◌, not, and-false}
use mathlib.Core.List.{List}
use Prim.Native.Nat.{ℕ, zero, suc, ◌+◌, ◌*◌, ◌-◌, ◌/◌, ◌%◌, ◌^◌, ◌<◌, ◌≤◌}
use native.Mathlib.Nat.{mod-lt, zero-lt-suc, zero-div, zero-add}
use native.Mathlib.Numerals.{add-one}
use native.Mathlib.Decide.{dec_lt}
use native.Mathlib.Omega.{arith}
use lib.Bits.{bit_and, bit_or, bit_xor}
use lib.ListN.{length, get_or}
use Rattle.gf2.specs.Field.{◌⊕◌, same}
use Rattle.gf2.specs.Answers.{code}
use Rattle.gf2.specs.Places.{scanned}
use Rattle.gf2.proofs.Sums.{same_refl, same_comm}
use Rattle.words.specs.Words.{digit, bit_of, bit_at, own_word}
use Rattle.words.proofs.Bits.{bit-xor, bit_without, bit_without_or, own_bit}
use Rattle.tableau.specs.Layout.{row_at, from_at, known_at, truth_at}
use Rattle.tableau.specs.View.{vals}
use Rattle.lists.specs.Listing.{numbers, is_new, is_other, ones}
use Rattle.lists.proofs.Picking.{scanned_grows, numbers_grows, same_picked, few, gap}
use Rattle.lists.proofs.ByWord.{ones_grows}

code_digit : (u m : ℕ) → m < 2 → code u (not (digit m)) ≡ 2 * u + m
code_digit u zero h = omega arith
code_digit u (suc zero) h = refl
code_digit u (suc (suc m)) h = absurd (omega arith)

-- the literal that a word of odd codes gives
code_item : (i y j : ℕ) (b : Bool) → b ≡ not (bit_of y j) → 2 * (i + 1) + y / 2 ^ j % 2 ≡ code (suc i) b
code_item i y j b e =
    ap (λ (u : ℕ). 2 * u + y / 2 ^ j % 2) (add-one i)
    ∙ sym (code_digit (suc i) (y / 2 ^ j % 2) (mod-lt (y / 2 ^ j) (zero-lt-suc 1))) ∙ sym (ap (code (suc i)) e)

-- the digit of v, in a word of the row that has v alone
own_digit : (v i : ℕ) → 0 < v → bit_of (own_word (v - 1) (i / 64)) (63 - i % 64) ≡ same (suc i) v
own_digit v i pos = let s : suc (v - 1) ≡ v = omega arith in own_bit (v - 1) i ∙ same_comm (v - 1) i ∙ ap (same (suc i)) s

-- among the ones of x, x ^ truth has those of the variables that are false
value_item : (work : List ℕ) (x i : ℕ) → bit_of x (63 - i % 64) ≡ true
    → 2 * (i + 1) + bit_xor x (get_or work (truth_at + i / 64) 0) / 2 ^ (63 - i % 64) % 2 ≡ code (suc i) (vals work truth_at (suc i))
unfolding bit_at
value_item work x i q =
    code_item i (bit_xor x truth) (63 - i % 64) _
    (turned (bit_of truth (63 - i % 64)) ∙ sym (ap not (bit-xor x truth (63 - i % 64) ∙ ap (λ (b : Bool). b ⊕ bit_of truth (63 - i % 64)) q)))
  where
    truth : ℕ
    truth = get_or work (truth_at + i / 64) 0

    turned : (b : Bool) → b ≡ not (true ⊕ b)
    turned true = refl
    turned false = refl

-- what a list reads for word w, as it is said of the words that are listed
module _ (work : List ℕ) (k : ℕ) (words : ℕ → ℕ × ℕ) where
  abbrev word : ℕ → ℕ → ℕ
  word at w = get_or work (at + w) 0

  pub same_new : (old : List ℕ) (v : ℕ) → 0 < v
      → ((w : ℕ) → w * 64 < k
      → ((words w).0 ≡ bit_xor (word known_at w) (bit_and (word known_at w) (bit_or (get_or old w 0) (own_word (v - 1) w))))
      × ((words w).1 ≡ bit_xor (words w).0 (word truth_at w)))
      → ones k words 2 ≡ scanned k (is_new work old v) (vals work truth_at)
  unfolding bit_at
  same_new old v pos read =
      same_picked (ones_grows words 2) (scanned_grows (is_new work old v) (vals work truth_at)) k
      (λ i m. ap (λ (y : ℕ). bit_of y (63 - i % 64)) (read (i / 64) (omega arith)).0 ∙ bit_without_or _ _ _ (63 - i % 64)
      ∙ ap₂ (λ (a b : Bool). (bit_of (word known_at (i / 64)) (63 - i % 64) && not a) && not b)
      (ap (λ (w : ℕ). bit_of (get_or old w 0) (63 - i % 64)) (sym (zero-add (i / 64)))) (own_digit v i pos))
      (λ i m q. ap (λ (y : ℕ). 2 * (i + 1) + y / 2 ^ (63 - i % 64) % 2) (read (i / 64) (omega arith)).1 ∙ value_item work _ i q)

  pub same_known : ((w : ℕ) → w * 64 < k → ((words w).0 ≡ word known_at w) × ((words w).1 ≡ bit_xor (words w).0 (word truth_at w)))
      → ones k words 2 ≡ scanned k (vals work known_at) (vals work truth_at)
  unfolding bit_at
  same_known read =
      same_picked (ones_grows words 2) (scanned_grows (vals work known_at) (vals work truth_at)) k
      (λ i m. ap (λ (y : ℕ). bit_of y (63 - i % 64)) (read (i / 64) (omega arith)).0)
      (λ i m q. ap (λ (y : ℕ). 2 * (i + 1) + y / 2 ^ (63 - i % 64) % 2) (read (i / 64) (omega arith)).1 ∙ value_item work _ i q)

  pub same_others : (r v : ℕ) → 0 < v
      → ((w : ℕ) → w * 64 < k
      → ((words w).0 ≡ bit_xor (word (row_at r) w) (bit_and (word (row_at r) w) (own_word (v - 1) w))) × ((words w).1 ≡ word truth_at w))
      → ones k words 2 ≡ scanned k (is_other work r v) (λ u. not (vals work truth_at u))
  unfolding bit_at
  same_others r v pos read =
      same_picked (ones_grows words 2) (scanned_grows (is_other work r v) (λ u. not (vals work truth_at u))) k
      (λ i m. ap (λ (y : ℕ). bit_of y (63 - i % 64)) (read (i / 64) (omega arith)).0 ∙ bit_without _ _ (63 - i % 64)
      ∙ ap (λ (b : Bool). bit_of (word (row_at r) (i / 64)) (63 - i % 64) && not b) (own_digit v i pos))
      (λ i m q. ap (λ (y : ℕ). 2 * (i + 1) + y / 2 ^ (63 - i % 64) % 2) (read (i / 64) (omega arith)).1 ∙ code_item i _ (63 - i % 64) _ refl)

  pub same_rows : (r : ℕ) → ((w : ℕ) → w * 64 < k → ((words w).0 ≡ word (from_at r) w) × ((words w).1 ≡ 0))
      → ones k words 1 ≡ numbers k (bit_at work (from_at r))
  unfolding bit_at
  same_rows r read =
      same_picked (ones_grows words 1) (numbers_grows (bit_at work (from_at r))) k
      (λ i m. ap (λ (y : ℕ). bit_of y (63 - i % 64)) (read (i / 64) (omega arith)).0)
      (λ i m q. ap (λ (y : ℕ). 1 * (i + 1) + y / 2 ^ (63 - i % 64) % 2) (read (i / 64) (omega arith)).1 ∙ omega (arith, zero-div (2 ^ (63 - i % 64))))

-- there is room for the list in as many places as it scans
pub few_ones : (words : ℕ → ℕ × ℕ) (s n k : ℕ) → k ≤ n → 0 + length (ones k words s) ≤ n
few_ones words s n k le = omega (arith, few (ones_grows words s) k)

-- one place is over, that of v
pub few_others : (work : List ℕ) (r v n k : ℕ) → 0 < v → v ≤ n → k ≤ n → 1 + length (scanned k (is_other work r v) (λ u. not (vals work truth_at u))) ≤ n
few_others work r v n k pos le h = go (dec_lt (v - 1) k)
  where
    out : is_other work r v (suc (v - 1)) ≡ false
    out =
        let e : suc (v - 1) ≡ v = omega arith in
        ap (λ (b : Bool). vals work (row_at r) (suc (v - 1)) && not b) (ap (λ (u : ℕ). same u v) e ∙ same_refl v)
        ∙ and-false (vals work (row_at r) (suc (v - 1)))

    go : Dec (v - 1 < k) → 1 + length (scanned k (is_other work r v) (λ u. not (vals work truth_at u))) ≤ n
    go (yes l) = omega (arith, gap (scanned_grows (is_other work r v) (λ u. not (vals work truth_at u))) (v - 1) k l out)
    go (no l) = omega (arith, few (scanned_grows (is_other work r v) (λ u. not (vals work truth_at u))) k)
