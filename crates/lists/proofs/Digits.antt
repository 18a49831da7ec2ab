-- THE DIGITS OF ONE WORD, the top one first: which of them are kept, and how they are listed.
--   first_shifted, first_all          the ones among the first digits, as two shifts leave them; all of them
--   items_grows                       the list of the ones, as a scan makes it
--   Rest                              the loop that lists a word: the digits before `seen` are listed, and the others are left
--   rest_start, rest_room, rest_next  before the loop; there is room for the top one, which is listed and taken away
--   rest_end                          the list when nothing is left
-- Assumes nothing.
use mathlib.Core.Path.{◌≡◌, refl, sym, ap, ap₂, ◌∙◌}
use mathlib.Core.Bool.{Bool}
use mathlib.Core.List.{List, [], ◌∷◌, ◌++◌}
use Prim.Native.Nat.{ℕ, suc, ◌+◌, ◌*◌, ◌-◌, ◌/◌, ◌%◌, ◌^◌, ◌<◌, ◌≤◌}
use native.Mathlib.Nat.{mod-eq_of_lt, lt_of_le_of_lt}
use native.Mathlib.Omega.{arith}
use lib.ListN.{length, set, length-append}
use lib.Pow.{shr-shr, split}
use Rattle.gf2.specs.Places.{listed_if}
use Rattle.words.specs.Words.{digit, bit_of}
use Rattle.words.specs.Ones.{Top}
use Rattle.words.proofs.Tops.{high_digit, low_digit, Left, left_start, left_end, left_seen, left_top, left_skip, left_next}
use Rattle.lists.specs.Listing.{FirstOnes, items, ListPut}
use Rattle.lists.proofs.Picking.{Grows, passed, grown, listed_none, listed_one, listed_join}

-- ---- the first digits
pub first_shifted : (x k : ℕ) → x < 2 ^ 64 → 0 < k → k < 64 → FirstOnes x k (x / 2 ^ (64 - k) * 2 ^ (64 - k) % 2 ^ 64)
first_shifted x k f pos l =
    record {
      kept = λ i a b.
          let e : 63 - i ≡ 64 - k + (k - suc i) = omega arith in
          ap₂ bit_of whole e ∙ high_digit (x / 2 ^ (64 - k)) (64 - k) (k - suc i)
          ∙ ap (λ (y : ℕ). digit (y % 2)) (shr-shr x (64 - k) (k - suc i)) ∙ sym (ap (bit_of x) e);
      none = λ i a b.
          let e : 64 - k ≡ suc (i - k) + (63 - i) = omega arith in
          ap (λ (y : ℕ). bit_of y (63 - i)) whole ∙ ap (λ (d : ℕ). bit_of (x / 2 ^ (64 - k) * 2 ^ d) (63 - i)) e
          ∙ low_digit (x / 2 ^ (64 - k)) (i - k) (63 - i);
    }
  where
    whole : x / 2 ^ (64 - k) * 2 ^ (64 - k) % 2 ^ 64 ≡ x / 2 ^ (64 - k) * 2 ^ (64 - k)
    whole = mod-eq_of_lt (lt_of_le_of_lt (let e = split x (64 - k) in omega arith) f)

pub first_all : (x k : ℕ) → 64 ≤ k → FirstOnes x k x
first_all x k l = record { kept = λ i a b. refl; none = λ i a b. absurd (omega arith) }

-- ---- the list of the ones
pub items_grows : (x t s base : ℕ) → Grows (λ k. items k x t s base) (λ i. bit_of x (63 - i)) (λ i. s * (base + i + 1) + t / 2 ^ (63 - i) % 2)
unfolding items
items_grows x t s base = record { none = refl; more = λ i. refl }

pub record Rest (x t s base at : ℕ) (out o : List ℕ) (rest c : ℕ) : Type 0 where
  pub seen : ℕ
  pub ones : Left x seen rest
  pub listed : ListPut (length out) at (items seen x t s base) out o c

pub rest_start : (x t s base at : ℕ) (out : List ℕ) → x < 2 ^ 64 → at ≤ length out → Rest x t s base at out out x at
unfolding items
rest_start x t s base at out f l =
    record { seen = 0; ones = left_start x f; listed = listed_none (length out) at out l }

-- the top one is listed and taken away
module _ (x t s base at : ℕ) (out o : List ℕ) (rest c i after : ℕ) (h : Rest x t s base at out o rest c) (top : Top rest i after)
    (room : at + length (items 64 x t s base) ≤ length out) where
  abbrev item : ℕ
  item = s * (base + i + 1) + t / 2 ^ (63 - i) % 2

  more : items (suc i) x t s base ≡ items h.seen x t s base ++ item ∷ []
  more =
      (items_grows x t s base).more i
      ∙ ap₂ (λ (l : List ℕ) (b : Bool). l ++ listed_if b item)
      (passed (items_grows x t s base) h.seen i (left_seen x h.seen rest i after h.ones top) (left_skip x h.seen rest i after h.ones top))
      (left_top x h.seen rest i after h.ones top)

  more_room : at + length (items h.seen x t s base ++ item ∷ []) ≤ length out
  more_room =
      let e = ap length more in
      omega (arith, (grown (items_grows x t s base) (suc i) 64 top.place).0)

  pub rest_room : c < length o
  rest_room =
      let e = h.listed.count in
      let f = h.listed.long in
      omega (arith, more_room, length-append (items h.seen x t s base) (item ∷ []))

  pub rest_next : Rest x t s base at out (set o c (s * (base + i + 1) + t / 2 ^ (63 - i) % 2)) after (c + 1)
  rest_next =
      record {
        seen = suc i;
        ones = left_next x h.seen rest i after h.ones top;
        listed = rw more (listed_join (length out) (length o) at c (c + 1) (items h.seen x t s base) (item ∷ []) out o (set o c item) h.listed
            (listed_one c item o rest_room) more_room);
      }

pub rest_end : (x t s base at : ℕ) (out o : List ℕ) (rest c : ℕ) → Rest x t s base at out o rest c → rest ≡ 0
    → ListPut (length out) at (items 64 x t s base) out o c
rest_end x t s base at out o rest c h z = rw all h.listed
  where
    all : items 64 x t s base ≡ items h.seen x t s base
    all = passed (items_grows x t s base) h.seen 64 h.ones.low (left_end x h.seen rest h.ones z)
