-- THE SEARCH FOR A PARTNER, over the ones of each word.
--   lack_word ws r w                  word w of the variables of row r that have no value
--   lack_made                         what the code makes is that word, if it reads the known variables at their place
--   Scan ws r p w rest                the loop over its ones: of the variables up to the last one taken, p + 1 alone may be one of the row without a value
--   scan_start, scan_end              before the loop, and when no one is left
--   scan_top, scan_under, scan_next   the variable of the top one has no value, and those under it have been passed; it is p + 1 and is taken away
-- Assumes nothing.
use mathlib.Core.Path.{◌≡◌, sym, ap, ap₂, ◌∙◌}
use mathlib.Core.List.{List}
use mathlib.Core.Bool.{Bool, true, false, not, ◌&&◌}
use mathlib.Core.Logic.{◌≢◌}
use Prim.Native.Nat.{ℕ, suc, ◌+◌, ◌*◌, ◌-◌, ◌^◌, ◌<◌, ◌≤◌}
use native.Mathlib.Decide.{dec_lt}
use native.Mathlib.Omega.{arith}
use lib.Bits.{bit_and, bit_xor}
use lib.ListN.{get_or}
use Rattle.words.specs.Ones.{Top}
use Rattle.words.specs.Words.{bit_of}
use Rattle.words.proofs.Bits.{bit_without, bit_in}
use Rattle.words.proofs.Tops.{Left, left_start, left_end, left_top, left_skip, left_next}
use Rattle.tableau.specs.Layout.{row_at, known_at}
use Rattle.settle.specs.Values.{lacks}

abbrev pub lack_word : List ℕ → ℕ → ℕ → ℕ
lack_word ws r w = bit_xor (get_or ws (row_at r + w) 0) (bit_and (get_or ws (row_at r + w) 0) (get_or ws (known_at + w) 0))

pub lack_made : (ws : List ℕ) (r w i y : ℕ) → y ≡ bit_xor (get_or ws (row_at r + w) 0) (bit_and (get_or ws (row_at r + w) 0) (get_or ws i 0)) → i ≡ known_at + w → y ≡ lack_word ws r w
lack_made ws r w i y e h = e ∙ ap (λ (k : ℕ). bit_xor (get_or ws (row_at r + w) 0) (bit_and (get_or ws (row_at r + w) 0) (get_or ws k 0))) h

lack_bit : (ws : List ℕ) (r w i : ℕ) → i < 64 → lacks ws r (w * 64 + i) ≡ bit_of (lack_word ws r w) (63 - i)
unfolding lacks
lack_bit ws r w i l =
    ap₂ (λ (x y : Bool). x && not y) (bit_in ws (row_at r) w i l) (bit_in ws known_at w i l)
    ∙ sym (bit_without (get_or ws (row_at r + w) 0) (get_or ws (known_at + w) 0) (63 - i))

pub record Scan (ws : List ℕ) (r p w rest : ℕ) : Type 0 where
  pub seen : ℕ
  pub ones : Left (lack_word ws r w) seen rest
  pub passed : (i : ℕ) → i < w * 64 + seen → i ≢ p → lacks ws r i ≡ false

module _ (ws : List ℕ) (r p w : ℕ) where
  pub scan_start : (y : ℕ) → y ≡ lack_word ws r w → y < 2 ^ 64 → ((i : ℕ) → i < w * 64 → i ≢ p → lacks ws r i ≡ false) → Scan ws r p w y
  scan_start y e f h = record { seen = 0; ones = rw (← e) (left_start y f); passed = λ i l. h i (omega arith) }

  module _ (rest : ℕ) (s : Scan ws r p w rest) where
    -- past digits that are none
    on : (n : ℕ) → n ≤ 64 → ((i : ℕ) → s.seen ≤ i → i < n → bit_of (lack_word ws r w) (63 - i) ≡ false) → (i : ℕ) → i < w * 64 + n → i ≢ p → lacks ws r i ≡ false
    on n u h i l d = go (dec_lt i (w * 64 + s.seen))
      where
        go : Dec (i < w * 64 + s.seen) → lacks ws r i ≡ false
        go (yes z) = s.passed i z d
        go (no z) =
            let q : i ≡ w * 64 + (i - w * 64) = omega arith in
            ap (lacks ws r) q ∙ lack_bit ws r w (i - w * 64) (omega arith) ∙ h (i - w * 64) (omega arith) (omega arith)

    pub scan_end : rest ≡ 0 → (i : ℕ) → i < (w + 1) * 64 → i ≢ p → lacks ws r i ≡ false
    scan_end z i l = on 64 (omega arith) (left_end (lack_word ws r w) s.seen rest s.ones z) i (omega arith)

    module _ (i after : ℕ) (t : Top rest i after) where
      pub scan_top : lacks ws r (w * 64 + i) ≡ true
      scan_top = lack_bit ws r w i t.place ∙ left_top (lack_word ws r w) s.seen rest i after s.ones t

      pub scan_under : (j : ℕ) → j < w * 64 + i → j ≢ p → lacks ws r j ≡ false
      scan_under = on i (omega (arith, t.place)) (left_skip (lack_word ws r w) s.seen rest i after s.ones t)

      pub scan_next : w * 64 + i ≡ p → Scan ws r p w after
      scan_next e =
          record {
            seen = suc i;
            ones = left_next (lack_word ws r w) s.seen rest i after s.ones t;
            passed = λ j l d. scan_under j (omega (arith, d, e)) d;
          }
