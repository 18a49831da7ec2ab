use Rattle.std.proofs.Common.{Bool, List, ap, arith, drop, get_or, get_or-drop, get_or-take, inl, inr, refl, rules, sym, take, zero-add, ℕ, ◌+◌, ◌-◌, ◌/◌, ◌<◌, ◌∙◌, ◌≡◌, ◌≤◌}
use Rattle.words.specs.Words.{bit_at}
use Rattle.words.proofs.Bits.{bit_same}
use Rattle.tableau.specs.Layout.{max_vars}
use Rattle.opening.proofs.reduce_by.Goals as goal

-- a bit of a part of the buffer
part-bit : (ws : List ℕ) (a n i : ℕ) → i / 64 < n → bit_at (take n (drop a ws)) 0 i ≡ bit_at ws a i
part-bit ws a n i l =
    bit_same ws (take n (drop a ws)) a 0 i (ap (λ (j : ℕ). get_or (take n (drop a ws)) j 0) (zero-add (i / 64)) ∙ get_or-take n (drop a ws) (i / 64) 0 l ∙ get_or-drop a ws (i / 64) 0)

-- the bit of the basic variable, as the code reads it from the last word x and the part from a to e
basic-bit : (ws : List ℕ) (a e x : ℕ) (r b : Bool) → 0 < x / 2 → x / 2 ≤ max_vars → e ≡ a + 8 → r ≡ bit_at (take (e - a) (drop a ws)) 0 ((x - 2) / 2 + 1 - 1) → r ≡ b → bit_at ws a (x / 2 - 1) ≡ b
basic-bit ws a e x r b lo hi f g h =
    let q : x / 2 - 1 ≡ (x - 2) / 2 + 1 - 1 = omega arith in
    ap (bit_at ws a) q ∙ sym (part-bit ws a (e - a) ((x - 2) / 2 + 1 - 1) (omega arith)) ∙ sym g ∙ h

pub returns-then-bit : goal.returns-then-bit
returns-then-bit c = inr (basic-bit _ _ _ _ _ _ (search rules) (search rules) (search rules) c.bit.ensures c.if-bit.true, c.add_row.ensures)

pub returns-else-bit : goal.returns-else-bit
returns-else-bit c = inl (refl, basic-bit _ _ _ _ _ _ (search rules) (search rules) (search rules) c.bit.ensures c.if-bit.false)
