-- ANSWER BUFFERS: past a list written from the front, a buffer keeps what it had.
-- Assumes nothing.
use mathlib.Core.Path.{sym, ap, ◌∙◌}
use mathlib.Core.Logic.{inr}
use mathlib.Core.List.{List}
use lib.ListN.{drop, length-drop}
use lib.Seq.{ext_get_or, get_or-drop}
use Prim.Native.Nat.{ℕ, ◌+◌, ◌-◌}
use native.Mathlib.Omega.{arith}
use Rattle.lists.specs.Listing.{ListPut}
use Rattle.parity.specs.Promises.{Used}

pub listed_used : (most : ℕ) (l out o : List ℕ) (x : ℕ) → ListPut most 0 l out o x → Used x out o
listed_used most l out o x w = record {
  long = w.long;
  rest = ext_get_or 0 (drop x o) (drop x out) (length-drop x o ∙ ap (λ (z : ℕ). z - x) w.long ∙ sym (length-drop x out))
      (λ i h. get_or-drop x o i 0 ∙ w.rest (x + i) (inr (omega arith)) ∙ sym (get_or-drop x out i 0));
}
