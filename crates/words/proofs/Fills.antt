-- A LOOP THAT CHANGES A LIST IN PLACE FROM THE FRONT: it has the wanted words before i and the old ones from i on.
--   fill_more, fill_done       a turn, and the end
--   agree_here, agree_rest     two lists that agree from i on
-- Assumes nothing.
use mathlib.Core.Path.{◌≡◌, sym, ap, ap₂, ◌∙◌}
use mathlib.Core.List.{List, [], ◌∷◌, ◌++◌}
use Prim.Native.Nat.{ℕ, ◌+◌, ◌<◌, ◌≤◌}
use native.Mathlib.Nat.{add-zero}
use native.Mathlib.Numerals.{add-one}
use native.Mathlib.Omega.{arith}
use lib.ListN.{length, get_or, take, drop, set}
use lib.Seq.{drop-set-lt, drop-drop, get_or-drop, take-suc, take-suc-set, take_all}

pub fill_more : (want out : List ℕ) (i x : ℕ) → get_or want i 0 ≡ x → i < length want → i < length out → take i out ≡ take i want
    → take (i + 1) (set out i x) ≡ take (i + 1) want
fill_more want out i x e hw ho inv =
    ap (λ (n : ℕ). take n (set out i x)) (add-one i)
    ∙ take-suc-set out i x ho
    ∙ ap₂ (λ (p : List ℕ) (y : ℕ). p ++ (y ∷ [])) inv (sym e)
    ∙ sym (take-suc want i 0 hw)
    ∙ ap (λ (n : ℕ). take n want) (sym (add-one i))

pub fill_done : (want out : List ℕ) (i : ℕ) → length want ≤ i → length out ≤ i → take i out ≡ take i want → out ≡ want
fill_done want out i hw ho inv = sym (take_all i out ho) ∙ inv ∙ take_all i want hw

pub agree_here : (l m : List ℕ) (i : ℕ) → drop i l ≡ drop i m → get_or l i 0 ≡ get_or m i 0
agree_here l m i e =
    ap (λ (k : ℕ). get_or l k 0) (sym (add-zero i)) ∙ sym (get_or-drop i l 0 0) ∙ ap (λ (r : List ℕ). get_or r 0 0) e ∙ get_or-drop i m 0 0
    ∙ ap (λ (k : ℕ). get_or m k 0) (add-zero i)

pub agree_rest : (l m : List ℕ) (i x : ℕ) → drop i l ≡ drop i m → drop (i + 1) (set l i x) ≡ drop (i + 1) m
agree_rest l m i x e = drop-set-lt (i + 1) l i x (omega arith) ∙ sym (drop-drop 1 i l) ∙ ap (drop 1) e ∙ drop-drop 1 i m
