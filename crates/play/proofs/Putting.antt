-- BYTES WRITTEN BY ONE WRITE AFTER ANOTHER.
--   appends_none   nothing was written
--   appends_kept   a write that failed left what the writer held
--   appends_on     what two writes gave a writer, one after the other
--   put_on         a write of what is left behind the front that is written
-- Assumes nothing.
use mathlib.Core.Path.{◌≡◌, sym, ap, ◌∙◌, subst}
use mathlib.Core.List.{List, [], ◌++◌, append_assoc, append-nil}
use Prim.Native.Nat.{ℕ, ◌+◌, ◌-◌, ◌≤◌}
use native.Mathlib.Omega.{arith}
use lib.ListN.{length, take, drop, length-take, take-append-drop}
use Rattle.std.proofs.lemmas.List.{take-take}
use Rattle.std.proofs.Math.Seq.{take-append-add}
use Rattle.std.specs.Prelude.{Option, None, Some}
use Rattle.std.specs.Io.KnownBytes.{Appends, Keeps}

pub appends_none : (a : Option (List ℕ)) → Appends a a []
appends_none None = tt
appends_none (Some xs) = sym (append-nil xs)

pub appends_kept : (a b c : Option (List ℕ)) (xs : List ℕ) → Appends a b xs → Keeps b c → Appends a c xs
appends_kept None b c xs f g = tt
appends_kept (Some old) None c xs f g = absurd f
appends_kept (Some old) (Some now) None xs f g = absurd g
appends_kept (Some old) (Some now) (Some new) xs f g = g ∙ f

pub appends_on : (a b c : Option (List ℕ)) (xs ys : List ℕ) → Appends a b xs → Appends b c ys → Appends a c (xs ++ ys)
appends_on None b c xs ys f g = tt
appends_on (Some old) None c xs ys f g = absurd f
appends_on (Some old) (Some now) None xs ys f g = absurd g
appends_on (Some old) (Some now) (Some new) xs ys f g = g ∙ ap (λ (z : List ℕ). z ++ ys) f ∙ append_assoc old xs ys

takes_on : (k n : ℕ) (xs : List ℕ) → k ≤ length xs → take (k + n) xs ≡ take k xs ++ take n (drop k xs)
takes_on k n xs l =
    let e : length (take k xs) ≡ k = omega (arith, length-take k xs) in
    ap (take (k + n)) (sym (take-append-drop k xs))
    ∙ ap (λ (i : ℕ). take (i + n) (take k xs ++ drop k xs)) (sym e)
    ∙ take-append-add (take k xs) (drop k xs) n

pub put_on : (a b c : Option (List ℕ)) (k n : ℕ) (xs : List ℕ) → k ≤ length xs → n ≤ length (take (length xs - k) (drop k xs))
    → Appends a b (take k xs) → Appends b c (take n (take (length xs - k) (drop k xs))) → Appends a c (take (k + n) xs)
put_on a b c k n xs l m f g =
    let h : n ≤ length xs - k = omega (arith, length-take (length xs - k) (drop k xs)) in
    subst (Appends a c) (sym (takes_on k n xs l))
    (appends_on a b c (take k xs) (take n (drop k xs)) f (subst (Appends b c) (take-take n (length xs - k) (drop k xs) h) g))
