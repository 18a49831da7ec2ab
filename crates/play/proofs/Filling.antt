-- A BUFFER FILLED BY ONE READ AFTER ANOTHER.
--   take_read     the front of the buffer after a read into its rest
--   heard         what is said of the bytes read, said of the bytes that the reader had
--   heard_front   the same where a write failed
--   left_behind   what the reader has left
--   consumed_on   what two reads took from a reader, one after the other
-- Assumes nothing.
use mathlib.Core.Path.{◌≡◌, refl, sym, ap, ◌∙◌, subst}
use mathlib.Core.List.{List, ◌++◌, append_assoc}
use Prim.Native.Nat.{ℕ, ◌+◌, ◌≤◌}
use native.Mathlib.Omega.{arith}
use lib.ListN.{length, take, drop, length-take, take-append-drop}
use borrow.Rule.Slice.PartMut.{put_mid}
use Rattle.std.proofs.lemmas.Slice.{take-put_mid}
use Rattle.std.proofs.lemmas.List.{take-take}
use Rattle.std.proofs.Math.Seq.{take-append-add, drop-append_seam}
use Rattle.std.specs.Prelude.{Option, None, Some, Result, Ok, Err, IfSome, OnOk, OnErr}
use Rattle.std.specs.Io.KnownBytes.{Consumes}
use Rattle.play.specs.Session.{most_bytes}

pub take_read : (at k n : ℕ) (xs ys : List ℕ) → at ≤ length xs → n ≤ length ys → take (at + n) (put_mid at k xs ys) ≡ take at xs ++ take n ys
take_read at k n xs ys h l =
    let zs : List ℕ = put_mid at k xs ys in
    let e : length (take at xs) ≡ at = omega (arith, length-take at xs) in
    let r : at + n ≤ at + length ys = omega arith in
    sym (take-take (at + n) (at + length ys) zs r)
    ∙ ap (take (at + n)) (take-put_mid at k xs ys (at + length ys) refl h)
    ∙ ap (λ (i : ℕ). take (i + n) (take at xs ++ ys)) (sym e)
    ∙ take-append-add (take at xs) ys n

pub consumed_on : (a b c : Option (List ℕ)) (xs ys : List ℕ) → Consumes a b xs → Consumes b c ys → Consumes a c (xs ++ ys)
consumed_on None b c xs ys f g = tt
consumed_on (Some left) None c xs ys f g = absurd f
consumed_on (Some left) (Some more) None xs ys f g = absurd g
consumed_on (Some left) (Some more) (Some rest) xs ys f g = f ∙ ap (λ (z : List ℕ). xs ++ z) g ∙ sym (append_assoc xs ys rest)

-- what is said of the bytes that were read is said of the first that the reader had
pub heard : {E : Type 0} (r : Result (Unit {0}) E) (known : Option (List ℕ)) (n : ℕ) (buffer : List ℕ) (P : List ℕ → Type 0)
    → length buffer ≡ most_bytes → IfSome known (λ bytes. take n buffer ≡ take (length buffer) bytes)
    → OnOk r (P (take n buffer)) → OnOk r (IfSome known (λ bytes. P (take most_bytes bytes)))
heard (Err e) known n buffer P l f s = tt
heard (Ok x) None n buffer P l f s = tt
heard (Ok x) (Some bytes) n buffer P l f s = subst P (f ∙ ap (λ (i : ℕ). take i bytes) l) s

-- and so is it of what was begun
pub heard_front : {E : Type 0} (r : Result (Unit {0}) E) (known : Option (List ℕ)) (n : ℕ) (buffer : List ℕ) (P : List ℕ → Type 0) → length buffer ≡ most_bytes
    → IfSome known (λ bytes. take n buffer ≡ take (length buffer) bytes) → OnErr r (P (take n buffer)) → OnErr r (IfSome known (λ bytes. P (take most_bytes bytes)))
heard_front (Ok x) known n buffer P l f s = tt
heard_front (Err e) None n buffer P l f s = tt
heard_front (Err e) (Some bytes) n buffer P l f s = subst P (f ∙ ap (λ (i : ℕ). take i bytes) l) s

-- the reader has left what lies past the bytes that were read
pub left_behind : {E : Type 0} (r : Result (Unit {0}) E) (known left : Option (List ℕ)) (n : ℕ) (buffer : List ℕ) → length buffer ≡ most_bytes
    → IfSome known (λ bytes. take n buffer ≡ take (length buffer) bytes) → Consumes known left (take n buffer)
    → OnOk r (IfSome known (λ bytes. left ≡ Some (drop most_bytes bytes)))
left_behind (Err e) known left n buffer l f c = tt
left_behind (Ok x) None left n buffer l f c = tt
left_behind (Ok x) (Some bytes) None n buffer l f c = absurd c
left_behind (Ok x) (Some bytes) (Some rest) n buffer l f c =
    let e : take n buffer ≡ take most_bytes bytes = f ∙ ap (λ (i : ℕ). take i bytes) l in
    let whole : take most_bytes bytes ++ rest ≡ take most_bytes bytes ++ drop most_bytes bytes =
    ap (λ (z : List ℕ). z ++ rest) (sym e) ∙ sym c ∙ sym (take-append-drop most_bytes bytes) in
    ap Some (sym (drop-append_seam (take most_bytes bytes) rest) ∙ ap (drop (length (take most_bytes bytes))) whole ∙ drop-append_seam (take most_bytes bytes) (drop most_bytes bytes))
