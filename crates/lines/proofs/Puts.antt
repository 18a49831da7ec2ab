-- TEXT PUT INTO A BUFFER: the laws of `Put` and `spaced`.
--   counted                       a count within a list, as `&buf[..n]` asks it
--   put_none, put_run, put_then   nothing, bytes that are copied into place, one text after another
--   put_text                      the same text, said in another way
--   put_same                      `Put` leaves one result only
--   spaced_one                    one item
--   spaced_append                 the items of two lists, one after the other
--   spaced_more                   one number more of a list of numbers
--   flat                          brings the texts of several calls, and the items of a line, into one order
-- Assumes nothing.
use mathlib.Core.Path.{◌≡◌, refl, sym, ap, ◌∙◌}
use mathlib.Core.List.{List, [], ◌∷◌, ◌++◌, append_assoc, append-nil, map, map-append}
use Prim.Native.Nat.{ℕ, ◌+◌, ◌-◌, ◌<◌, ◌≤◌}
use native.Mathlib.Nat.{add-zero}
use native.Mathlib.Numerals.{add-one}
use native.Mathlib.Omega.{arith}
use lib.ListN.{length, take, drop, get_or, length-append, length-drop, length-take, take-append-drop}
use borrow.Rule.Slice.PartMut.{put_mid}
use Rattle.std.proofs.lemmas.Slice.{take-put_mid, drop-put_mid}
use lib.Seq.{take-suc, drop-drop}
use Rattle.io.specs.Counts.{IsPrefixLen}
use Rattle.lines.specs.Lines.{Put, dec, spaced, word}

pub counted : (n : ℕ) (xs : List ℕ) → n ≤ length xs → IsPrefixLen n xs
counted n xs h = (h, omega (arith, length-take n xs))

pub put_none : (xs : List ℕ) (at : ℕ) → at ≤ length xs → Put xs at [] xs at
put_none xs at h = record {
  next = sym (add-zero at);
  room = refl;
  front = rw append-nil;
  rest = refl;
  counts = counted at xs h;
}

-- bytes that are copied into place
pub put_run : (at k : ℕ) (xs ys bytes : List ℕ) → ys ≡ bytes → k ≡ length bytes → at + length bytes ≤ length xs → Put xs at bytes (put_mid at k xs ys) (at + length bytes)
put_run at k xs ys bytes e f h =
    let zs : List ℕ = put_mid at k xs ys in
    let r : ℕ = at + length bytes in
    let l : at ≤ length xs = omega arith in
    let n : length ys ≡ length bytes = ap length e in
    let front : take r zs ≡ take at xs ++ bytes = take-put_mid at k xs ys r (omega arith) l ∙ ap (λ (s : List ℕ). take at xs ++ s) e in
    let rest : drop r zs ≡ drop r xs = drop-put_mid at k xs ys r (omega arith) l (omega arith) in
    let parts = length-append (take r zs) (drop r zs) in
    let whole : length (take r zs ++ drop r zs) ≡ length zs = ap length (take-append-drop r zs) in
    let before : length (take r zs) ≡ length (take at xs) + length bytes = ap length front ∙ length-append (take at xs) bytes in
    let after : length (drop r zs) ≡ length (drop r xs) = ap length rest in
    let room : length zs ≡ length xs = omega (arith, parts, length-drop r xs, length-take at xs) in
    record { next = refl; room = room; front = front; rest = rest; counts = counted r zs (omega arith) }

-- what is the same from p on is the same from any later place on
later : (p r : ℕ) (xs ys : List ℕ) → p ≤ r → drop p ys ≡ drop p xs → drop r ys ≡ drop r xs
later p r xs ys h e =
    let s : p + (r - p) ≡ r = omega arith in
    rw (← s, ← drop-drop (r - p) p ys, ← drop-drop (r - p) p xs, e)

pub put_then : {xs ys zs s t : List ℕ} {at p r : ℕ} → Put xs at s ys p → Put ys p t zs r → Put xs at (s ++ t) zs r
put_then {xs} {ys} {zs} {s} {t} {at} {p} {r} f g = record {
  next = simp length-append (omega (arith, f.next, g.next));
  room = g.room ∙ f.room;
  front = g.front ∙ ap (λ (l : List ℕ). l ++ t) f.front ∙ append_assoc (take at xs) s t;
  rest = g.rest ∙ later p r xs ys (omega (arith, g.next)) f.rest;
  counts = g.counts;
}

pub put_text : {xs s t ys : List ℕ} {at r : ℕ} → Put xs at s ys r → s ≡ t → Put xs at t ys r
put_text f e = rw e at f

pub put_same : {xs ys zs t : List ℕ} {at r q : ℕ} → Put xs at t ys r → Put xs at t zs q → (ys ≡ zs) × (r ≡ q)
put_same {xs} {ys} {zs} {t} {at} {r} {q} f g =
    let e : r ≡ q = f.next ∙ sym g.next in
    let g' = rw (sym e) at g in
    (sym (take-append-drop r ys) ∙ rw (f.front, f.rest, ← g'.front, ← g'.rest) (take-append-drop r zs), e)

pub spaced_append : (xs ys : List (List ℕ)) → spaced (xs ++ ys) ≡ spaced xs ++ spaced ys
unfolding spaced
spaced_append [] ys = refl
spaced_append (x ∷ xs) ys = rw (spaced_append xs ys) (simp append_assoc)

pub spaced_one : (x : List ℕ) → spaced (x ∷ []) ≡ word " " ++ x
unfolding spaced
spaced_one x = rw append-nil

pub spaced_more : (i : ℕ) (ns : List ℕ) → i < length ns → spaced (map dec (take (i + 1) ns)) ≡ spaced (map dec (take i ns)) ++ spaced (dec (get_or ns i 0) ∷ [])
spaced_more i ns h = rw (add-one, take-suc ns i 0, map-append, spaced_append)

pub ruleset flat = (append_assoc, append-nil, spaced_append)
