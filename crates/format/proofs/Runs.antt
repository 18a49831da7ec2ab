-- LAWS OF LISTS THAT ARE CUT AND PADDED.
--   drop-take, take_min      a part of a front; a front of a front
--   take-append, drop-append a front, and the rest, of two lists one behind the other
--   take_pad, drop_pad       the same where the second list repeats one value
--   drop_all                 nothing past the end
--   get_or-take_past, get_or_pad a place past a front, and any place where the value behind is what stands past the end
-- Assumes nothing.
use mathlib.Core.List.{List, [], ◌∷◌, ◌++◌}
use mathlib.Core.Path.{◌≡◌, refl, sym, ap, ap₂, ◌∙◌}
use Prim.Native.Nat.{ℕ, zero, suc, ◌+◌, ◌-◌, ◌≤◌, min}
use native.Mathlib.Nat.{zero-sub, sub-zero, suc-sub-suc, suc-min-suc, min-zero, zero-min}
use native.Mathlib.Omega.{arith}
use lib.ListN.{drop, length, take, get_or, length-take, replicate}
use lib.Seq.{take-nil, drop-nil}

module _ {A : Type 0} where
  pub drop-take : (b n : ℕ) (l : List A) → drop b (take n l) ≡ take (n - b) (drop b l)
  drop-take zero n l = ap (λ (k : ℕ). take k l) (sym (sub-zero n))
  drop-take (suc b) zero l = sym (ap (λ (k : ℕ). take k (drop (suc b) l)) (zero-sub (suc b)))
  drop-take (suc b) (suc n) [] = sym (take-nil (suc n - suc b))
  drop-take (suc b) (suc n) (x ∷ xs) = drop-take b n xs ∙ ap (λ (k : ℕ). take k (drop b xs)) (sym (suc-sub-suc n b))

  pub take_min : (a c : ℕ) (l : List A) → take a (take c l) ≡ take (min a c) l
  take_min zero c l = ap (λ (k : ℕ). take k l) (sym (zero-min c))
  take_min (suc a) zero l = ap (λ (k : ℕ). take k l) (sym (min-zero (suc a)))
  take_min (suc a) (suc c) [] = sym (take-nil (min (suc a) (suc c)))
  take_min (suc a) (suc c) (x ∷ xs) = ap (λ (r : List A). x ∷ r) (take_min a c xs) ∙ ap (λ (k : ℕ). take k (x ∷ xs)) (sym (suc-min-suc a c))

  -- a run with j times z behind it, cut
  pub take_pad : (z : A) (k : ℕ) (l : List A) (j : ℕ) → k ≤ length l + j → take k (l ++ replicate j z) ≡ take k l ++ replicate (k - length l) z
  take_pad z zero l j h = ap (λ (n : ℕ). replicate n z) (sym (zero-sub (length l)))
  take_pad z (suc k) [] zero h = absurd (omega arith)
  take_pad z (suc k) [] (suc j) h = ap (λ (r : List A). z ∷ r) (take_pad z k [] j (omega arith) ∙ ap (λ (r : List A). r ++ replicate (k - 0) z) (take-nil k) ∙ ap (λ (n : ℕ). replicate n z) (sub-zero k)) ∙ ap (λ (n : ℕ). replicate n z) (sym (sub-zero (suc k)))
  take_pad z (suc k) (x ∷ xs) j h = ap (λ (r : List A). x ∷ r) (take_pad z k xs j (omega arith)) ∙ ap (λ (n : ℕ). x ∷ take k xs ++ replicate n z) (sym (suc-sub-suc k (length xs)))

  pub drop_pad : (z : A) (b : ℕ) (l : List A) (j : ℕ) → drop b (l ++ replicate j z) ≡ drop b l ++ replicate (j - (b - length l)) z
  drop_pad z zero l j = let e : j ≡ j - (0 - length l) = omega arith in ap (λ (n : ℕ). l ++ replicate n z) e
  drop_pad z (suc b) [] zero = let e : 0 ≡ 0 - (suc b - 0) = omega arith in ap (λ (n : ℕ). replicate n z) e
  drop_pad z (suc b) [] (suc j) =
      let e : j - (b - 0) ≡ suc j - (suc b - 0) = omega arith in
      drop_pad z b [] j ∙ ap (λ (r : List A). r ++ replicate (j - (b - 0)) z) (drop-nil b) ∙ ap (λ (n : ℕ). replicate n z) e
  drop_pad z (suc b) (x ∷ xs) j = drop_pad z b xs j ∙ ap (λ (n : ℕ). drop b xs ++ replicate (j - n) z) (sym (suc-sub-suc b (length xs)))

  pub take-append : (n : ℕ) (xs ys : List A) → take n (xs ++ ys) ≡ take n xs ++ take (n - length xs) ys
  take-append n [] ys = ap₂ (λ (k : ℕ) (r : List A). r ++ take k ys) (sym (sub-zero n)) (sym (take-nil n))
  take-append zero (x ∷ xs) ys = ap (λ (k : ℕ). take k ys) (sym (zero-sub (suc (length xs))))
  take-append (suc n) (x ∷ xs) ys = ap (λ (r : List A). x ∷ r) (take-append n xs ys) ∙ ap (λ (k : ℕ). x ∷ take n xs ++ take k ys) (sym (suc-sub-suc n (length xs)))

  pub drop-append : (n : ℕ) (xs ys : List A) → drop n (xs ++ ys) ≡ drop n xs ++ drop (n - length xs) ys
  drop-append n [] ys = ap₂ (λ (k : ℕ) (r : List A). r ++ drop k ys) (sym (sub-zero n)) (sym (drop-nil n))
  drop-append zero (x ∷ xs) ys = ap (λ (k : ℕ). x ∷ xs ++ drop k ys) (sym (zero-sub (suc (length xs))))
  drop-append (suc n) (x ∷ xs) ys = drop-append n xs ys ∙ ap (λ (k : ℕ). drop n xs ++ drop k ys) (sym (suc-sub-suc n (length xs)))

  pub drop_all : (n : ℕ) (l : List A) → length l ≤ n → drop n l ≡ []
  drop_all n [] h = drop-nil n
  drop_all zero (x ∷ xs) h = absurd (omega arith)
  drop_all (suc n) (x ∷ xs) h = drop_all n xs (omega arith)

  get_or_past : (l : List A) (i : ℕ) (d : A) → length l ≤ i → get_or l i d ≡ d
  get_or_past [] i d h = refl
  get_or_past (x ∷ xs) zero d h = absurd (omega arith)
  get_or_past (x ∷ xs) (suc i) d h = get_or_past xs i d (omega arith)

  pub get_or-take_past : (n i : ℕ) (l : List A) (d : A) → n ≤ i → get_or (take n l) i d ≡ d
  get_or-take_past n i l d h = get_or_past (take n l) i d (omega (arith, length-take n l))

  pub get_or_pad : (c : List A) (k i : ℕ) (z : A) → get_or (c ++ replicate k z) i z ≡ get_or c i z
  get_or_pad [] zero i z = refl
  get_or_pad [] (suc k) zero z = refl
  get_or_pad [] (suc k) (suc i) z = get_or_pad [] k i z
  get_or_pad (x ∷ c) k zero z = refl
  get_or_pad (x ∷ c) k (suc i) z = get_or_pad c k i z
