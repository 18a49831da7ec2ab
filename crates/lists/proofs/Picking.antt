-- A SCAN LISTS WHAT A TEST PICKS: one law for every list that answers.
--   Grows l p g                   the list l i of what was picked at the places below i: at each, if p picks it, one item more, which g gives
--   scanned_grows, numbers_grows  the lists over variables and over rows
--   passed, grown                 where nothing is picked the list stays; it grows, by at most one item a place
--   few, gap                      it has at most as many items as places; one fewer where one place is not picked
--   joined                        a list of the places from base on, after the list of those below
--   same_picked                   tests that pick the same places make the same list
--   listed_none, listed_one       a list of nothing, and of one item, in the buffer
--   listed_join                   a list after a list
--   listed_cons                   an item before a list that starts at place 1
--   listed_take                   the used part of the buffer is the list
-- Assumes nothing.
use mathlib.Core.Path.{◌≡◌, refl, sym, ap, ap₂, ◌∙◌}
use mathlib.Core.List.{List, [], ◌∷◌, ◌++◌, append-nil, append_assoc}
use mathlib.Core.Bool.{Bool, true, false}
use mathlib.Core.Logic.{◌⊎◌, inl, inr}
use Prim.Native.Nat.{ℕ, zero, suc, ◌+◌, ◌-◌, ◌<◌, ◌≤◌}
use native.Mathlib.Nat.{not-suc-le-zero, add-zero, zero-add}
use native.Mathlib.Decide.{dec_lt}
use native.Mathlib.Omega.{arith}
use lib.ListN.{length, get_or, set, take, length-set, length-append, length-take, get_or-append}
use lib.Seq.{get_or-set_same, get_or-set_other, get_or-append-add, get_or-take, ext_get_or}
use Rattle.gf2.specs.Answers.{code}
use Rattle.gf2.specs.Places.{listed_if, scanned}
use Rattle.lists.specs.Listing.{numbers, ListPut}

-- ---- the list of a scan
pub record Grows (l : ℕ → List ℕ) (p : ℕ → Bool) (g : ℕ → ℕ) : Type 0 where
  pub none : l 0 ≡ []
  pub more : (i : ℕ) → l (suc i) ≡ l i ++ listed_if (p i) (g i)

pub scanned_grows : (t f : ℕ → Bool) → Grows (λ k. scanned k t f) (λ i. t (suc i)) (λ i. code (suc i) (f (suc i)))
unfolding scanned
scanned_grows t f = record { none = refl; more = λ i. refl }

pub numbers_grows : (t : ℕ → Bool) → Grows (λ k. numbers k t) t suc
unfolding numbers
numbers_grows t = record { none = refl; more = λ i. refl }

one_few : (b : Bool) (x : ℕ) → length (listed_if b x) ≤ 1
one_few true x = omega arith
one_few false x = omega arith

one_same : (b : Bool) (x y : ℕ) → (b ≡ true → x ≡ y) → listed_if b x ≡ listed_if b y
one_same true x y h = ap (λ (z : ℕ). z ∷ []) (h refl)
one_same false x y h = refl

between : (u k : ℕ) → u ≤ k → u + (k - u) ≡ k
between u k b = omega arith

module _ {l : ℕ → List ℕ} {p : ℕ → Bool} {g : ℕ → ℕ} (h : Grows l p g) where
  next : (u d : ℕ) → l (u + suc d) ≡ l (u + d) ++ listed_if (p (u + d)) (g (u + d))
  next u d = let e : u + suc d ≡ suc (u + d) = omega arith in ap l e ∙ h.more (u + d)

  pub passed : (u k : ℕ) → u ≤ k → ((i : ℕ) → u ≤ i → i < k → p i ≡ false) → l k ≡ l u
  passed u k b q = ap l (sym (between u k b)) ∙ go (k - u) (omega arith)
    where
      go : (d : ℕ) → u + d ≤ k → l (u + d) ≡ l u
      go zero m = ap l (add-zero u)
      go (suc d) m =
          next u d ∙ ap (λ (z : Bool). l (u + d) ++ listed_if z (g (u + d))) (q (u + d) (omega arith) (omega arith))
          ∙ append-nil (l (u + d)) ∙ go d (omega arith)

  -- by one item a place at most
  grown_by : (u d : ℕ) → (length (l u) ≤ length (l (u + d))) × (length (l (u + d)) ≤ length (l u) + d)
  grown_by u zero = let e = ap (λ (k : ℕ). length (l k)) (add-zero u) in (omega arith, omega arith)
  grown_by u (suc d) =
      let e = ap length (next u d) ∙ length-append (l (u + d)) (listed_if (p (u + d)) (g (u + d))) in
      let f = grown_by u d in
      (omega (arith, f.0), omega (arith, f.1, one_few (p (u + d)) (g (u + d))))

  pub grown : (u k : ℕ) → u ≤ k → (length (l u) ≤ length (l k)) × (length (l k) ≤ length (l u) + (k - u))
  grown u k b = rw (between u k b) at (grown_by u (k - u))

  pub few : (n : ℕ) → length (l n) ≤ n
  few n = let e : length (l 0) ≡ 0 = ap length h.none in omega (arith, (grown 0 n (omega arith)).1)

  pub gap : (v n : ℕ) → v < n → p v ≡ false → length (l n) < n
  gap v n m q =
      let e : length (l (suc v)) ≡ length (l v) = ap length (h.more v ∙ ap (λ (b : Bool). l v ++ listed_if b (g v)) q ∙ append-nil (l v)) in
      omega (arith, (grown (suc v) n m).1, few v)

  pub joined : {m : ℕ → List ℕ} {q : ℕ → Bool} {k : ℕ → ℕ} → Grows m q k → (base d : ℕ)
      → ((i : ℕ) → i < d → p (base + i) ≡ q i) → ((i : ℕ) → i < d → q i ≡ true → g (base + i) ≡ k i) → l (base + d) ≡ l base ++ m d
  joined {m} {q} {k} o base zero a b = ap l (add-zero base) ∙ sym (ap (λ (x : List ℕ). l base ++ x) o.none ∙ append-nil (l base))
  joined {m} {q} {k} o base (suc d) a b =
      next base d
      ∙ ap₂ (λ (x y : List ℕ). x ++ y) (joined o base d (λ i z. a i (omega arith)) (λ i z. b i (omega arith)))
      (ap (λ (x : Bool). listed_if x (g (base + d))) (a d (omega arith)) ∙ one_same (q d) (g (base + d)) (k d) (b d (omega arith)))
      ∙ append_assoc (l base) (m d) (listed_if (q d) (k d))
      ∙ ap (λ (x : List ℕ). l base ++ x) (sym (o.more d))

-- two tests that pick the same places, with the same items
pub same_picked : {l m : ℕ → List ℕ} {p q : ℕ → Bool} {g k : ℕ → ℕ} → Grows l p g → Grows m q k → (n : ℕ)
    → ((i : ℕ) → i < n → p i ≡ q i) → ((i : ℕ) → i < n → p i ≡ true → g i ≡ k i) → l n ≡ m n
same_picked h o zero a b = h.none ∙ sym o.none
same_picked {l} {m} {p} {q} {g} {k} h o (suc n) a b =
    h.more n
    ∙ ap₂ (λ (x y : List ℕ). x ++ y) (same_picked h o n (λ i z. a i (omega arith)) (λ i z. b i (omega arith)))
    (one_same (p n) (g n) (k n) (b n (omega arith)) ∙ ap (λ (x : Bool). listed_if x (k n)) (a n (omega arith)))
    ∙ sym (o.more n)

-- ---- lists in the buffer
pub listed_none : (most at : ℕ) (out : List ℕ) → at ≤ most → ListPut most at [] out out at
listed_none most at out m = record { count = sym (add-zero at); few = m; long = refl; used = λ i h. absurd (not-suc-le-zero h); rest = λ i h. refl }

pub listed_one : (c x : ℕ) (o : List ℕ) → c < length o → ListPut (length o) c (x ∷ []) o (set o c x) (c + 1)
listed_one c x o m = record { count = refl; few = omega arith; long = length-set o c x; used = used; rest = rest }
  where
    used : (i : ℕ) → i < 1 → get_or (set o c x) (c + i) 0 ≡ get_or (x ∷ []) i 0
    used zero z = ap (λ (k : ℕ). get_or (set o c x) k 0) (add-zero c) ∙ get_or-set_same o c x 0 m
    used (suc i) z = absurd (omega arith)

    rest : (i : ℕ) → (i < c) ⊎ (c + 1 ≤ i) → get_or (set o c x) i 0 ≡ get_or o i 0
    rest i (inl z) = get_or-set_other o c i x 0 (λ (e : i ≡ c). absurd (omega arith))
    rest i (inr z) = get_or-set_other o c i x 0 (λ (e : i ≡ c). absurd (omega arith))

pub listed_join : (n most at c x : ℕ) (l m out o o' : List ℕ) → ListPut n at l out o c → ListPut most c m o o' x → at + length (l ++ m) ≤ n
    → ListPut n at (l ++ m) out o' x
listed_join n most at c x l m out o o' h k room =
    let len = length-append l m in
    record { count = omega arith; few = omega arith; long = k.long ∙ h.long; used = λ i z. used i z (dec_lt i (length l)); rest = rest }
  where
    first : c ≡ at + length l
    first = h.count

    second : x ≡ c + length m
    second = k.count

    used : (i : ℕ) → i < length (l ++ m) → Dec (i < length l) → get_or o' (at + i) 0 ≡ get_or (l ++ m) i 0
    used i z (yes y) = k.rest (at + i) (inl (omega (arith, first))) ∙ h.used i y ∙ sym (get_or-append l m 0 i y)
    used i z (no y) =
        let e : at + i ≡ c + (i - length l) = omega (arith, first) in
        let f : i ≡ length l + (i - length l) = omega arith in
        ap (λ (j : ℕ). get_or o' j 0) e
        ∙ k.used (i - length l) (omega (arith, length-append l m))
        ∙ sym (ap (λ (j : ℕ). get_or (l ++ m) j 0) f ∙ get_or-append-add l m (i - length l) 0)

    rest : (i : ℕ) → (i < at) ⊎ (x ≤ i) → get_or o' i 0 ≡ get_or out i 0
    rest i (inl z) = k.rest i (inl (omega (arith, first))) ∙ h.rest i (inl z)
    rest i (inr z) = k.rest i (inr z) ∙ h.rest i (inr (omega (arith, second)))

pub listed_cons : (most : ℕ) (l out o : List ℕ) (x y : ℕ) → 0 < length out → ListPut most 1 l (set out 0 y) o x → ListPut most 0 (y ∷ l) out o x
listed_cons most l out o x y pos h =
    record {
      count = let e = h.count in count (length l) x e;
      few = h.few;
      long = h.long ∙ length-set out 0 y;
      used = used;
      rest = rest;
    }
  where
    count : (a b : ℕ) → b ≡ 1 + a → b ≡ 0 + suc a
    count a b e = omega arith

    used : (i : ℕ) → i < suc (length l) → get_or o (0 + i) 0 ≡ get_or (y ∷ l) i 0
    used zero li = h.rest 0 (inl (omega arith)) ∙ get_or-set_same out 0 y 0 pos
    used (suc i) li = let e : 0 + suc i ≡ 1 + i = omega arith in ap (λ (k : ℕ). get_or o k 0) e ∙ h.used i (omega arith)

    rest : (i : ℕ) → (i < 0) ⊎ (x ≤ i) → get_or o i 0 ≡ get_or out i 0
    rest i (inl li) = absurd (not-suc-le-zero li)
    rest i (inr li) = h.rest i (inr li) ∙ get_or-set_other out 0 i y 0 (λ (z : i ≡ 0). let e = h.count in absurd (omega arith))

pub listed_take : (most : ℕ) (l out o : List ℕ) (x : ℕ) → ListPut most 0 l out o x → most ≤ length out → take x o ≡ l
listed_take most l out o x h big =
    let e = h.count in
    let f = h.few in
    let g = h.long in
    let len : length (take x o) ≡ length l = simp length-take (omega arith) in
    ext_get_or 0 (take x o) l len
    (λ i li. let z : i < length l = omega arith in
    let q : i < x = omega arith in
    get_or-take x o i 0 q ∙ ap (λ (k : ℕ). get_or o k 0) (sym (zero-add i)) ∙ h.used i z)
