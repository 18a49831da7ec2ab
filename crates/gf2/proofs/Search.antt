-- SEARCHES AND TESTS: a search over the parts of a list finds one that passes, or none passes; a test over the assignments of 1 .. n passes all, or one fails.
--   and_both .. eqb_other      tests and what they say
--   agree_same, same_agree     equal coefficients, as a test
--   every_true, every_false    all assignments
--   from_..                    listings
-- Assumes nothing.
use mathlib.Core.Path.{◌≡◌, refl, sym, ap, ◌∙◌}
use mathlib.Core.Bool.{Bool, true, false, not, ◌&&◌, cond, beq, true≢false, false≢true}
use mathlib.Core.Option.{Option, none, some}
use mathlib.Core.List.{List, [], ◌∷◌}
use mathlib.Core.Logic.{◌⊎◌, inl, inr, ◌≢◌}
use lib.Dec.{T, eqb, eqb→eq, eqb_refl}
use Prim.Native.Nat.{ℕ, zero, suc, ◌+◌, ◌<◌, ◌≤◌}
use native.Mathlib.Omega.{arith}
use Rattle.gf2.specs.Field.{same}
use Rattle.gf2.specs.Lists.{◌∈◌, All, Part, stop, take, skip, Ascending}
use Rattle.gf2.specs.Rows.{Var, Row, Assignment, SameCoefs}
use Rattle.gf2.proofs.Sums.{same_refl, same_ne, same_dec}
use Rattle.gf2.proofs.Brute.{put, give, or_else, put_first, find_part, all_pass, agree, every, add_if, listing_from, member}

-- ---- tests
pub and_both : (a b : Bool) → a && b ≡ true → (a ≡ true) × (b ≡ true)
and_both true b h = (refl, h)
and_both false b h = absurd (false≢true h)

pub both_and : (a b : Bool) → a ≡ true → b ≡ true → a && b ≡ true
both_and a b h k = rw (h, k)

pub beq_eq : (a b : Bool) → beq a b ≡ true → a ≡ b
beq_eq true true h = refl
beq_eq true false h = sym h
beq_eq false true h = h
beq_eq false false h = refl

pub beq_same : (a b : Bool) → a ≡ b → beq a b ≡ true
beq_same true true h = refl
beq_same true false h = sym h
beq_same false true h = h
beq_same false false h = refl

pub not_true : (a : Bool) → not a ≡ true → a ≡ false
not_true true h = sym h
not_true false h = refl

pub eqb_true : (x y : ℕ) → eqb x y ≡ true → x ≡ y
eqb_true x y h = eqb→eq x y (rw h tt)

pub test_true : (b : Bool) → T b → b ≡ true
test_true true t = refl
test_true false t = absurd t

pub eqb_same : (x y : ℕ) → x ≡ y → eqb x y ≡ true
eqb_same x y h = rw h (test_true (eqb y y) (eqb_refl y))

pub eqb_other : (x y : ℕ) → x ≢ y → eqb x y ≡ false
eqb_other x y h = go (eqb x y) refl
  where
    go : (b : Bool) → eqb x y ≡ b → eqb x y ≡ false
    go true e = absurd (h (eqb_true x y e))
    go false e = e

-- ---- parts
module _ {A : Type 0} where
  abbrev pub Found : (List A → Bool) → List A → Option (List A) → Type 0
  Found t xs none = (ps : List A) → Part ps xs → t ps ≡ false
  Found t xs (some ps) = Part ps xs × (t ps ≡ true)

  none_nil : (t : List A → Bool) → t [] ≡ false → (ps xs : List A) → xs ≡ [] → Part ps xs → t ps ≡ false
  none_nil t h ps xs e stop = h
  none_nil t h ps xs e (take {x = x} {ps = qs} {xs = ys} q) = let z : ◌≡◌ {A = ℕ} 0 1 = cc in absurd (omega arith)
  none_nil t h ps xs e (skip {x = x} {xs = ys} q) = let z : ◌≡◌ {A = ℕ} 0 1 = cc in absurd (omega arith)

  none_cons : (t : List A → Bool) (x : A) (xs : List A) → ((ps : List A) → Part ps xs → t ps ≡ false) → ((ps : List A) → Part ps xs → t (x ∷ ps) ≡ false)
      → (ps : List A) → Part ps (x ∷ xs) → t ps ≡ false
  none_cons t x xs f g ps (take q) = g _ q
  none_cons t x xs f g ps (skip q) = f ps q

  pub found : (t : List A → Bool) (xs : List A) → Found t xs (find_part t xs)
  unfolding find_part
  found t [] = go (t []) refl
    where
      go : (b : Bool) → t [] ≡ b → Found t [] (give b [])
      go true e = (stop, e)
      go false e = λ ps q. none_nil t e ps [] refl q
  found t (x ∷ xs) = go (find_part t xs) (find_part (λ ps. t (x ∷ ps)) xs) (found t xs) (found (λ ps. t (x ∷ ps)) xs)
    where
      go : (o q : Option (List A)) → Found t xs o → Found (λ ps. t (x ∷ ps)) xs q → Found t (x ∷ xs) (or_else o (put_first x q))
      go (some ps) q f g = (skip f.0, f.1)
      go none (some ps) f g = (take g.0, g.1)
      go none none f g = λ ps q. none_cons t x xs f g ps q

  pub all_pass_true : (t : A → Bool) (P : A → Type 0) → ((x : A) → t x ≡ true → P x) → (xs : List A) → all_pass t xs ≡ true → All P xs
  unfolding all_pass
  all_pass_true t P f [] h = tt
  all_pass_true t P f (x ∷ xs) h = let k = and_both (t x) (all_pass t xs) h in (f x k.0, all_pass_true t P f xs k.1)

  pub pass_all : (t : A → Bool) (P : A → Type 0) → ((x : A) → P x → t x ≡ true) → (xs : List A) → All P xs → all_pass t xs ≡ true
  unfolding all_pass
  pass_all t P f [] h = refl
  pass_all t P f (x ∷ xs) h = both_and (t x) (all_pass t xs) (f x h.0) (pass_all t P f xs h.1)

-- ---- coefficients
pub below : (n v : ℕ) → Var (suc n) v → v ≢ suc n → Var n v
below n v m ne = let k = m.high in record { low = m.low; high = omega arith }

pub above : (n v : ℕ) → Var n v → Var (suc n) v
above n v m = let k = m.high in record { low = m.low; high = omega arith }

pub top : (n : ℕ) → Var (suc n) (suc n)
top n = record { low = omega arith; high = omega arith }

pub no_var : (v : ℕ) → Var 0 v → ⊥
no_var v m = let l = m.low in let k = m.high in omega arith

pub agree_same : (n : ℕ) (c d : Row) → agree n c d ≡ true → SameCoefs n c d
unfolding agree
agree_same zero c d h v m = absurd (no_var v m)
agree_same (suc n) c d h v m = go (and_both (beq (c (suc n)) (d (suc n))) (agree n c d) h) (λ k. agree_same n c d k v) (same_dec v (suc n))
  where
    go : (beq (c (suc n)) (d (suc n)) ≡ true) × (agree n c d ≡ true) → (agree n c d ≡ true → Var n v → c v ≡ d v) → (v ≡ suc n) ⊎ (v ≢ suc n) → c v ≡ d v
    go k rest (inl e) = rw e (beq_eq (c (suc n)) (d (suc n)) k.0)
    go k rest (inr ne) = rest k.1 (below n v m ne)

pub same_agree : (n : ℕ) (c d : Row) → SameCoefs n c d → agree n c d ≡ true
unfolding agree
same_agree zero c d h = refl
same_agree (suc n) c d h =
    both_and (beq (c (suc n)) (d (suc n))) (agree n c d) (beq_same (c (suc n)) (d (suc n)) (h (suc n) (top n))) (same_agree n c d (λ v m. h v (above n v m)))

-- ---- assignments
-- a on the variables 1 .. n, and false elsewhere
unfoldable pub trim : ℕ → Assignment → Assignment
trim zero a = λ v. false
trim (suc n) a = put (suc n) (a (suc n)) (trim n a)

pub trim_same : (n : ℕ) (a : Assignment) (v : ℕ) → Var n v → trim n a v ≡ a v
unfolding trim
trim_same zero a v m = absurd (no_var v m)
trim_same (suc n) a v m = go (trim_same n a v) (same_dec v (suc n))
  where
    go : (Var n v → trim n a v ≡ a v) → (v ≡ suc n) ⊎ (v ≢ suc n) → cond (same (suc n) v) (a (suc n)) (trim n a v) ≡ a v
    go rest (inl e) = rw (e, same_refl n)
    go rest (inr ne) = rw (same_ne (suc n) v (λ e. ne (sym e))) (rest (below n v m ne))

pub trim_outside : (n : ℕ) (a : Assignment) (v : ℕ) → (Var n v → ⊥) → trim n a v ≡ false
unfolding trim
trim_outside zero a v h = refl
trim_outside (suc n) a v h = go (trim_outside n a v (λ m. h (above n v m))) (same_dec v (suc n))
  where
    go : trim n a v ≡ false → (v ≡ suc n) ⊎ (v ≢ suc n) → cond (same (suc n) v) (a (suc n)) (trim n a v) ≡ false
    go rest (inl e) = absurd (h (rw e (top n)))
    go rest (inr ne) = rw (same_ne (suc n) v (λ e. ne (sym e))) rest

pub every_true : (n : ℕ) (t : Assignment → Bool) → every n t ≡ true → (a : Assignment) → t (trim n a) ≡ true
unfolding every trim
every_true zero t h a = h
every_true (suc n) t h a = go (and_both (every n (λ b. t (put (suc n) true b))) (every n (λ b. t (put (suc n) false b))) h) (λ x k. every_true n (λ b. t (put (suc n) x b)) k a) (a (suc n))
  where
    go : (every n (λ b. t (put (suc n) true b)) ≡ true) × (every n (λ b. t (put (suc n) false b)) ≡ true)
        → ((x : Bool) → every n (λ b. t (put (suc n) x b)) ≡ true → t (put (suc n) x (trim n a)) ≡ true) → (x : Bool) → t (put (suc n) x (trim n a)) ≡ true
    go k rest true = rest true k.0
    go k rest false = rest false k.1

pub every_false : (n : ℕ) (t : Assignment → Bool) → every n t ≡ false → (a : Assignment) × (t a ≡ false)
unfolding every
every_false zero t h = (λ v. false, h)
every_false (suc n) t h = go (λ x k. every_false n (λ b. t (put (suc n) x b)) k) (every n (λ b. t (put (suc n) true b))) refl (every n (λ b. t (put (suc n) false b))) refl
  where
    go : ((x : Bool) → every n (λ b. t (put (suc n) x b)) ≡ false → (a : Assignment) × (t (put (suc n) x a) ≡ false))
        → (x : Bool) → every n (λ b. t (put (suc n) true b)) ≡ x → (y : Bool) → every n (λ b. t (put (suc n) false b)) ≡ y → (a : Assignment) × (t a ≡ false)
    go rest false e y f = let w = rest true e in (put (suc n) true w.0, w.1)
    go rest true e false f = let w = rest false f in (put (suc n) false w.0, w.1)
    go rest true e true f = absurd (true≢false (sym (both_and (every n (λ b. t (put (suc n) true b))) (every n (λ b. t (put (suc n) false b))) e f) ∙ h))

-- ---- listings
add_if_all : (P : ℕ → Type 0) (b : Bool) (k : ℕ) (xs : List ℕ) → P k → All P xs → All P (add_if b k xs)
add_if_all P true k xs h r = (h, r)
add_if_all P false k xs h r = r

pub from_low : (k j : ℕ) (t : ℕ → Bool) (m : ℕ) → m ≤ k → All (λ x. m ≤ x) (listing_from k j t)
unfolding listing_from
from_low k zero t m h = tt
from_low k (suc j) t m h = add_if_all (λ x. m ≤ x) (t k) k (listing_from (suc k) j t) h (from_low (suc k) j t m (omega arith))

add_if_ascending : (b : Bool) (k : ℕ) (xs : List ℕ) → All (λ x. k < x) xs → Ascending xs → Ascending (add_if b k xs)
add_if_ascending true k xs h r = (h, r)
add_if_ascending false k xs h r = r

pub from_ascending : (k j : ℕ) (t : ℕ → Bool) → Ascending (listing_from k j t)
unfolding listing_from
from_ascending k zero t = tt
from_ascending k (suc j) t = add_if_ascending (t k) k (listing_from (suc k) j t) (from_low (suc k) j t (suc k) (omega arith)) (from_ascending (suc k) j t)

pub from_sound : (k j : ℕ) (t : ℕ → Bool) (x : ℕ) → x ∈ listing_from k j t → (k ≤ x) × (x < k + j) × (t x ≡ true)
unfolding listing_from
from_sound k zero t x m = absurd m
from_sound k (suc j) t x m = go (λ h. from_sound (suc k) j t x h) (t k) refl m
  where
    later : (suc k ≤ x) × (x < suc k + j) × (t x ≡ true) → (k ≤ x) × (x < k + suc j) × (t x ≡ true)
    later w = (omega arith, omega arith, w.2)

    go : (x ∈ listing_from (suc k) j t → (suc k ≤ x) × (x < suc k + j) × (t x ≡ true)) → (b : Bool) → t k ≡ b → x ∈ add_if b k (listing_from (suc k) j t)
        → (k ≤ x) × (x < k + suc j) × (t x ≡ true)
    go rest true e (inl q) = (omega arith, omega arith, rw q e)
    go rest true e (inr h) = later (rest h)
    go rest false e h = later (rest h)

pub from_complete : (k j : ℕ) (t : ℕ → Bool) (x : ℕ) → k ≤ x → x < k + j → t x ≡ true → x ∈ listing_from k j t
unfolding listing_from
from_complete k zero t x l h e = absurd (let z : x < x = omega arith in omega arith)
from_complete k (suc j) t x l h e = go (λ y z. from_complete (suc k) j t x y z e) (same_dec x k) (t k) refl
  where
    go : (suc k ≤ x → x < suc k + j → x ∈ listing_from (suc k) j t) → (x ≡ k) ⊎ (x ≢ k) → (b : Bool) → t k ≡ b → x ∈ add_if b k (listing_from (suc k) j t)
    go rest (inl q) true f = inl q
    go rest (inl q) false f = absurd (true≢false (sym e ∙ ap t q ∙ f))
    go rest (inr q) true f = inr (rest (omega arith) (omega arith))
    go rest (inr q) false f = rest (omega arith) (omega arith)

pub member_true : (x : ℕ) (xs : List ℕ) → member x xs ≡ true → x ∈ xs
member_true x [] h = absurd (false≢true h)
member_true x (y ∷ ys) h = go (member_true x ys) (eqb x y) refl h
  where
    go : (member x ys ≡ true → x ∈ ys) → (b : Bool) → eqb x y ≡ b → cond b true (member x ys) ≡ true → (x ≡ y) ⊎ (x ∈ ys)
    go rest true e k = inl (eqb_true x y e)
    go rest false e k = inr (rest k)

pub true_member : (x : ℕ) (xs : List ℕ) → x ∈ xs → member x xs ≡ true
true_member x [] m = absurd m
true_member x (y ∷ ys) m = go (true_member x ys) (eqb x y) refl m
  where
    go : (x ∈ ys → member x ys ≡ true) → (b : Bool) → eqb x y ≡ b → (x ≡ y) ⊎ (x ∈ ys) → cond b true (member x ys) ≡ true
    go rest true e k = refl
    go rest false e (inl q) = absurd (true≢false (sym (eqb_same x y q) ∙ e))
    go rest false e (inr k) = rest k
