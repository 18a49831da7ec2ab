-- ROWS AND THEIR SUMS: linear in the row and in the assignment.
--   vsum n f          f 1 ⊕ f 2 ⊕ … ⊕ f n
--   find_var          some variable has P, or all have Q
--   row_.., value_..  the sum of a row, as a function of the row and of the assignment
--   total_..          the sum of a list of rows: it holds wherever they do
-- Assumes nothing.
use mathlib.Core.Path.{◌≡◌, refl, sym, ap, ap₂, ◌∙◌}
use mathlib.Core.Bool.{Bool, true, false, ◌&&◌, and_comm, and_assoc}
use mathlib.Core.List.{List, [], ◌∷◌, ◌++◌}
use mathlib.Core.Logic.{◌⊎◌, inl, inr}
use Prim.Native.Nat.{ℕ, zero, suc, ◌<◌}
use native.Mathlib.Nat.{not-suc-le-zero, zero-lt-suc}
use Rattle.gf2.specs.Field.{◌⊕◌, xsum, same}
use Rattle.gf2.specs.Lists.{All, Part, stop, take, skip}
use Rattle.gf2.specs.Rows.{Var, Row, Assignment, row_sum, Holds, Rows, total, SameCoefs}
use Rattle.gf2.proofs.Field.{and_xor, xor_and, xor_assoc}
use Rattle.gf2.proofs.Sums.{sum_cong, sum_false, sum_xor, sum_and, sum_one, find}

abbrev pub vsum : ℕ → (ℕ → Bool) → Bool
vsum n f = xsum n (λ i. f (suc i))

pub vsum_cong : (n : ℕ) (f g : ℕ → Bool) → ((v : ℕ) → Var n v → f v ≡ g v) → vsum n f ≡ vsum n g
vsum_cong n f g h = sum_cong n (λ i. f (suc i)) (λ i. g (suc i)) (λ i l. h (suc i) (record { low = zero-lt-suc i; high = l }))

pub vsum_one : (n v : ℕ) (f : ℕ → Bool) → Var n v → vsum n (λ u. same v u && f u) ≡ f v
vsum_one n zero f h = absurd (not-suc-le-zero h.low)
vsum_one n (suc v) f h = sum_one n v (λ i. f (suc i)) h.high

-- Each variable has P or Q: some variable has P, or all have Q.
pub find_var : (P Q : ℕ → Type 0) (n : ℕ) → ((v : ℕ) → Var n v → P v ⊎ Q v) → ((v : ℕ) × Var n v × P v) ⊎ ((v : ℕ) → Var n v → Q v)
find_var P Q n f = go (find (λ i. P (suc i)) (λ i. Q (suc i)) n (λ i l. f (suc i) (record { low = zero-lt-suc i; high = l })))
  where
    all : ((i : ℕ) → i < n → Q (suc i)) → (v : ℕ) → Var n v → Q v
    all h zero m = absurd (not-suc-le-zero m.low)
    all h (suc v) m = h v m.high

    go : ((i : ℕ) × (i < n) × P (suc i)) ⊎ ((i : ℕ) → i < n → Q (suc i)) → ((v : ℕ) × Var n v × P v) ⊎ ((v : ℕ) → Var n v → Q v)
    go (inl w) = inl (suc w.0, record { low = zero-lt-suc w.0; high = w.1 }, w.2)
    go (inr h) = inr (all h)

module _ (n : ℕ) where
  pub row_cong : (c d : Row) (a : Assignment) → SameCoefs n c d → row_sum n c a ≡ row_sum n d a
  unfolding row_sum
  row_cong c d a h = vsum_cong n _ _ (λ v l. ap (λ (x : Bool). x && a v) (h v l))

  pub value_cong : (c : Row) (a b : Assignment) → ((v : ℕ) → Var n v → a v ≡ b v) → row_sum n c a ≡ row_sum n c b
  unfolding row_sum
  value_cong c a b h = vsum_cong n _ _ (λ v l. ap (λ (x : Bool). c v && x) (h v l))

  -- only the variables of the row count
  pub value_cong_on : (c : Row) (a b : Assignment) → ((v : ℕ) → Var n v → c v ≡ true → a v ≡ b v) → row_sum n c a ≡ row_sum n c b
  unfolding row_sum
  value_cong_on c a b h = vsum_cong n _ _ (λ v l. go v l (c v) refl)
    where
      go : (v : ℕ) → Var n v → (x : Bool) → c v ≡ x → x && a v ≡ x && b v
      go v l true e = h v l e
      go v l false e = refl

  pub row_xor : (c d : Row) (a : Assignment) → row_sum n (λ v. c v ⊕ d v) a ≡ row_sum n c a ⊕ row_sum n d a
  unfolding row_sum
  row_xor c d a = simp (xor_and, sum_xor)

  pub value_xor : (c : Row) (a b : Assignment) → row_sum n c (λ v. a v ⊕ b v) ≡ row_sum n c a ⊕ row_sum n c b
  unfolding row_sum
  value_xor c a b = simp (and_xor, sum_xor)

  pub row_and : (b : Bool) (c : Row) (a : Assignment) → row_sum n (λ v. b && c v) a ≡ b && row_sum n c a
  unfolding row_sum
  row_and b c a = simp (and_assoc, sum_and)

  pub row_zero : (a : Assignment) → row_sum n (λ v. false) a ≡ false
  unfolding row_sum
  row_zero a = sum_false n

  -- an assignment that gives 1 to one variable only
  pub value_one : (c : Row) (v : ℕ) → Var n v → row_sum n c (same v) ≡ c v
  unfolding row_sum
  value_one c v h = vsum_cong n _ _ (λ u l. and_comm (c u) (same v u)) ∙ vsum_one n v c h

  pub row_one : (v : ℕ) (a : Assignment) → Var n v → row_sum n (same v) a ≡ a v
  unfolding row_sum
  row_one v a h = vsum_one n v a h

  -- a sum of rows that hold, holds
  pub total_holds : (ps : Rows) (a : Assignment) → All (λ c. Holds n c.row a) ps → Holds n (total ps) a
  unfolding total
  total_holds [] a h = row_zero a
  total_holds (c ∷ cs) a h = row_xor c.row (total cs) a ∙ ap₂ ◌⊕◌ h.0 (total_holds cs a h.1)

pub part_all : {A : Type 0} (P : A → Type 0) (ps xs : List A) → Part ps xs → All P xs → All P ps
part_all P ps xs stop h = tt
part_all P ps xs (take {ps = qs} {xs = ys} q) h = (h.0, part_all P qs ys q h.1)
part_all P ps xs (skip {xs = ys} q) h = part_all P ps ys q h.1

pub total_append : (ps qs : Rows) (v : ℕ) → total (ps ++ qs) v ≡ total ps v ⊕ total qs v
unfolding total
total_append [] qs v = refl
total_append (c ∷ cs) qs v = ap (λ (x : Bool). c.row v ⊕ x) (total_append cs qs v) ∙ sym (xor_assoc (c.row v) (total cs v) (total qs v))
