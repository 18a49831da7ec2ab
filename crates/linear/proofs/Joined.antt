-- THE JOIN of the engine and the definitions: what a made state knows is what its position implies.
--   all_codes, solves_iff, implied_iff   satisfied and implied, by places and by lists
--   made_values                          the values of a made state are those of its position (gf2, Values)
--   made_solution                        and some assignment solves it
--   codes_length, codes_same, codes_fewer   how many; by equal literals; the first d of them
-- Assumes nothing.
use mathlib.Core.Path.{◌≡◌, refl, sym, ap, ◌∙◌}
use mathlib.Core.Bool.{Bool}
use mathlib.Core.Logic.{◌⊎◌, inl, inr, ◌≢◌, ◌↔◌}
use mathlib.Core.List.{List, [], ◌∷◌, ◌++◌}
use lib.ListN.{length, take, length-append}
use lib.Seq.{take_all, take-append-le}
use Prim.Native.Nat.{ℕ, zero, suc, ◌<◌, ◌≤◌}
use native.Mathlib.Nat.{not-suc-le-zero}
use native.Mathlib.Omega.{arith}
use Rattle.gf2.specs.Lists.{◌∈◌, All}
use Rattle.gf2.specs.Rows.{Row, Assignment, Holds}
use Rattle.gf2.specs.Answers.{code, Has, Solves, Implied}
use Rattle.gf2.proofs.Sums.{same_dec}
use Rattle.gf2.proofs.Literals.{code_variable, code_value}
use Rattle.gf2.proofs.Decide.{all_append}
use Rattle.gf2.proofs.Reach.{all_left, all_right}
use Rattle.gf2.proofs.Chosen.{placed_all}
use Rattle.gf2.proofs.Values.{Values}
use Rattle.linear.specs.Systems as by_place
use Rattle.linear.specs.Systems.{Sat, Agrees, Literals}
use Rattle.linear.specs.State.{Made}
use Rattle.linear.specs.Positions.{codes_of, position}
use Rattle.linear.proofs.Assuming.{given, satisfiable}

-- ---- the taken literals
pub code_has : (a : Assignment) (v : ℕ) (b : Bool) → Has a (code v b) ↔ (a v ≡ b)
code_has a v b = (λ h. sym (ap a (code_variable v b)) ∙ h ∙ code_value v b, λ h. ap a (code_variable v b) ∙ h ∙ sym (code_value v b))

pub all_codes : (P : ℕ → Type 0) (d : ℕ) (x : ℕ → ℕ) (y : ℕ → Bool) → All P (codes_of d x y) ↔ ((j : ℕ) → j < d → P (code (x j) (y j)))
unfolding codes_of
all_codes P zero x y = (λ h j l. absurd (not-suc-le-zero l), λ h. tt)
all_codes P (suc d) x y = go (all_codes P d x y)
  where
    at : ((j : ℕ) → j < d → P (code (x j) (y j))) → P (code (x d) (y d)) → (j : ℕ) → j < suc d → (j ≡ d) ⊎ (j ≢ d) → P (code (x j) (y j))
    at h k j l (inl e) = rw e k
    at h k j l (inr e) = h j (omega arith)

    go : All P (codes_of d x y) ↔ ((j : ℕ) → j < d → P (code (x j) (y j))) → All P (codes_of (suc d) x y) ↔ ((j : ℕ) → j < suc d → P (code (x j) (y j)))
    go w = (
      λ h j l. at (w.0 (all_left P (codes_of d x y) (code (x d) (y d) ∷ []) h)) (all_right P (codes_of d x y) (code (x d) (y d) ∷ []) h).0 j l (same_dec j d),
      λ h. all_append P (codes_of d x y) (code (x d) (y d) ∷ []) (w.1 (λ j l. h j (omega arith))) (h d (omega arith), tt),
    )

pub code_in : (d : ℕ) (x : ℕ → ℕ) (y : ℕ → Bool) (j : ℕ) → j < d → code (x j) (y j) ∈ codes_of d x y
unfolding codes_of
code_in zero x y j l = absurd (not-suc-le-zero l)
code_in (suc d) x y j l = go (same_dec j d) (λ h. code_in d x y j h)
  where
    left : (ls ks : List ℕ) (c : ℕ) → c ∈ ls → c ∈ (ls ++ ks)
    left [] ks c h = elim h [ ]
    left (l ∷ ls) ks c (inl e) = inl e
    left (l ∷ ls) ks c (inr h) = inr (left ls ks c h)

    last : (ls : List ℕ) (c : ℕ) → c ∈ (ls ++ (c ∷ []))
    last [] c = inl refl
    last (l ∷ ls) c = inr (last ls c)

    go : (j ≡ d) ⊎ (j ≢ d) → (j < d → code (x j) (y j) ∈ codes_of d x y) → code (x j) (y j) ∈ (codes_of d x y ++ (code (x d) (y d) ∷ []))
    go (inl e) f = rw e (last (codes_of d x y) (code (x d) (y d)))
    go (inr e) f = left (codes_of d x y) (code (x d) (y d) ∷ []) (code (x j) (y j)) (f (omega arith))

pub codes_length : (d : ℕ) (x : ℕ → ℕ) (y : ℕ → Bool) → length (codes_of d x y) ≡ d
unfolding codes_of
codes_length zero x y = refl
codes_length (suc d) x y = let e = length-append (codes_of d x y) (code (x d) (y d) ∷ []) in let h = codes_length d x y in omega (arith, e, h)

pub codes_same : (d : ℕ) (x x' : ℕ → ℕ) (y y' : ℕ → Bool) → ((j : ℕ) → j < d → x j ≡ x' j) → ((j : ℕ) → j < d → y j ≡ y' j) → codes_of d x y ≡ codes_of d x' y'
unfolding codes_of
codes_same zero x x' y y' f g = refl
codes_same (suc d) x x' y y' f g = rw (codes_same d x x' y y' (λ j l. f j (omega arith)) (λ j l. g j (omega arith)), f d (omega arith), g d (omega arith))

pub codes_fewer : (d c : ℕ) (x : ℕ → ℕ) (y : ℕ → Bool) → d ≤ c → take d (codes_of c x y) ≡ codes_of d x y
unfolding codes_of
codes_fewer d zero x y h = let e : 0 ≡ d = omega arith in rw (sym e) refl
codes_fewer d (suc c) x y h = go (same_dec d (suc c)) (codes_fewer d c x y)
  where
    go : (d ≡ suc c) ⊎ (d ≢ suc c) → (d ≤ c → take d (codes_of c x y) ≡ codes_of d x y) → take d (codes_of (suc c) x y) ≡ codes_of d x y
    go (inl e) f = rw e (take_all (suc c) (codes_of (suc c) x y) (let k = codes_length (suc c) x y in omega arith))
    go (inr e) f = drop-last (omega arith) ∙ f (omega arith)
      where
        drop-last : d ≤ c → take d (codes_of (suc c) x y) ≡ take d (codes_of c x y)
        drop-last l = take-append-le d (codes_of c x y) (code (x c) (y c) ∷ []) (rw (codes_length c x y) l)

-- ---- satisfied and implied
module _ (n m : ℕ) (Sheet : ℕ → Row) (d : ℕ) (x : ℕ → ℕ) (y : ℕ → Bool) where
  pub solves_iff : (a : Assignment) → Solves (position n m Sheet d x y) a ↔ (Sat n m Sheet a × Agrees (Literals d x y) a)
  solves_iff a = (
    λ h. ((placed_all (λ r. Holds n r a) m suc Sheet).0 h.rows, λ v b w. ap a (sym w.2) ∙ (code_has a (x w.0) (y w.0)).0 ((all_codes (Has a) d x y).0 h.taken w.0 w.1) ∙ w.3),
    λ h. record { rows = (placed_all (λ r. Holds n r a) m suc Sheet).1 h.0; taken = (all_codes (Has a) d x y).1 (λ j l. (code_has a (x j) (y j)).1 (h.1 (x j) (y j) (j, l, refl, refl))) },
  )

  pub implied_iff : (v : ℕ) (b : Bool) → Implied (position n m Sheet d x y) (code v b) ↔ by_place.Implied n m Sheet (Literals d x y) v b
  implied_iff v b = (
    λ h a s g. (code_has a v b).0 (h a ((solves_iff a).1 (s, g))),
    λ h a s. (code_has a v b).1 (h a ((solves_iff a).0 s).0 ((solves_iff a).0 s).1),
  )

  module _ (kept : ℕ → Bool) (k : ℕ) (R : ℕ → Row) (β : ℕ → ℕ) (S : ℕ → ℕ → Bool) (known truth : ℕ → Bool) (w : Made n m Sheet kept d x y k R β S known truth) where
    pub made_values : Values (position n m Sheet d x y) known truth
    made_values = record {
      given = λ v mv e. (implied_iff v (truth v)).1 ((given n m Sheet kept d x y k R β S known truth w v (truth v) mv).0 (e, refl));
      complete = λ v b mv h. ((given n m Sheet kept d x y k R β S known truth w v b mv).1 ((implied_iff v b).0 h)).0;
    }

    pub made_solution : (a : Assignment) × Solves (position n m Sheet d x y) a
    made_solution = let s = satisfiable n m Sheet kept d x y k R β S known truth w in (s.0, (solves_iff s.0).1 (s.1, s.2))
