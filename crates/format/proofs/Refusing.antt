-- CHECKS IN ORDER, and checks of two conditions.
--   positive, accepted       no check has the number 0, so where there is no refusal, no check holds
--   without, never           no check that holds has the number k, so no refusal has it
--   append-some, append-none  more checks after these: they are reached only where none of these holds
--   none_either              neither of two conditions holds
-- Assumes nothing.
use mathlib.Core.Path.{◌≡◌, refl, ◌∙◌}
use mathlib.Core.Bool.{Bool, true, false, not, ◌||◌, ◌&&◌, true≢false, false≢true, cond}
use mathlib.Core.Logic.{◌≢◌}
use mathlib.Core.List.{List, [], ◌∷◌, ◌++◌}
use lib.Dec.{eqb, ltb}
use Prim.Native.Nat.{ℕ, suc}
use native.Mathlib.Omega.{arith}
use borrow.Author.Tests.{ltb-true, eq-eqb}
use Rattle.gf2.specs.Lists.{All}
use Rattle.gf2.proofs.Search.{and_both}
use Rattle.format.specs.Refusals.{Check, refusal}

-- no check has the number 0
abbrev pub positive : List Check → Bool
positive [] = true
positive (c ∷ cs) = ltb 0 c.number && positive cs

pub accepted : (cs : List Check) → positive cs ≡ true → refusal cs ≡ 0 → All (λ c. c.holds ≡ false) cs
accepted [] p h = tt
accepted (c ∷ cs) p h = go (accepted cs (and_both (ltb 0 c.number) (positive cs) p).1) c.holds refl h
  where
    go : (refusal cs ≡ 0 → All (λ c. c.holds ≡ false) cs) → (b : Bool) → c.holds ≡ b → cond b c.number (refusal cs) ≡ 0 → All (λ c. c.holds ≡ false) (c ∷ cs)
    go rest true e f = let l = ltb-true 0 c.number (and_both (ltb 0 c.number) (positive cs) p).0 in absurd (omega arith)
    go rest false e f = (e, rest f)

-- no check that holds has the number k
abbrev pub without : ℕ → List Check → Bool
without k [] = true
without k (c ∷ cs) = not (eqb c.number k && c.holds) && without k cs

pub never : (k : ℕ) (cs : List Check) → without k cs ≡ true → (j : ℕ) → refusal cs ≡ suc j → suc j ≢ k
never k [] p j h = absurd (omega arith)
never k (c ∷ cs) p j h =
    let w = and_both (not (eqb c.number k && c.holds)) (without k cs) p in
    go (never k cs w.1 j) c.holds w.0 h
  where
    go : (refusal cs ≡ suc j → suc j ≢ k) → (b : Bool) → not (eqb c.number k && b) ≡ true → cond b c.number (refusal cs) ≡ suc j → suc j ≢ k
    go rest true n e = λ q. false≢true (rw (eq-eqb c.number k (e ∙ q)) at n)
    go rest false n e = rest e

pub append-some : (cs ds : List Check) (j : ℕ) → refusal cs ≡ suc j → refusal (cs ++ ds) ≡ suc j
append-some [] ds j h = absurd (omega arith)
append-some (c ∷ cs) ds j h = go (append-some cs ds j) c.holds h
  where
    go : (refusal cs ≡ suc j → refusal (cs ++ ds) ≡ suc j) → (b : Bool) → cond b c.number (refusal cs) ≡ suc j → cond b c.number (refusal (cs ++ ds)) ≡ suc j
    go more true e = e
    go more false e = more e

pub append-none : (cs ds : List Check) → positive cs ≡ true → refusal cs ≡ 0 → refusal (cs ++ ds) ≡ refusal ds
append-none [] ds p h = refl
append-none (c ∷ cs) ds p h = go (append-none cs ds (and_both (ltb 0 c.number) (positive cs) p).1) c.holds h
  where
    go : (refusal cs ≡ 0 → refusal (cs ++ ds) ≡ refusal ds) → (b : Bool) → cond b c.number (refusal cs) ≡ 0 → cond b c.number (refusal (cs ++ ds)) ≡ refusal ds
    go more true e = let l = ltb-true 0 c.number (and_both (ltb 0 c.number) (positive cs) p).0 in absurd (omega arith)
    go more false e = more e

pub none_either : (a b : Bool) → (a || b) ≡ false → (a ≡ false) × (b ≡ false)
none_either true b h = absurd (true≢false h)
none_either false b h = (refl, h)
