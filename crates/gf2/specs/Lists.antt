-- LISTS THAT ANSWER: their members, their parts, and what makes a list the only one.
--   x ∈ xs       x stands in the list
--   All P xs     each member has P
--   Part ps xs   ps are some of the members of xs, in the order of xs
--   Ascending    each number is below all that follow it
--   Listed P xs  xs are the numbers that have P, ascending
-- Assumes nothing.
use Rattle.std.specs.Prelude.{◌≡◌, ◌⊎◌, ◌↔◌, List, [], ◌∷◌, ℕ, ◌<◌}

module _ {A : Type 0} where
  infix 30 ◌∈◌
  abbrev pub ◌∈◌ : A → List A → Type 0
  x ∈ [] = ⊥
  x ∈ (y ∷ ys) = (x ≡ y) ⊎ (x ∈ ys)

  abbrev pub All : (A → Type 0) → List A → Type 0
  All P [] = Unit {0}
  All P (x ∷ xs) = P x × All P xs

  pub data Part : List A → List A → Type 0 where
    stop : Part [] []
    take : {x : A} {ps xs : List A} → Part ps xs → Part (x ∷ ps) (x ∷ xs)
    skip : {x : A} {ps xs : List A} → Part ps xs → Part ps (x ∷ xs)

abbrev pub Ascending : List ℕ → Type 0
Ascending [] = Unit {0}
Ascending (x ∷ xs) = All (λ y. x < y) xs × Ascending xs

pub record Listed (P : ℕ → Type 0) (xs : List ℕ) : Type 0 where
  pub ascending : Ascending xs
  pub exactly : (x : ℕ) → (x ∈ xs) ↔ P x
