-- EXAMPLES: lines of document 01, and the smallest and the largest number. Assumes nothing.
use mathlib.Core.Path.{◌≡◌, refl}
use mathlib.Core.List.{List, [], ◌∷◌, ◌++◌}
use Prim.Native.Nat.{ℕ}
use Rattle.lines.specs.Lines.{word, dec, spaced, Said, text}

-- the session that document 01 prints, line by line
abbrev session : List Said
session =
    Said.opened 3 []
    ∷ Said.implied (7 ∷ [])
    ∷ Said.explained 3 (7 ∷ 3 ∷ []) (1 ∷ 3 ∷ [])
    ∷ Said.conflict 3
    ∷ Said.back 0
    ∷ Said.implied []
    ∷ []

abbrev texts : List Said → List ℕ
texts [] = []
texts (s ∷ ss) = text s ++ texts ss

printed : texts session ≡ word "open 3 implied 0\nimplied 1 7\nexplain 3 clause 7 3 rows 1 3\nconflict 3\nback 0\nimplied 0\n"
unfolding dec spaced
printed = refl

unsat : text (Said.unsatisfiable (1 ∷ 2 ∷ [])) ≡ word "unsat 1 2\n"
unfolding dec spaced
unsat = refl

others : (text Said.held ≡ word "held\n") × (text (Said.refused 12) ≡ word "refused 12\n")
unfolding dec spaced
others = (refl, refl)

numbers : (dec 0 ≡ word "0") × (dec 18446744073709551615 ≡ word "18446744073709551615")
unfolding dec
numbers = (refl, refl)
