-- THE ANSWERS BY BRUTE FORCE: over all assignments of the variables 1 .. n, and all parts of a list.
--   find_part, all_pass   some part of a list that passes a test; whether all members do
--   run                   rows taken in order
--   every, implies        a test over all assignments; whether a position implies a literal
--   open_answer, assume_answer, explain_answer   the answers
-- Assumes nothing.
use mathlib.Core.Bool.{Bool, true, false, not, ◌&&◌, cond, beq}
use mathlib.Core.Option.{Option, none, some}
use mathlib.Core.List.{List, [], ◌∷◌, ◌++◌, map}
use lib.ListN.{length}
use lib.Dec.{eqb}
use Prim.Native.Nat.{ℕ, zero, suc, ◌*◌}
use Rattle.gf2.specs.Field.{same}
use Rattle.gf2.specs.Rows.{Row, Assignment, row_sum, Numbered, Rows, total, Outcome, passed, failed}
use Rattle.gf2.specs.Answers.{code, variable, value, negation, literal_row, literals, Position, start, assumed, OpenAnswer, unsatisfiable, opened, AssumeAnswer, held, conflict, implied, ExplainAnswer}

-- ---- some part of a list that passes a test, if there is one
module _ {A : Type 0} where
  abbrev pub give : Bool → A → Option A
  give true x = some x
  give false x = none

  abbrev pub or_else : Option A → Option A → Option A
  or_else (some x) o = some x
  or_else none o = o

module _ {A : Type 0} where
  abbrev pub put_first : A → Option (List A) → Option (List A)
  put_first x (some ps) = some (x ∷ ps)
  put_first x none = none

  unfoldable pub find_part : (List A → Bool) → List A → Option (List A)
  find_part t [] = give (t []) []
  find_part t (x ∷ xs) = or_else (find_part t xs) (put_first x (find_part (λ ps. t (x ∷ ps)) xs))

  unfoldable pub all_pass : (A → Bool) → List A → Bool
  all_pass t [] = true
  all_pass t (x ∷ xs) = t x && all_pass t xs

-- ---- rows
unfoldable pub agree : ℕ → Row → Row → Bool
agree zero c d = true
agree (suc n) c d = beq (c (suc n)) (d (suc n)) && agree n c d

abbrev pub decide : Bool → Rows → Rows → Numbered → Outcome → Outcome
decide true ks ps c later = later
decide false ks ps c later = failed ks (map (λ r. r.number) (ps ++ (c ∷ [])))

abbrev pub outcome : Rows → Numbered → Option Rows → Outcome → Outcome → Outcome
outcome ks c none keeping leaving = keeping
outcome ks c (some ps) keeping leaving = decide (beq (total ps 0) (c.row 0)) ks ps c leaving

unfoldable pub run : ℕ → Rows → Rows → Outcome
run n ks [] = passed ks
run n ks (c ∷ rs) = outcome ks c (find_part (λ ps. agree n (total ps) c.row) ks) (run n (ks ++ (c ∷ [])) rs) (run n ks rs)

-- ---- assignments
-- a, with the value b for variable v
abbrev pub put : ℕ → Bool → Assignment → Assignment
put v b a u = cond (same v u) b (a u)

unfoldable pub every : ℕ → (Assignment → Bool) → Bool
every zero t = t (λ v. false)
every (suc n) t = every n (λ a. t (put (suc n) true a)) && every n (λ a. t (put (suc n) false a))

abbrev pub has : Assignment → ℕ → Bool
has a l = beq (a (variable l)) (value l)

unfoldable pub solves : Position → Assignment → Bool
solves p a = all_pass (λ c. beq (row_sum p.n c.row a) (c.row 0)) p.rows && all_pass (has a) p.taken

abbrev pub if_then : Bool → Bool → Bool
if_then true b = b
if_then false b = true

unfoldable pub implies : Position → ℕ → Bool
implies p l = every p.n (λ a. if_then (solves p a) (has a l))

-- ---- the literals of the variables 1 .. n that pass a test, ascending
abbrev pub add_if : Bool → ℕ → List ℕ → List ℕ
add_if true x xs = x ∷ xs
add_if false x xs = xs

unfoldable pub listing_from : ℕ → ℕ → (ℕ → Bool) → List ℕ
listing_from k zero t = []
listing_from k (suc j) t = add_if (t k) k (listing_from (suc k) j t)

abbrev pub listing : ℕ → (ℕ → Bool) → List ℕ
listing n t = listing_from 2 (2 * n) t

-- ---- the answers
abbrev pub open_by : ℕ → Rows → Outcome → OpenAnswer
open_by n rows (passed ks) = opened (length ks) (listing n (implies (start n rows)))
open_by n rows (failed ks list) = unsatisfiable list

abbrev pub open_answer : ℕ → Rows → OpenAnswer
open_answer n rows = open_by n rows (run n [] rows)

abbrev pub new : Position → ℕ → ℕ → Bool
new p l k = implies (assumed p l) k && (not (implies p k) && not (eqb k l))

abbrev pub assume_by : Bool → Bool → List ℕ → AssumeAnswer
assume_by true other list = held
assume_by false true list = conflict
assume_by false false list = implied list

abbrev pub assume_answer : Position → ℕ → AssumeAnswer
assume_answer p l = assume_by (implies p l) (implies p (negation l)) (listing p.n (new p l))

abbrev pub is_some : {A : Type 0} → Option A → Bool
is_some (some x) = true
is_some none = false

abbrev pub member : ℕ → List ℕ → Bool
member x [] = false
member x (y ∷ ys) = cond (eqb x y) true (member x ys)

abbrev pub sums : ℕ → ℕ → Rows → List ℕ → Bool
sums n l ps qs = beq (total (ps ++ literals qs) 0) (value l) && agree n (total (ps ++ literals qs)) (literal_row l)

abbrev pub explain_by : ℕ → ℕ → Option Rows → (Rows → Option (List ℕ)) → Option ExplainAnswer
explain_by n l none f = none
explain_by n l (some ps) f = explain_with (f ps)
  where
    explain_with : Option (List ℕ) → Option ExplainAnswer
    explain_with none = none
    explain_with (some qs) = some (record { clause = l ∷ listing n (λ k. member (negation k) qs); numbers = map (λ r. r.number) ps })

abbrev pub explain_literal : Position → Rows → ℕ → Option ExplainAnswer
explain_literal p ks l =
    explain_by p.n l (find_part (λ ps. is_some (find_part (sums p.n l ps) p.taken)) ks) (λ ps. find_part (sums p.n l ps) p.taken)

abbrev pub explain_after : Position → ℕ → Outcome → Option ExplainAnswer
explain_after p v (passed ks) = or_else (explain_literal p ks (code v true)) (explain_literal p ks (code v false))
explain_after p v (failed ks list) = none

abbrev pub explain_answer : Position → ℕ → Option ExplainAnswer
explain_answer p v = explain_after p v (run p.n [] p.rows)
