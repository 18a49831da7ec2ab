-- THE ANSWERS of open, assume, back and explain, for a position (document 01, "Opening" to "Going back and explaining").
--   code, variable, value, negation   literals: 2 × variable for true, 2 × variable + 1 for false
--   Literal n l, Has a l              l is a literal of 1 .. n; the assignment makes it true
--   literal_row l, literals            l as a row: its variable ≡ its value; a list of literals as rows
--   Position                          the constraints last opened and the surviving assumptions, in the order in which they were taken
--   start, assumed, withdrawn         nothing taken; one literal more; back to a depth
--   Solves, Implied, Conflict         the assignment satisfies all; every such one has l; none has
--   OpenAnswer, AssumeAnswer, ExplainAnswer   what the calls can answer
--   AnswersOpen, AnswersAssume        which answer is right; New: a literal is newly implied; moved: the position after an assume
--   Explains, AnswersExplain          the set of kept rows and assumptions whose sum is l; what explain answers
--   Explanation                       that answer, with demand 3's last sentence: the one set, and no smaller one will do
--   Unexplained                       refusal 10
--   NoValue, Fresh, Reached           a literal without a value; literals taken one after another, each without a value; a position that calls lead to
-- Assumes nothing.
use Rattle.std.specs.Prelude.{◌≡◌, ◌≢◌, ◌⊎◌, Bool, true, false, not, List, [], ◌∷◌, ◌++◌, map, length, take, eqb, ℕ, zero, suc, ◌+◌, ◌*◌, ◌/◌, ◌%◌}
use Rattle.gf2.specs.Field.{same}
use Rattle.gf2.specs.Lists.{◌∈◌, All, Part, Listed}
use Rattle.gf2.specs.Rows.{Var, Row, Assignment, Holds, Rows, total, SameRow, failed, Takes, Kept}

-- ---- literals

abbrev pub code : ℕ → Bool → ℕ
code v true = 2 * v
code v false = 2 * v + 1

abbrev pub variable : ℕ → ℕ
variable l = l / 2

abbrev pub value : ℕ → Bool
value l = eqb (l % 2) 0

abbrev pub negation : ℕ → ℕ
negation l = code (variable l) (not (value l))

abbrev pub Literal : ℕ → ℕ → Type 0
Literal n l = Var n (variable l)

abbrev pub Has : Assignment → ℕ → Type 0
Has a l = a (variable l) ≡ value l

abbrev pub literal_row : ℕ → Row
literal_row l zero = value l
literal_row l (suc i) = same (variable l) (suc i)

abbrev pub literals : List ℕ → Rows
literals ls = map (λ l. record { number = l; row = literal_row l }) ls

-- ---- positions

pub record Position : Type 0 where
  pub n : ℕ
  pub rows : Rows
  pub taken : List ℕ

abbrev pub start : ℕ → Rows → Position
start n rows = record { n = n; rows = rows; taken = [] }

abbrev pub assumed : Position → ℕ → Position
assumed p l = record { n = p.n; rows = p.rows; taken = p.taken ++ (l ∷ []) }

abbrev pub withdrawn : Position → ℕ → Position
withdrawn p d = record { n = p.n; rows = p.rows; taken = take d p.taken }

pub record Solves (p : Position) (a : Assignment) : Type 0 where
  pub rows : All (λ c. Holds p.n c.row a) p.rows
  pub taken : All (Has a) p.taken

abbrev pub Implied : Position → ℕ → Type 0
Implied p l = (a : Assignment) → Solves p a → Has a l

abbrev pub Conflict : Position → ℕ → Type 0
Conflict p l = (a : Assignment) → Solves p a → Has a l → ⊥

-- ---- open

pub data OpenAnswer : Type 0 where
  unsatisfiable : List ℕ → OpenAnswer
  opened : ℕ → List ℕ → OpenAnswer

abbrev pub AnswersOpen : ℕ → Rows → OpenAnswer → Type 0
AnswersOpen n rows (unsatisfiable list) = (ks : Rows) × Takes n [] rows (failed ks list)
AnswersOpen n rows (opened count list) = (ks : Rows) × Kept n rows ks × (count ≡ length ks) × Listed (λ l. Literal n l × Implied (start n rows) l) list

-- ---- assume

pub data AssumeAnswer : Type 0 where
  held : AssumeAnswer
  conflict : AssumeAnswer
  implied : List ℕ → AssumeAnswer

-- k is newly implied when l is taken, and is not l
pub record New (p : Position) (l k : ℕ) : Type 0 where
  pub literal : Literal p.n k
  pub now : Implied (assumed p l) k
  pub before : Implied p k → ⊥
  pub other : k ≢ l

abbrev pub AnswersAssume : Position → ℕ → AssumeAnswer → Type 0
AnswersAssume p l held = Implied p l
AnswersAssume p l conflict = Conflict p l
AnswersAssume p l (implied list) = (Implied p l → ⊥) × (Conflict p l → ⊥) × Listed (New p l) list

-- the position after it: only a literal that was taken changes it
abbrev pub moved : Position → ℕ → AssumeAnswer → Position
moved p l held = p
moved p l conflict = p
moved p l (implied list) = assumed p l

-- ---- explain

pub record ExplainAnswer : Type 0 where
  pub clause : List ℕ
  pub numbers : List ℕ

-- ps are some of the kept rows and qs some of the taken assumptions, and their sum is exactly l: its variable ≡ its value.
pub record Explains (p : Position) (l : ℕ) (ps : Rows) (qs : List ℕ) : Type 0 where
  pub kept : Rows
  pub is_kept : Kept p.n p.rows kept
  pub rows : Part ps kept
  pub assumptions : Part qs p.taken
  pub sum : SameRow p.n (total (ps ++ literals qs)) (literal_row l)

-- The clause is v's literal, then the negations of the cited assumptions, ascending. The numbers are those of the rows, ascending as the rows are.
pub record AnswersExplain (p : Position) (v : ℕ) (answer : ExplainAnswer) : Type 0 where
  pub literal : ℕ
  pub of_v : variable literal ≡ v
  pub rows : Rows
  pub cited : List ℕ
  pub explains : Explains p literal rows cited
  pub negations : List ℕ
  pub listed : Listed (λ l. negation l ∈ cited) negations
  pub clause : answer.clause ≡ literal ∷ negations
  pub numbers : answer.numbers ≡ map (λ r. r.number) rows

pub record Explanation (p : Position) (v : ℕ) (answer : ExplainAnswer) : Type 0 where
  pub answers : AnswersExplain p v answer
  -- no other kept rows and assumptions have that sum
  pub only : (ps : Rows) (qs : List ℕ) → Explains p answers.literal ps qs → (ps ≡ answers.rows) × (qs ≡ answers.cited)
  -- no proper part of the cited assumptions, with all the rows, implies the value
  pub minimal : (fewer : List ℕ) → Part fewer answers.cited → Implied (record { n = p.n; rows = p.rows; taken = fewer }) answers.literal → fewer ≡ answers.cited

-- v has no value, or its value was assumed
abbrev pub Unexplained : Position → ℕ → Type 0
Unexplained p v = ((b : Bool) → Implied p (code v b) → ⊥) ⊎ ((l : ℕ) × (l ∈ p.taken) × (variable l ≡ v))

-- ---- positions that calls lead to: no row failed, and each assumption had no value when it was taken

abbrev pub NoValue : Position → ℕ → Type 0
NoValue p l = (Implied p l → ⊥) × (Conflict p l → ⊥)

abbrev pub Fresh : ℕ → Rows → List ℕ → List ℕ → Type 0
Fresh n rows before [] = Unit {0}
Fresh n rows before (l ∷ ls) = Literal n l × NoValue (record { n = n; rows = rows; taken = before }) l × Fresh n rows (before ++ (l ∷ [])) ls

pub record Reached (p : Position) : Type 0 where
  pub kept : Rows
  pub is_kept : Kept p.n p.rows kept
  pub fresh : Fresh p.n p.rows [] p.taken
