-- REFUSALS (document 01, "Refusal numbers": given exactly when its line holds and no earlier check did).
--   Check        a line of the table: its number, and whether it holds
--   refusal cs   the number of the first check of cs that holds; 0 where none does
--   number r     the number of a refusal in the table
--   answered a   the number that an answer stands for: a refusal's own, 0 where the call is not refused
--   IsRefused a k    the answer a is the refusal of the number k
--   Answers k P a    a is the answer where the checks come to k: the refusal of that number, or for 0 a value of which P holds
-- Assumes nothing.
use Rattle.std.specs.Prelude.{◌≡◌, Bool, cond, List, [], ◌∷◌, ℕ, Result, Ok, Err}
use Rattle.format.specs.declared.Refusal.{Refusal}
use Rattle.format.specs.declared.Refusal.TheVariants.{ShortSheet, ManyVariables, ManyRows, LongSheet, StrayBits, FewWords, ShortAnswer, OutOfRange, AboveDepth, Unexplained, NotOpen, NoPartner}

pub record Check : Type 0 where
  pub number : ℕ
  pub holds : Bool

abbrev pub check : ℕ → Bool → Check
check number holds = record { number = number; holds = holds }

abbrev pub refusal : List Check → ℕ
refusal [] = 0
refusal (c ∷ cs) = cond c.holds c.number (refusal cs)

abbrev pub number : Refusal → ℕ
number ShortSheet = 1
number ManyVariables = 2
number ManyRows = 3
number LongSheet = 4
number StrayBits = 5
number FewWords = 6
number ShortAnswer = 7
number OutOfRange = 8
number AboveDepth = 9
number Unexplained = 10
number NotOpen = 11
number NoPartner = 12

abbrev pub answered : {A : Type 0} → Result A Refusal → ℕ
answered (Ok x) = 0
answered (Err r) = number r

abbrev pub IsRefused : {A : Type 0} → Result A Refusal → ℕ → Type 0
IsRefused (Ok x) k = ⊥
IsRefused (Err r) k = number r ≡ k

abbrev pub Answers : {A : Type 0} → ℕ → (A → Type 0) → Result A Refusal → Type 0
Answers k P (Ok x) = (k ≡ 0) × P x
Answers k P (Err r) = k ≡ number r
