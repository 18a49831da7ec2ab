-- LAWS OF REFUSALS AND OF ANSWERS THAT STAND FOR A NUMBER.
--   number_within     the number of a refusal is above 0 and at most 12; number_pos: above 0
--   number_same       refusals with the same number are the same
--   RefusedOrNot r    r is the number of a refusal, or 0: none; refused_or: one of them is so
--   refused_is        an answer that is refused is the refusal of a number; refused_same: two of one number are the same
--   answered_is       the number of an answer is that which the checks come to
--   answers_same      two answers where the checks come to one number are the same, if one value has P
-- Assumes nothing.
use mathlib.Core.Logic.{◌⊎◌, inl, inr}
use Prim.Native.Nat.{zero, suc, ◌≤◌}
use Rattle.std.proofs.Common.{◌≡◌, ℕ, ◌<◌, [], ◌∷◌, get_or, Result, Ok, Err, refl, sym, ap, ◌∙◌, arith}
use Rattle.format.specs.declared.Refusal.{Refusal}
use Rattle.format.specs.declared.Refusal.TheVariants.{ShortSheet, ManyVariables, ManyRows, LongSheet, StrayBits, FewWords, ShortAnswer, OutOfRange, AboveDepth, Unexplained, NotOpen, NoPartner}
use Rattle.format.specs.Refusals.{number, answered, IsRefused, Answers}

pub number_within : (r : Refusal) → (0 < number r) × (number r ≤ 12)
number_within ShortSheet = (omega arith, omega arith)
number_within ManyVariables = (omega arith, omega arith)
number_within ManyRows = (omega arith, omega arith)
number_within LongSheet = (omega arith, omega arith)
number_within StrayBits = (omega arith, omega arith)
number_within FewWords = (omega arith, omega arith)
number_within ShortAnswer = (omega arith, omega arith)
number_within OutOfRange = (omega arith, omega arith)
number_within AboveDepth = (omega arith, omega arith)
number_within Unexplained = (omega arith, omega arith)
number_within NotOpen = (omega arith, omega arith)
number_within NoPartner = (omega arith, omega arith)

pub number_pos : (r : Refusal) → 0 < number r
number_pos r = (number_within r).0

-- the refusal of a number, where there is one
named : ℕ → Refusal
named k =
    get_or (NoPartner ∷ ShortSheet ∷ ManyVariables ∷ ManyRows ∷ LongSheet ∷ StrayBits ∷ FewWords ∷ ShortAnswer ∷ OutOfRange ∷ AboveDepth ∷ Unexplained ∷ NotOpen ∷ []) k NoPartner

named_number : (r : Refusal) → named (number r) ≡ r
unfolding named
named_number ShortSheet = refl
named_number ManyVariables = refl
named_number ManyRows = refl
named_number LongSheet = refl
named_number StrayBits = refl
named_number FewWords = refl
named_number ShortAnswer = refl
named_number OutOfRange = refl
named_number AboveDepth = refl
named_number Unexplained = refl
named_number NotOpen = refl
named_number NoPartner = refl

pub number_same : (r q : Refusal) → number r ≡ number q → r ≡ q
number_same r q e = sym (named_number r) ∙ ap named e ∙ named_number q

-- ---- a refusal, or none
abbrev pub RefusedOrNot : ℕ → Type 0
RefusedOrNot r = ((c : ℕ) × (r ≡ suc c)) ⊎ (r ≡ 0)

pub refused_or : (r : ℕ) → RefusedOrNot r
refused_or zero = inr refl
refused_or (suc c) = inl (c, refl)

pub refused_is : {A : Type 0} (a : Result A Refusal) (k : ℕ) → IsRefused a k → (r : Refusal) × (a ≡ Err r) × (number r ≡ k)
refused_is (Ok x) k e = absurd e
refused_is (Err r) k e = (r, refl, e)

pub refused_same : {A : Type 0} (a b : Result A Refusal) (k : ℕ) → IsRefused a k → IsRefused b k → a ≡ b
refused_same a b k e f =
    let r = refused_is a k e in
    let q = refused_is b k f in
    r.1 ∙ ap Err (number_same r.0 q.0 (r.2 ∙ sym q.2)) ∙ sym q.1

-- ---- answers of a number

module _ {A : Type 0} (k : ℕ) (P : A → Type 0) where
  pub answered_is : (a : Result A Refusal) → Answers k P a → answered a ≡ k
  answered_is (Ok x) h = sym h.0
  answered_is (Err r) h = sym h

  -- where P holds of one value
  pub answers_same : ((x y : A) → P x → P y → x ≡ y) → (a b : Result A Refusal) → Answers k P a → Answers k P b → a ≡ b
  answers_same one (Ok x) (Ok y) h g = ap Ok (one x y h.1 g.1)
  answers_same one (Ok x) (Err q) h g = absurd (omega (arith, number_pos q, h.0, g))
  answers_same one (Err r) (Ok y) h g = absurd (omega (arith, number_pos r, g.0, h))
  answers_same one (Err r) (Err q) h g = ap Err (number_same r q (sym h ∙ g))
