-- LAWS OF THE READER'S PROMISE.
--   number_reading    the number of the answer is that of the first check that holds
--   reading_is        the answer by the checks that follow the first
--   read_accepted     what a sheet is that is read
--   read_determined   two results that the promise allows are the same
-- Assumes nothing.
use Rattle.std.proofs.Common.{◌≡◌, List, length, Result, Ok, ℕ, ◌≤◌, refl, sym, ap, ◌∙◌}
use Rattle.format.proofs.Accepted.{later, first_passed, Accepted, accepted}
use Rattle.format.proofs.Answering.{answered_is, answers_same}
use Rattle.format.specs.Refusals.{refusal, answered, Answers}
use Rattle.format.specs.Sheet.{n_of, m_of, reader}
use Rattle.format.specs.declared.Refusal.{Refusal}
use Rattle.cursor.proofs.Shapes.{shapes_same}
use Rattle.sheet.specs.Reader.{IsReading, stored, Reads}
use Rattle.cursor.specs.Shape.{HasNumbers}
use Rattle.cursor.specs.declared.shape.Shape.{Shape}

pub number_reading : (s : List ℕ) (room : ℕ) (a : Result Shape Refusal) → IsReading s room a → answered a ≡ refusal (reader s room)
number_reading s room a h = answered_is (refusal (reader s room)) (HasNumbers (n_of s) (m_of s)) a h

pub reading_is : (s : List ℕ) (room k : ℕ) (a : Result Shape Refusal) → 3 ≤ length s → refusal (later s (n_of s) (m_of s) room) ≡ k → Answers k (HasNumbers (n_of s) (m_of s)) a → IsReading s room a
reading_is s room k a h e g = rw (first_passed s room (n_of s) (m_of s) h refl refl ∙ e) g

pub read_accepted : (s : List ℕ) (room : ℕ) (h : Shape) → IsReading s room (Ok h) → Accepted s room h.n h.m
read_accepted s room h e = let a = accepted s room e.0 in rw (e.1.n_is, e.1.m_is) a

pub read_determined : (s old new new' : List ℕ) (a a' : Result Shape Refusal) → Reads s old a new → Reads s old a' new' → (a ≡ a') × (new ≡ new')
read_determined s old new new' a a' p q =
    let e : a ≡ a' = answers_same (refusal (reader s (length old))) (HasNumbers (n_of s) (m_of s)) (shapes_same (n_of s) (m_of s)) a a' p.answer q.answer in
    (e, p.store ∙ ap (λ (x : Result Shape Refusal). stored x s old) e ∙ sym q.store)
