-- WHAT OPENING DOES once nothing is refused and the row store is filled, on every row store.
--   IsOpenReading    what open's checks come to: the refusal of their number, or the sheet's n and m where none holds
--   RowsOpened       all rows went in, and the implied literals are listed; or a row contradicted, and the rows of the one sum are
-- Assumes nothing.
use Rattle.std.specs.Prelude.{◌≡◌, List, ◌++◌, length, take, drop, ℕ, Result, Ok}
use Rattle.gf2.specs.Places.{scanned}
use Rattle.format.specs.Refusals.{refusal, Answers}
use Rattle.format.specs.Sheet.{n_of, m_of}
use Rattle.format.specs.declared.Refusal.{Refusal}
use Rattle.cursor.specs.Shape.{HasNumbers}
use Rattle.cursor.specs.declared.shape.Shape.{Shape}
use Rattle.judge.specs.declared.Header.{Header}
use Rattle.words.specs.Words.{bit_at}
use Rattle.tableau.specs.Layout.{from_at, known_at, truth_at, size}
use Rattle.tableau.specs.View.{vals}
use Rattle.lists.specs.Listing.{numbers, ListPut}
use Rattle.opening.specs.Opened.{AllIn, Stopped}
use Rattle.parity.specs.declared.Opening.{Opening}
use Rattle.parity.specs.declared.Opening.TheVariants.{Unsatisfiable, Opened}
use Rattle.parity.specs.Promises.{nothing_open, opens_with, open_checks}

abbrev pub IsOpenReading : List ℕ → ℕ → ℕ → ℕ → ℕ → Result Shape Refusal → Type 0
IsOpenReading s store words literals rows a = Answers (refusal (open_checks s store words literals rows)) (HasNumbers (n_of s) (m_of s)) a

pub data RowsOpened (n m : ℕ) (store work literals rows : List ℕ) : Header → Result Opening Refusal → List ℕ → List ℕ → List ℕ → Type 0 where
  all_in : (k : ℕ) (ws : List ℕ) (x : ℕ) (literals' : List ℕ) → length ws ≡ length (take size work) → AllIn m store (take size work) k ws
      → ListPut n 0 (scanned n (vals (ws ++ drop size work) known_at) (vals (ws ++ drop size work) truth_at)) literals literals' x
      → RowsOpened n m store work literals rows (opens_with n m k) (Ok (Opened x)) (ws ++ drop size work) literals' rows
  stopped : (k : ℕ) (ws : List ℕ) (x : ℕ) (rows' : List ℕ) → length ws ≡ length (take size work) → Stopped m store (take size work) k ws
      → ListPut m 0 (numbers m (bit_at (ws ++ drop size work) (from_at k))) rows rows' x
      → RowsOpened n m store work literals rows nothing_open (Ok (Unsatisfiable x)) (ws ++ drop size work) literals rows'
