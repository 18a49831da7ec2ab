-- AFTER ANY CALLS that leave something open, whatever the header and the memory before them, from the promises alone.
-- The next call is lent as many words of the memory as its caller says, 4,096 at least.
--   assume_after    with room and a literal in range: held, conflict and taken exactly as demand 2 says
--   explain_after   with room and a variable in range: refused with 10 exactly if there is nothing to explain
--   back_after      not refused exactly if so many literals are taken
-- Assumes nothing.
use mathlib.Core.Path.{◌≡◌, sym, subst}
use mathlib.Core.Logic.{◌↔◌}
use mathlib.Core.Option.{none, some}
use mathlib.Core.List.{List}
use lib.ListN.{length, take, length-take}
use Prim.Native.Nat.{ℕ, ◌≤◌}
use native.Mathlib.Omega.{arith}
use Rattle.gf2.specs.Rows.{Var}
use Rattle.gf2.specs.Answers as answers
use Rattle.gf2.specs.Answers.{variable, Literal, Position, Implied, NoValue, Unexplained}
use Rattle.gf2.specs.History.{at_end}
use Rattle.std.specs.Prelude.{Result, Ok}
use Rattle.format.specs.Refusals.{IsRefused}
use Rattle.format.specs.declared.Refusal.{Refusal}
use Rattle.judge.specs.declared.Header.{Header}
use Rattle.tableau.specs.Layout.{size}
use Rattle.parity.specs.declared.Assuming.{Assuming}
use Rattle.parity.specs.declared.Assuming.TheVariants.{Held, Conflict, Taken}
use Rattle.parity.specs.declared.Explained.{Explained}
use Rattle.parity.specs.Promises.{Stands, AssumePromise, BackPromise, ExplainPromise}
use Rattle.history.specs.Calls.{Calls, events}
use Rattle.history.proofs.Memory.{long, lent_matches}
use Rattle.history.proofs.Demand.{demand_stands}
use Rattle.history.proofs.Exactly.{held_exactly, conflict_exactly, taken_exactly, unexplained_exactly}
use Rattle.history.proofs.Accepted.{assume_accepted, back_accepted, explain_accepted}

module _ {h₀ h : Header} {mem₀ mem : List ℕ} (cs : Calls h₀ mem₀ h mem) (p : Position) (e : at_end none (events cs) ≡ some p)
    (words : ℕ) (enough : size ≤ words) where
  abbrev lent : List ℕ
  lent = take words mem

  st : Stands h lent p
  st = let s = demand_stands cs p e in let l = long s in lent_matches h mem words (some p) (let f = length-take words mem in omega arith) s

  pub assume_after : (literals : List ℕ) (code : ℕ) → p.n ≤ length literals → Literal p.n code
      → (h' : Header) (answer : Result Assuming Refusal) (work' literals' : List ℕ)
      → AssumePromise h lent literals code h' answer work' literals'
      → ((answer ≡ Ok Held) ↔ Implied p code) × ((answer ≡ Ok (Conflict (variable code))) ↔ answers.Conflict p code)
      × (((x : ℕ) × (answer ≡ Ok (Taken x))) ↔ NoValue p code)
  assume_after literals code room l h' answer work' literals' promise =
      let z = (assume_accepted h lent p st literals code).1 (room, l) in (
        held_exactly h lent literals code z p st h' answer work' literals' promise,
        conflict_exactly h lent literals code z p st h' answer work' literals' promise,
        taken_exactly h lent literals code z p st h' answer work' literals' promise,
      )

  pub explain_after : (clause rows : List ℕ) (v : ℕ) → p.n ≤ length clause → length p.rows ≤ length rows → Var p.n v
      → (answer : Result Explained Refusal) (clause' rows' : List ℕ)
      → ExplainPromise h lent clause rows v answer clause' rows' → IsRefused answer 10 ↔ Unexplained p v
  explain_after clause rows v codes numbers x answer clause' rows' promise =
      unexplained_exactly h lent clause rows v ((explain_accepted h lent p st clause rows v).1 (codes, numbers, x)) p st answer clause' rows' promise

  pub back_after : (d number : ℕ) (h' : Header) (work' : List ℕ) → BackPromise h lent d number h' work' → (number ≡ 0) ↔ (d ≤ length p.taken)
  back_after d number h' work' promise = subst (λ (k : ℕ). (k ≡ 0) ↔ (d ≤ length p.taken)) (sym promise.answer) (back_accepted h lent p st d)
