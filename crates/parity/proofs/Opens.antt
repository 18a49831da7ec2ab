-- OPEN: what it answers, and what it leaves.
--   all_zero        the header of numbers that are all zero
--   open_judged     what opening may rely on once no check holds
--   promise_rows    no check holds: the rows went in, or one contradicted
--   promise_filled  the same, with n and m as they were read
-- Assumes nothing.
use mathlib.Core.Path.{◌≡◌, refl, sym, ap, ◌∙◌, subst}
use mathlib.Core.Bool.{Bool, false}
use mathlib.Core.List.{List, [], ◌∷◌, ◌++◌, map}
use lib.ListN.{length, take, drop}
use lib.Dec.{ltb}
use Prim.Native.Nat.{ℕ, zero, suc, ◌+◌, ◌*◌, ◌<◌, ◌≤◌}
use native.Mathlib.Omega.{arith}
use borrow.Author.Tests.{ltb-false}
use Rattle.gf2.specs.Rows.{Var, Row, Rows, Assignment}
use Rattle.gf2.specs.Answers.{start, Solves, opened, unsatisfiable, AnswersOpen}
use Rattle.gf2.proofs.Scans.{scanned_same}
use Rattle.gf2.proofs.Values.{Values, known_listed}
use Rattle.gf2.proofs.Reach.{opened_reached}
use Rattle.gf2.specs.Field.{◌⊕◌, same}
use Rattle.gf2.specs.Places.{scanned, chosen}
use Rattle.linear.specs.State.{KeptPlaces, Fails}
use Rattle.linear.specs.Positions.{numbered, by_number, kept_rows, codes_of, position}
use Rattle.linear.proofs.Keeping.{keep_to, kept_exists}
use Rattle.linear.proofs.Opening.{no_failure}
use Rattle.linear.proofs.Pigeons.{room}
use Rattle.linear.proofs.Joined.{made_values, made_solution}
use Rattle.linear.proofs.Taking.{takes_fails, kept_length}
use Rattle.linear.proofs.Explaining.{made_kept}
use Rattle.format.specs.Bits.{bits_of}
use Rattle.format.specs.Refusals.{refusal}
use Rattle.format.specs.Sheet.{n_of, m_of, row_of, sheet_rows, store_words, reader}
use Rattle.format.proofs.Refusing.{append-some, none_either}
use Rattle.format.proofs.Refusing as refusing
use Rattle.format.proofs.Accepted.{Accepted, accepted}
use Rattle.format.proofs.Places.{sheet_placed}
use Rattle.judge.specs.declared.Header.{Header}
use Rattle.words.specs.Words.{bit_at}
use Rattle.words.specs.Store.{StoreRead}
use Rattle.std.specs.Prelude.{Result, Ok}
use Rattle.cursor.specs.declared.shape.Shape.{Shape}
use Rattle.format.specs.declared.Refusal.{Refusal}
use Rattle.sheet.proofs.Store.{store_read}
use Rattle.tableau.specs.Layout.{max_rows, from_at, known_at, truth_at, size}
use Rattle.tableau.specs.View.{MadeAt, vals}
use Rattle.lists.specs.Listing.{numbers, ListPut}
use Rattle.opening.specs.Opened.{AllIn, Stopped}
use Rattle.opening.proofs.Opens.{opens_built, open_made, open_fails}
use Rattle.parity.specs.declared.Opening.{Opening}
use Rattle.parity.specs.declared.Opening.TheVariants.{Unsatisfiable, Opened}
use Rattle.parity.specs.Promises.{Stands, nothing_open, opens_with, open_own, open_checks, OpenPromise}
use Rattle.parity.specs.Openings.{IsOpenReading, RowsOpened, all_in, stopped}
use Rattle.parity.proofs.Part.{front_long, front_bit, replaced_front, replaced_worked}
use Rattle.lists.proofs.Picking.{listed_take}
use Rattle.parity.proofs.Listing.{listed_used}
use Rattle.parity.proofs.Numbering.{numbers_failed}

-- the header of numbers that are all zero
pub all_zero : (h : Header) → (h.«open» ≡ 0) × ((h.n ≡ 0) × ((h.m ≡ 0) × ((h.kept ≡ 0) × (h.depth ≡ 0)))) → h ≡ nothing_open
all_zero h e = λ i. record { «open» = e.0 i; n = e.1.0 i; m = e.1.1.0 i; kept = e.1.1.1.0 i; depth = e.1.1.1.1 i }

-- ---- what the checks let through
module _ (s : List ℕ) (store words literals rows : ℕ) (none : refusal (open_checks s store words literals rows) ≡ 0) where
  reader_none : refusal (reader s store) ≡ 0
  reader_none = go (refusal (reader s store)) refl
    where
      go : (r : ℕ) → refusal (reader s store) ≡ r → refusal (reader s store) ≡ 0
      go zero e = e
      go (suc c) e = let f : refusal (open_checks s store words literals rows) ≡ suc c = append-some (reader s store) (open_own s words literals rows) c e in absurd (omega (arith, f, none))

  pub open_judged : Accepted s store (n_of s) (m_of s) × (size ≤ words) × (n_of s ≤ literals) × (m_of s ≤ rows)
  open_judged =
      let a = refusing.accepted (open_checks s store words literals rows) refl none in
      let b = none_either (ltb literals (n_of s)) (ltb rows (m_of s)) a.1.1.1.1.1.1.1.1.0 in
      (accepted s store reader_none, ltb-false words 4096 a.1.1.1.1.1.1.1.0, ltb-false literals (n_of s) b.0, ltb-false rows (m_of s) b.1)

-- ---- the promise
module _ (old : Header) (s store work literals rows : List ℕ) where
  module _ (none : refusal (open_checks s (length store) (length work) (length literals) (length rows)) ≡ 0) (store' : List ℕ)
      (filled : store' ≡ store_words (n_of s) (m_of s) (drop 19 (bits_of s)) ++ drop (9 * m_of s) store) where
    abbrev Sheet : ℕ → Row
    Sheet q = row_of (n_of s) (drop (q * (n_of s + 1)) (drop 19 (bits_of s)))

    abbrev kept : ℕ → Bool
    kept = keep_to (n_of s) (m_of s) Sheet (m_of s)

    is_kept : KeptPlaces (n_of s) (m_of s) Sheet kept
    is_kept = kept_exists (n_of s) (m_of s) Sheet

    judged : Accepted s (length store) (n_of s) (m_of s) × (size ≤ length work) × (n_of s ≤ length literals) × (m_of s ≤ length rows)
    judged = open_judged s (length store) (length work) (length literals) (length rows) none

    abbrev shape : Shape
    shape = record { n = n_of s; m = m_of s; n_fits = judged.0.n_small; m_fits = judged.0.m_small }

    rows_read : StoreRead (n_of s) (m_of s) store' Sheet
    rows_read = store_read s store store' shape
        (record {
          answer = (reader_none s (length store) (length work) (length literals) (length rows) none, record { n_is = refl; m_is = refl });
          store = filled;
        })

    same_rows : sheet_rows s ≡ numbered (m_of s) Sheet
    same_rows = sheet_placed (n_of s) (m_of s) (drop 19 (bits_of s))

    not_refused : (c : ℕ) → refusal (open_checks s (length store) (length work) (length literals) (length rows)) ≡ suc c → ⊥
    not_refused c e = absurd (omega (arith, none, e))

    -- the front's bits, in the whole buffer
    whole_bit : (ws : List ℕ) → length ws ≡ length (take size work) → (off : ℕ) → off + 8 ≤ size → (i : ℕ) → i < 512 → bit_at (ws ++ drop size work) off i ≡ bit_at ws off i
    whole_bit ws e off b i c =
        sym (front_bit (ws ++ drop size work) (let u = (replaced_worked work ws judged.1 e).long in let v = judged.1 in omega arith) off b i c) ∙ ap (λ (z : List ℕ). bit_at z off i) (replaced_front work ws judged.1 e)

    -- ---- all rows went in
    module _ (k : ℕ) (ws : List ℕ) (x : ℕ) (literals' : List ℕ) (e : length ws ≡ length (take size work)) (a : AllIn (m_of s) store' (take size work) k ws)
        (l : ListPut (n_of s) 0 (scanned (n_of s) (vals (ws ++ drop size work) known_at) (vals (ws ++ drop size work) truth_at)) literals literals' x) where
      made : MadeAt ws (n_of s) (m_of s) Sheet kept 0 (λ j. 0) (λ j. false) k
      made = open_made (n_of s) (m_of s) Sheet kept is_kept store' rows_read judged.0.n_small judged.0.m_small (take size work) (let z = front_long work judged.1 in omega arith) k ws e a

      here : start (n_of s) (sheet_rows s) ≡ position (n_of s) (m_of s) Sheet 0 (λ j. 0) (λ j. false)
      unfolding codes_of
      here = ap (start (n_of s)) same_rows

      values : Values (position (n_of s) (m_of s) Sheet 0 (λ j. 0) (λ j. false)) made.known made.truth
      values = made_values (n_of s) (m_of s) Sheet 0 (λ j. 0) (λ j. false) kept k made.R made.β made.S made.known made.truth made.made

      solution : (b : Assignment) × Solves (position (n_of s) (m_of s) Sheet 0 (λ j. 0) (λ j. false)) b
      solution = made_solution (n_of s) (m_of s) Sheet 0 (λ j. 0) (λ j. false) kept k made.R made.β made.S made.known made.truth made.made

      knows : (v : ℕ) → Var (n_of s) v → vals (ws ++ drop size work) known_at v ≡ made.known v
      knows zero mv = let z = mv.low in absurd (omega arith)
      knows (suc i) mv = let b : i < 512 = let z = mv.high in let y = judged.0.n_small in omega arith in whole_bit ws e known_at (omega arith) i b ∙ made.values.knows i b

      trues : (v : ℕ) → Var (n_of s) v → vals (ws ++ drop size work) truth_at v ≡ made.truth v
      trues zero mv = let z = mv.low in absurd (omega arith)
      trues (suc i) mv = let b : i < 512 = let z = mv.high in let y = judged.0.n_small in omega arith in whole_bit ws e truth_at (omega arith) i b ∙ made.values.trues i b

      list_is : take x literals' ≡ scanned (n_of s) made.known made.truth
      list_is = listed_take (n_of s) _ literals literals' x l judged.2 ∙ scanned_same (n_of s) _ made.known _ made.truth knows trues

      answer : AnswersOpen (n_of s) (sheet_rows s) (opened k (take x literals'))
      unfolding codes_of
      answer =
          subst (λ (rs : Rows). AnswersOpen (n_of s) rs (opened k (take x literals'))) (sym same_rows)
          (subst (λ (ls : List ℕ). AnswersOpen (n_of s) (numbered (m_of s) Sheet) (opened k ls)) (sym list_is) (
            kept_rows (m_of s) Sheet kept,
            made_kept (n_of s) (m_of s) Sheet kept 0 (λ j. 0) (λ j. false) k made.R made.β made.S made.known made.truth made.made is_kept,
            made.made.built.count ∙ sym (kept_length (m_of s) Sheet kept),
            known_listed (position (n_of s) (m_of s) Sheet 0 (λ j. 0) (λ j. false)) solution made.known made.truth values,
          ))

      stands : Stands (opens_with (n_of s) (m_of s) k) (ws ++ drop size work) (start (n_of s) (sheet_rows s))
      stands = record {
        Sheet = Sheet;
        kept = kept;
        var = λ j. 0;
        val = λ j. false;
        fit = record {
          is_open = refl;
          vars = judged.0.n_small;
          rows = judged.0.m_small;
          kept = let z = a.few in let y = room (n_of s) k made.R made.β 0 (λ j. 0) made.made.built.tableau made.made.taken in omega arith;
          depth = omega arith;
        };
        is_kept = is_kept;
        made = rw (replaced_front work ws judged.1 e) made;
        here = here;
        reached = opened_reached (n_of s) (sheet_rows s) k (take x literals') answer;
      }

      pub promise_open :
          OpenPromise old s store work literals rows (opens_with (n_of s) (m_of s) k) (Ok (Opened x)) store' (ws ++ drop size work) literals' rows
      promise_open = record {
        refused = λ c q. absurd (not_refused c q);
        done = λ q. record {
          filled = filled;
          worked = replaced_worked work ws judged.1 e;
          leaves = (refl, l.few, listed_used (n_of s) _ literals literals' x l, refl, stands);
          said = opened k (take x literals');
          says = refl;
          right = answer;
        };
      }

    -- ---- row q contradicts
    module _ (k : ℕ) (ws : List ℕ) (x : ℕ) (rows' : List ℕ) (e : length ws ≡ length (take size work)) (a : Stopped (m_of s) store' (take size work) k ws)
        (l : ListPut (m_of s) 0 (numbers (m_of s) (bit_at (ws ++ drop size work) (from_at k))) rows rows' x) where
      abbrev q : ℕ
      q = a.q

      pub promise_unsatisfiable : OpenPromise old s store work literals rows nothing_open (Ok (Unsatisfiable x)) store' (ws ++ drop size work) literals rows'
      promise_unsatisfiable = record {
        refused = λ c z. absurd (not_refused c z);
        done = λ z. record {
          filled = filled;
          worked = replaced_worked work ws judged.1 e;
          leaves = (refl, l.few, refl, listed_used (m_of s) _ rows rows' x l);
          said = unsatisfiable (take x rows');
          says = refl;
          right = subst (λ (rs : Rows). AnswersOpen (n_of s) rs (unsatisfiable (take x rows'))) (sym same_rows)
              (subst (λ (ls : List ℕ). AnswersOpen (n_of s) (numbered (m_of s) Sheet) (unsatisfiable ls)) (sym list_is) (kept_rows q Sheet kept, takes_fails (n_of s) (m_of s) Sheet kept is_kept q a.low before f.0 f.1));
        };
      }
        where
          big : size ≤ length (take size work)
          big = let z = front_long work judged.1 in omega arith

          f : (t : ℕ → Bool) × Fails (n_of s) (m_of s) Sheet kept q t × ((j : ℕ) → j < max_rows → bit_at ws (from_at k) j ≡ same q j ⊕ t j)
          f = open_fails (n_of s) (m_of s) Sheet kept is_kept store' rows_read judged.0.n_small judged.0.m_small (take size work) big k ws a

          before : (j : ℕ) → j < q → (t : ℕ → Bool) → Fails (n_of s) (m_of s) Sheet kept j t → ⊥
          before = let b = opens_built (n_of s) (m_of s) Sheet kept is_kept store' rows_read judged.0.n_small judged.0.m_small (take size work) big q k a.middle (let z = a.low in omega arith) a.rows in
              no_failure (n_of s) (m_of s) Sheet kept q k b.R b.β b.S b.built

          bits : (j : ℕ) → j < m_of s → bit_at (ws ++ drop size work) (from_at k) j ≡ same q j ⊕ f.0 j
          bits j h = whole_bit ws e (from_at k) (let u = a.few in let v = a.low in let z = judged.0.m_small in omega arith) j (let z = judged.0.m_small in omega arith) ∙ f.2 j (let z = judged.0.m_small in omega arith)

          list_is : take x rows' ≡ map (λ r. r.number) (chosen (by_number f.0) (numbered q Sheet) ++ (record { number = suc q; row = Sheet q } ∷ []))
          list_is = listed_take (m_of s) _ rows rows' x l judged.3 ∙ numbers_failed q (m_of s) (bit_at (ws ++ drop size work) (from_at k)) f.0 kept Sheet a.low f.1.sum.0 bits

    pub promise_rows : (h : Header) (answer : Result Opening Refusal) (work' literals' rows' : List ℕ)
        → RowsOpened (n_of s) (m_of s) store' work literals rows h answer work' literals' rows'
        → OpenPromise old s store work literals rows h answer store' work' literals' rows'
    promise_rows _ _ _ _ _ (all_in k ws x ls e a l) = promise_open k ws x ls e a l
    promise_rows _ _ _ _ _ (stopped k ws x rs e a l) = promise_unsatisfiable k ws x rs e a l

-- ---- as the code has it: n and m as they were read
pub promise_filled : (old : Header) (s store work literals rows : List ℕ) (shape : Shape)
    → IsOpenReading s (length store) (length work) (length literals) (length rows) (Ok shape)
    → (store' : List ℕ) → store' ≡ store_words shape.n shape.m (drop 19 (bits_of s)) ++ drop (9 * shape.m) store
    → (h : Header) (answer : Result Opening Refusal) (work' literals' rows' : List ℕ)
    → RowsOpened shape.n shape.m store' work literals rows h answer work' literals' rows'
    → OpenPromise old s store work literals rows h answer store' work' literals' rows'
promise_filled old s store work literals rows shape e store' filled h answer work' literals' rows' o =
    promise_rows old s store work literals rows e.0 store' (rw (e.1.n_is, e.1.m_is) at filled) h answer work' literals' rows' (rw (e.1.n_is, e.1.m_is) at o)
