-- ROWS TAKEN 64 AT A TIME: a word says which of them have a variable, and a loop goes over its ones.
--   settled_rows                            a row that is settled keeps all rows
--   chain_taken                             a pass is a chain of other steps, if each row that was passed over or taken is one, after those before it
--   Block post p q e x zs ws w rest         the loop over a block, which the pass from zs reached at ws: the rows up to the last one taken
--                                           have been stepped over, the others are as they were
--   block-init, block-end                   before it, and when no one is left
--   Next, block-next                        the row of the top one has the variable and those before it have been stepped over; a step for it goes on
-- Assumes nothing.
use mathlib.Core.Path.{◌≡◌, refl, sym, ap, ◌∙◌}
use mathlib.Core.List.{List}
use mathlib.Core.Bool.{true, false, true≢false}
use mathlib.Core.Logic.{inl, inr}
use denote.Ref.{MutBor}
use Prim.Native.Nat.{ℕ, zero, suc, ◌+◌, ◌-◌, ◌/◌, ◌^◌, ◌<◌, ◌≤◌}
use native.Mathlib.Decide.{dec_lt}
use native.Mathlib.Omega.{arith}
use lib.ListN.{length, get_or}
use Rattle.words.specs.Ones.{Top}
use Rattle.words.specs.Words.{bit_of, bit_at}
use Rattle.words.proofs.Bits.{bit_same}
use Rattle.words.proofs.Tops.{Left, left_start, left_end, left_seen, left_top, left_skip, left_next}
use Rattle.tableau.specs.Layout.{max_vars, max_rows, row_at, known_at}
use Rattle.tableau.specs.Buffer.{Chain, Column}
use Rattle.tableau.proofs.Runs.{chain_idle}
use Rattle.settle.specs.Values.{RowSettled, Leaves, RowTaken, passed, taken, StepApart}

-- ---- steps that keep the rows
pub settled_rows : (r : ℕ) (ws w : List ℕ) → RowSettled r ws w → (i : ℕ) → i < known_at → get_or w i 0 ≡ get_or ws i 0
settled_rows r ws w (inl h) i l = ap (λ (z : List ℕ). get_or z i 0) h.0
settled_rows r ws w (inr h) i l = h.1.rest i (inl l)

-- ---- what the steps of a pass come to
module _ (post : Leaves) (p : ℕ) (ws : List ℕ) (Want : ℕ → List ℕ → List ℕ → Type 0) where
  pub chain_taken : (k : ℕ) (w : List ℕ)
      → ((r : ℕ) (u : List ℕ) → r < k → Chain Want r ws u → bit_at u (row_at r) p ≡ false → Want r u u)
      → ((r : ℕ) (x y : MutBor (List ℕ)) → r < k → length x.now ≡ length ws → Chain Want r ws x.now → bit_at x.now (row_at r) p ≡ true → post x r tt y → Want r x.now y.now)
      → Chain (RowTaken post p) k ws w → Chain Want k ws w
  chain_taken zero w off on c = c
  chain_taken (suc k) w off on (v, e, c, s) = let d = chain_taken k v (λ r u l. off r u (omega arith)) (λ r x y l. on r x y (omega arith)) c in (v, e, d, go s d)
    where
      go : RowTaken post p k v w → Chain Want k ws v → Want k v w
      go (passed f h) d = rw h (off k v (omega arith) d f)
      go (taken x y g h f t) d = rw (sym g, sym h) (on k x y (omega arith) (ap length g ∙ e) (rw g d) (rw g f) t)

-- ---- the loop over the ones
pub record Block (post : Leaves) (p q e x : ℕ) (zs ws w : List ℕ) (rest : ℕ) : Type 0 where
  pub seen : ℕ
  pub upto : q + seen ≤ e
  pub ones : Left x seen rest
  pub going : Chain (RowTaken post p) (q + seen) zs w
  pub same : (i : ℕ) → row_at (q + seen) ≤ i → i < known_at → get_or w i 0 ≡ get_or ws i 0
  pub len : length w ≡ length zs

pub block-init : (post : Leaves) (p q e x : ℕ) (zs ws : List ℕ) → q ≤ e → x < 2 ^ 64 → length ws ≡ length zs → Chain (RowTaken post p) q zs ws → Block post p q e x zs ws ws x
block-init post p q e x zs ws l fits len c =
    let s : q + 0 ≡ q = omega arith in
    record { seen = 0; upto = omega arith; ones = left_start x fits; going = rw s c; same = λ i f g. refl; len = len }

pub record Next (post : Leaves) (p q e x : ℕ) (zs ws w : List ℕ) (i after : ℕ) : Type 0 where
  pub row : q + i < e
  pub has : bit_at w (row_at (q + i)) p ≡ true
  pub before : Chain (RowTaken post p) (q + i) zs w
  pub next : (y v : MutBor (List ℕ)) → y.now ≡ w → length v.now ≡ length w → post y (q + i) tt v → Block post p q e x zs ws v.now after

module _ (post : Leaves) (p k q e x : ℕ) (zs ws w : List ℕ) (rest : ℕ) (lp : p < max_vars) (few : k ≤ max_rows) (wide : e ≤ q + 64) (rows : e ≤ k) (keeps : StepApart post k) (col : Column ws q e p x)
    (b : Block post p q e x zs ws w rest) where
  -- the rows that are not yet stepped over are as they were
  as_was : (r : ℕ) → q + b.seen ≤ r → r < e → bit_at w (row_at r) p ≡ bit_at ws (row_at r) p
  as_was r l h = bit_same ws w (row_at r) (row_at r) p (b.same (row_at r + p / 64) (omega arith) (omega arith))

  -- over rows whose digits are none
  on : (n : ℕ) → q + n ≤ e → b.seen ≤ n → ((i : ℕ) → b.seen ≤ i → i < n → bit_of x (63 - i) ≡ false) → Chain (RowTaken post p) (q + n) zs w
  on n l o h =
      let s : q + b.seen + (n - b.seen) ≡ q + n = omega arith in
      rw s at (chain_idle (RowTaken post p) (q + b.seen) (n - b.seen) zs w b.len (λ r f g. passed (as_was r f (omega arith) ∙ off r f (omega arith)) refl) b.going)
    where
      off : (r : ℕ) → q + b.seen ≤ r → r < q + n → bit_at ws (row_at r) p ≡ false
      off r f g =
          let s : r ≡ q + (r - q) = omega arith in
          ap (λ (y : ℕ). bit_at ws (row_at y) p) s ∙ sym (col.has (r - q) (omega arith) (omega arith)) ∙ h (r - q) (omega arith) (omega arith)

  pub block-end : rest ≡ 0 → Chain (RowTaken post p) e zs w
  block-end z =
      let u = b.upto in
      let s : q + (e - q) ≡ e = omega arith in
      rw s at (on (e - q) (omega arith) (omega arith) (λ i f g. left_end x b.seen rest b.ones z i f (omega arith)))

  pub block-next : (i after : ℕ) → Top rest i after → Next post p q e x zs ws w i after
  block-next i after t =
      record {
        row = row;
        has = has;
        before = before;
        next = λ y v g l c.
            let s : q + suc i ≡ suc (q + i) = omega arith in
            record {
              seen = suc i;
              upto = omega (arith, row);
              ones = left_next x b.seen rest i after b.ones t;
              going = rw s (w, b.len, before, taken y v g refl has c);
              same = λ j f h. keeps (q + i) y v (omega (arith, row)) c j (omega arith) h ∙ ap (λ z. get_or z j 0) g ∙ b.same j (omega (arith, seen)) h;
              len = l ∙ b.len;
            };
      }
    where
      seen : b.seen ≤ i
      seen = left_seen x b.seen rest i after b.ones t

      one : bit_of x (63 - i) ≡ true
      one = left_top x b.seen rest i after b.ones t

      row : q + i < e
      row = go (dec_lt (q + i) e)
        where
          go : Dec (q + i < e) → q + i < e
          go (yes h) = h
          go (no h) = absurd (true≢false (sym one ∙ col.none i t.place (omega arith)))

      has : bit_at w (row_at (q + i)) p ≡ true
      has = as_was (q + i) (omega (arith, seen)) row ∙ sym (col.has i t.place row) ∙ one

      before : Chain (RowTaken post p) (q + i) zs w
      before = on i (omega (arith, row)) seen (λ j g h. left_skip x b.seen rest i after b.ones t j g (omega arith))
