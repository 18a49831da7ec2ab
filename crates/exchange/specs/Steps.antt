-- WHAT A LITERAL DOES TO THE BUFFER (document 01, "Assuming"): on every buffer, and what it means for a state of the module.
--   RowCleared p i r ws w    row p has been added to row r, if that is another and has variable i + 1
--   IsPartner ws r p u       u is the lowest variable of row r that has no value and is not p + 1
--   Partner ws r p x         x is that variable, and nothing where there is none
--   FoundAt ws k v r         r is the home of variable v, which is below k and has v as its basic variable
--   Found ws k v x           x is that row, and nothing where the home of v is no such row
--   pointed p u ws           the buffer with u as the basic variable of row p
--   Exchanged k p u ws w     variable u has been removed from the rows below k but p, and is basic in row p
--   RowTurned p u r ws w     row p has been added to row r, if that has variable u, and row r has then been settled; row p itself has been pointed to u and settled
--   Turned k p u q b ws w    variable q + 1 has been given the value b, and the rows below k have been turned, one after another
--   Took k d code ws w x     a literal without a value: its variable is not basic at its home, or has been exchanged there, and it is taken (x true); or it cannot be (x false)
--   Stepped k n d code ws w x   what a literal comes to at depth d of n; it is stuck by its row, or because n are taken
--   OfferOutcome             the same for a state of the module: what the definitions give, and the state afterwards; nothing is stuck
-- Assumes nothing.
use Rattle.std.specs.Prelude.{◌≡◌, List, Option, None, Some, ◌≢◌, ◌⊎◌, Bool, true, false, ℕ, suc, ◌+◌, ◌*◌, ◌-◌, ◌%◌, ◌<◌, ◌≤◌, length, get_or, set}
use Rattle.gf2.specs.Rows.{Row}
use Rattle.gf2.specs.Answers.{variable, value}
use Rattle.linear.specs.Systems.{Implied, Conflict, And, Literals}
use Rattle.linear.specs.State.{with_at, with_bool}
use Rattle.words.specs.declared.variable.Variable.{Variable}
use Rattle.words.specs.Words.{bit_at}
use Rattle.tableau.specs.Layout.{max_vars, row_at, last_at, known_at, truth_at}
use Rattle.tableau.specs.Buffer.{basic_at, home_at, Added, Recorded, Homed, Chain}
use Rattle.tableau.specs.View.{MadeAt}
use Rattle.exchange.specs.declared.Offer.{Offer}
use Rattle.exchange.specs.declared.Offer.TheVariants as offer
use Rattle.settle.specs.Values.{lacks, Put, RowSettled, Followed}

abbrev pub RowCleared : (p i : ℕ) → ℕ → List ℕ → List ℕ → Type 0
RowCleared p i r ws w = ((w ≡ ws) × ((r ≡ p) ⊎ (bit_at ws (row_at r) i ≡ false))) ⊎ ((r ≢ p) × (bit_at ws (row_at r) i ≡ true) × Added p r ws w)

pub record IsPartner (ws : List ℕ) (r p u : ℕ) : Type 0 where
  pub first : 0 < u
  pub last : u ≤ max_vars
  pub other : u - 1 ≢ p
  pub free : lacks ws r (u - 1) ≡ true
  pub least : (i : ℕ) → suc i < u → i ≢ p → lacks ws r i ≡ false

abbrev pub Partner : List ℕ → (r p : ℕ) → Option Variable → Type 0
Partner ws r p None = (i : ℕ) → i < max_vars → i ≢ p → lacks ws r i ≡ false
Partner ws r p (Some u) = IsPartner ws r p u.number

pub record FoundAt (ws : List ℕ) (k v r : ℕ) : Type 0 where
  pub below : r < k
  pub home : home_at ws v ≡ r
  pub basic : basic_at ws r ≡ v

abbrev pub Found : List ℕ → (k v : ℕ) → Option ℕ → Type 0
Found ws k v None = home_at ws v < k → basic_at ws (home_at ws v) ≢ v
Found ws k v (Some r) = FoundAt ws k v r

abbrev pub pointed : ℕ → ℕ → List ℕ → List ℕ
pointed p u ws = set ws (last_at p) (2 * u + get_or ws (last_at p) 0 % 2)

pub record Exchanged (k p u : ℕ) (ws w : List ℕ) : Type 0 where
  pub middle : List ℕ
  pub cleared : Chain (RowCleared p (u - 1)) k ws middle
  pub long : length middle ≡ length ws
  pub points : w ≡ pointed p u middle

pub data RowTurned (p u r : ℕ) (ws w : List ℕ) : Type 0 where
  idle : r ≢ p → bit_at ws (row_at r) (u - 1) ≡ false → w ≡ ws → RowTurned p u r ws w
  added : (v : List ℕ) → r ≢ p → bit_at ws (row_at r) (u - 1) ≡ true → Added p r ws v → RowSettled r v w → RowTurned p u r ws w
  centre : r ≡ p → RowSettled r (pointed r u ws) w → RowTurned p u r ws w

pub record Turned (k p u q : ℕ) (b : Bool) (ws w : List ℕ) : Type 0 where
  pub begun : List ℕ
  pub given : Put q b ws begun
  pub turned : Chain (RowTurned p u) k begun w

pub data Took (k d code : ℕ) (ws w : List ℕ) : Bool → Type 0 where
  followed : (v : List ℕ) → Found ws k (variable code) None → Recorded d code ws v → Followed k (variable code - 1) (value code) v w → Took k d code ws w true
  turned : (p u : ℕ) (z v : List ℕ) → Found ws k (variable code) (Some p) → IsPartner ws p (variable code - 1) u → Homed u p ws z → Recorded d code z v → Turned k p u (variable code - 1) (value code) v w → Took k d code ws w true
  stuck : (p : ℕ) → Found ws k (variable code) (Some p) → Partner ws p (variable code - 1) None → w ≡ ws → Took k d code ws w false

abbrev pub Stepped : (k n d code : ℕ) → List ℕ → List ℕ → Offer → Type 0
Stepped k n d code ws w offer.Held = (w ≡ ws) × (bit_at ws known_at (variable code - 1) ≡ true) × (bit_at ws truth_at (variable code - 1) ≡ value code)
Stepped k n d code ws w offer.Conflict = (w ≡ ws) × (bit_at ws known_at (variable code - 1) ≡ true) × (bit_at ws truth_at (variable code - 1) ≢ value code)
Stepped k n d code ws w offer.Taken = (bit_at ws known_at (variable code - 1) ≡ false) × (d < n) × Took k d code ws w true
Stepped k n d code ws w offer.Stuck = (w ≡ ws) × (bit_at ws known_at (variable code - 1) ≡ false) × ((n ≤ d) ⊎ Took k d code ws w false)

abbrev pub OfferOutcome : (n m : ℕ) → (ℕ → Row) → (ℕ → Bool) → (d : ℕ) → (ℕ → ℕ) → (ℕ → Bool) → (k v : ℕ) → Bool → List ℕ → Offer → Type 0
OfferOutcome n m Sheet kept d x y k v b w offer.Held = Implied n m Sheet (Literals d x y) v b × MadeAt w n m Sheet kept d x y k
OfferOutcome n m Sheet kept d x y k v b w offer.Conflict = Conflict n m Sheet (And (Literals d x y) v b) × MadeAt w n m Sheet kept d x y k
OfferOutcome n m Sheet kept d x y k v b w offer.Taken =
    (Implied n m Sheet (Literals d x y) v b → ⊥) × (Conflict n m Sheet (And (Literals d x y) v b) → ⊥) × MadeAt w n m Sheet kept (suc d) (with_at x d v) (with_bool y d b) k
OfferOutcome n m Sheet kept d x y k v b w offer.Stuck = ⊥
