-- A VARIABLE THAT NO ROW IS FOUND FOR is not basic, where each row is the home of its basic variable.
--   found_none    where `find` gives none, the variable is basic in no row below k
-- Assumes nothing.
use mathlib.Core.Path.{◌≡◌, sym, ap, ◌∙◌}
use mathlib.Core.List.{List}
use Prim.Native.Nat.{ℕ, ◌<◌}
use Rattle.std.specs.Prelude.{None}
use Rattle.linear.specs.Systems.{NonBasic}
use Rattle.tableau.specs.Buffer.{basic_at, home_at}
use Rattle.tableau.specs.View.{Homes}
use Rattle.exchange.specs.Steps.{Found}

pub found_none : (k v : ℕ) (ws : List ℕ) (β : ℕ → ℕ) → Homes k ws → ((r : ℕ) → r < k → basic_at ws r ≡ β r) → Found ws k v None → NonBasic k β v
found_none k v ws β homes basics f r l e = f (rw at_home l) (rw at_home basic)
  where
    basic : basic_at ws r ≡ v
    basic = basics r l ∙ e

    at_home : home_at ws v ≡ r
    at_home = ap (home_at ws) (sym basic) ∙ homes r l
