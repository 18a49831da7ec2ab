-- BACK on a state that the module made: the state is one made for the first literals.
-- Assumes nothing.
use mathlib.Core.Path.{◌≡◌, ap, ◌∙◌}
use mathlib.Core.List.{List, ◌++◌}
use lib.ListN.{length, take, drop}
use Prim.Native.Nat.{ℕ, ◌≤◌}
use native.Mathlib.Omega.{arith}
use Rattle.gf2.specs.Answers.{Position, withdrawn}
use Rattle.gf2.proofs.Reach.{withdrawn_reached}
use Rattle.linear.specs.Positions.{numbered}
use Rattle.linear.proofs.Joined.{codes_fewer}
use Rattle.judge.specs.declared.Header.{Header}
use Rattle.judge.specs.Checks.{at_depth}
use Rattle.settle.specs.Values.{Restarted}
use Rattle.settle.proofs.Restarts.{back_step}
use Rattle.tableau.specs.Layout.{size}
use Rattle.parity.specs.Promises.{Stands}
use Rattle.parity.proofs.Part.{replaced_front}

pub back_stands : (h : Header) (work ws : List ℕ) (p : Position) → Stands h work p → size ≤ length work → length ws ≡ length (take size work) → (d : ℕ) → d ≤ h.depth
    → Restarted h.kept d (take size work) ws → Stands (at_depth h d) (ws ++ drop size work) (withdrawn p d)
back_stands h work ws p s l e d ld re = record {
  Sheet = s.Sheet;
  kept = s.kept;
  var = s.var;
  val = s.val;
  fit = record { is_open = s.fit.is_open; vars = s.fit.vars; rows = s.fit.rows; kept = s.fit.kept; depth = let a = s.fit.depth in omega arith };
  is_kept = s.is_kept;
  made = rw (replaced_front work ws l e) (back_step h.n h.m s.Sheet s.kept h.depth s.var s.val h.kept (take size work) ws e s.made d ld re);
  here = ap (λ (q : Position). withdrawn q d) s.here ∙ ap (λ (ls : List ℕ). record { n = h.n; rows = numbered h.m s.Sheet; taken = ls }) (codes_fewer d h.depth s.var s.val ld);
  reached = withdrawn_reached p s.reached d;
}
