-- SETTLING after the taken literals are set makes the state.
--   settle_made    the last step of open, assume and back
--   taken_fewer    going back keeps what is asked of the literals
-- Assumes nothing.
use mathlib.Core.Path.{◌≡◌, sym, ap, ◌∙◌}
use mathlib.Core.Bool.{Bool, true}
use mathlib.Core.Logic.{◌≢◌}
use Prim.Native.Nat.{ℕ, ◌<◌, ◌≤◌}
use native.Mathlib.Omega.{arith}
use Rattle.gf2.specs.Rows.{Var, Row}
use Rattle.linear.specs.Systems.{Literals, NonBasic}
use Rattle.linear.proofs.Tableaux.{other_free}
use Rattle.linear.specs.State.{Built, Taken, Made, Started, Finished}

module _ (n m : ℕ) (Sheet : ℕ → Row) (kept : ℕ → Bool) (k : ℕ) (R : ℕ → Row) (β : ℕ → ℕ) (S : ℕ → ℕ → Bool) (b : Built n m Sheet kept m k R β S) where
  module _ (d : ℕ) (x : ℕ → ℕ) (y : ℕ → Bool) (t : Taken n d x k β) (known truth known' truth' : ℕ → Bool) (s : Started n d x y k β known truth) (f : Finished n k R β known truth known' truth') where
    other : (r v : ℕ) → r < k → Var n v → R r v ≡ true → v ≢ β r → known' v ≡ known v
    other r v l mv e ne = (f.free v mv (other_free n k R β b.tableau r v l e ne)).0

    pub settle_made : Made n m Sheet kept d x y k R β S known' truth'
    settle_made =
        record {
          built = b;
          taken = t;
          settled =
              record {
                assumed = λ v c w. assumed v c w;
                free = λ v mv nb e. free v mv nb (s.off v mv nb (sym (f.free v mv nb).0 ∙ e));
                basic_if = λ r l h. f.if r l (λ v mv e ne. sym (other r v l mv e ne) ∙ h v mv e ne);
                basic_only_if = λ r l h v mv e ne. other r v l mv e ne ∙ f.only_if r l h v mv e ne;
                basic_value = f.value;
              };
        }
      where
        at : (j : ℕ) → j < d → (known' (x j) ≡ true) × (truth' (x j) ≡ y j)
        at j l = let w = f.free (x j) (t.var j l) (t.apart j l) in (w.0 ∙ (s.on j l).0, w.1 ∙ (s.on j l).1)

        assumed : (v : ℕ) (c : Bool) → Literals d x y v c → (known' v ≡ true) × (truth' v ≡ c)
        assumed v c w = let h = at w.0 w.1 in (ap known' (sym w.2) ∙ h.0, ap truth' (sym w.2) ∙ h.1 ∙ w.3)

        free : (v : ℕ) → Var n v → NonBasic k β v → ((j : ℕ) × (j < d) × (x j ≡ v)) → Literals d x y v (truth' v)
        free v mv nb w = (w.0, w.1, w.2, sym (at w.0 w.1).1 ∙ ap truth' w.2)

-- going back keeps what is asked of the literals
pub taken_fewer : (n d c : ℕ) (x : ℕ → ℕ) (k : ℕ) (β : ℕ → ℕ) → c ≤ d → Taken n d x k β → Taken n c x k β
taken_fewer n d c x k β l t =
    record {
      var = λ j h. t.var j (omega arith);
      distinct = λ i j h g e. t.distinct i j (omega arith) (omega arith) e;
      apart = λ j h. t.apart j (omega arith);
    }
