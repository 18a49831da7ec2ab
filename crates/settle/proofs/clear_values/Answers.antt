use Rattle.std.proofs.Common.{List, length, take, drop, replicate, arith, ℕ, ◌+◌, ◌≡◌, ◌≤◌}
use Rattle.std.proofs.lemmas.Grind.{common_steps}
use Rattle.std.proofs.lemmas.List.{get_or-replicate}
use borrow.Rule.Slice.PartMut.{put_mid}
use Rattle.tableau.specs.Buffer.{Run}
use Rattle.tableau.specs.Layout.{known_at}
use Rattle.settle.proofs.clear_values.Goals as goal

cleared : (a k : ℕ) (ws ys : List ℕ) → a + k ≤ length ws → ys ≡ replicate (length (take k (drop a ws))) 0 → Run a k (λ i. 0) ws (put_mid a k ws ys)
cleared a k ws ys l e = grind (arith, common_steps, get_or-replicate)

pub returns : goal.returns
returns c = cleared known_at 16 c.args.work.now c.fill.new.self (omega arith) (c.fill.ensures.after (λ y h. h))
