use Rattle.std.proofs.Common.{[], add-one, ap, arith, drop, drop-drop, refl, rules, sym, ℕ, ◌*◌, ◌++◌, ◌+◌, ◌∙◌, ◌∷◌, ◌≡◌}
use Rattle.format.proofs.Rows.{fill_step}
use Rattle.format.specs.Bits.{bits_of}
use Rattle.format.specs.Sheet.{row_words, store_words}
use Rattle.sheet.proofs.fill.Goals as goal

pub loop-r-init : goal.loop-r-init
unfolding store_words
loop-r-init c = (omega arith, search rules, refl)

pub loop-r-preserved : goal.loop-r-preserved
loop-r-preserved c =
    let a = c.args in
    let l = c.loop-r in
    let row = c.row_at-row in
    let keep = c.keep in
    let bs = bits_of a.s.now in
    let e : row.result.words ++ (row.result.parity ∷ []) ≡ row_words a.shape.n (drop (l.r * (a.shape.n + 1)) (drop 19 bs)) =
    row.ensures.0 ∙ ap (λ (k : ℕ). row_words a.shape.n (drop k bs)) l.invariant.0 ∙ ap (row_words a.shape.n) (sym (drop-drop (l.r * (a.shape.n + 1)) 19 bs)) in (
      omega (arith, row.ensures.1),
      keep.auto.store ∙ l.invariant.1,
      rw add-one (keep.ensures ∙ fill_step a.shape.n l.r (drop 19 bs) l.store a.store.now (row.result.words ++ (row.result.parity ∷ [])) l.invariant.2 e),
    )
