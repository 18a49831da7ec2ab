use Rattle.std.proofs.Common.{List, [], ap, ap₂, arith, drop, length, length-append, rules, set, sym, take, take_all, ℕ, ◌++◌, ◌+◌, ◌∙◌, ◌∷◌, ◌≡◌}
use Rattle.std.proofs.lemmas.List.{append_assoc, take_at, drop-drop}
use lib.Seq.{get_or_at, paste, paste-suc}
use Rattle.sheet.proofs.keep.Goals as goal

pub returns : goal.returns
returns c =
    let s = c.args.store.now in
    let base = c.args.base in
    let words = c.args.row.words in
    let parity = c.args.row.parity in
    let row = words ++ (parity ∷ []) in
    let lw : length words ≡ 8 = search rules in
    let lr : length row ≡ 9 = length-append words (parity ∷ []) ∙ ap (λ (k : ℕ). k + 1) lw in
    let eight : take base s ++ (words ++ drop 8 (drop base s)) ≡ paste s base row 8 =
    ap₂ (λ (x y : List ℕ). take base s ++ (x ++ y)) (sym (take_at words (parity ∷ []) 8 lw)) (drop-drop 8 base s) ∙ sym (append_assoc (take base s) (take 8 row) (drop (base + 8) s)) in
    ap₂ (λ (d : List ℕ) (x : ℕ). set d (base + 8) x) (search (rules, eight)) (sym (get_or_at words parity [] 0 8 lw))
    ∙ paste-suc s base row 8 0 (omega arith) (omega arith)
    ∙ ap (λ (r : List ℕ). take base s ++ r ++ drop (base + 9) s) (take_all 9 row (omega arith))
    ∙ append_assoc (take base s) row (drop (base + 9) s)
