-- LAWS OF READING A SHEET AND WRITING IT AGAIN.
--   again_refused, again_short, again_read   which answer is given: the reader's refusal; 7; what was read
--   same_bytes         what is written of what was read: the same bytes in front, the others as they were
--   again_determined   two results that the promise allows are the same
-- Assumes nothing.
use mathlib.Core.List.{List, [], ◌∷◌, ◌++◌}
use mathlib.Core.Path.{◌≡◌, refl, sym, ap, ap₂, ◌∙◌}
use Prim.Native.Nat.{ℕ, suc, ◌-◌, ◌^◌, ◌≤◌, ◌<◌}
use native.Mathlib.Omega.{arith}
use borrow.Author.Tests.{lt-ltb, le-ltb}
use lib.Dec.{ltb}
use lib.ListN.{drop, length, take, get_or, take-append-drop}
use Rattle.format.proofs.Refusing.{append-some, append-none}
use Rattle.format.proofs.Accepted.{Accepted}
use Rattle.format.proofs.Bytes.{bytes_same, byte_take}
use Rattle.format.proofs.Packed.{front_bits, back_bytes}
use Rattle.format.proofs.Undo.{write_read}
use Rattle.format.specs.Bits.{bits_of, put_at}
use Rattle.format.specs.Refusals.{check, refusal, number, Answers}
use Rattle.format.specs.Sheet.{n_of, m_of, store_words, sheet_bits, reader}
use Rattle.std.specs.Prelude.{Result, Ok, Err}
use Rattle.format.proofs.Answering.{number_pos, answers_same}
use Rattle.format.specs.declared.Refusal.{Refusal}
use Rattle.format.specs.declared.Refusal.TheVariants.{ShortAnswer}
use Rattle.cursor.proofs.Shapes.{shapes_same}
use Rattle.sheet.specs.Reader.{IsReading, stored}
use Rattle.cursor.specs.Shape.{HasNumbers}
use Rattle.sheet.specs.Rewriter.{rewriter, copied, Rewrites}
use Rattle.cursor.specs.declared.shape.Shape.{Shape}

module _ (s : List ℕ) (words bytes : ℕ) where
  pub again_refused : (r : Refusal) → IsReading s words (Err r) → Answers (refusal (rewriter s words bytes)) (HasNumbers (n_of s) (m_of s)) (Err r)
  again_refused r e =
      let some = append-some (reader s words) (check 7 (ltb bytes (length s)) ∷ []) (number r - 1) in
      let p = number_pos r in
      let q : number r ≡ suc (number r - 1) = omega (arith, p) in
      some (e ∙ q) ∙ sym q

  passed : (h : Shape) → IsReading s words (Ok h) → refusal (rewriter s words bytes) ≡ refusal (check 7 (ltb bytes (length s)) ∷ [])
  passed h e = append-none (reader s words) (check 7 (ltb bytes (length s)) ∷ []) refl e.0

  pub again_short : (h : Shape) → IsReading s words (Ok h) → bytes < length s → Answers (refusal (rewriter s words bytes)) (HasNumbers (n_of s) (m_of s)) (Err ShortAnswer)
  again_short h e l = passed h e ∙ simp (lt-ltb bytes (length s) l)

  pub again_read : (h : Shape) → IsReading s words (Ok h) → length s ≤ bytes → Answers (refusal (rewriter s words bytes)) (HasNumbers (n_of s) (m_of s)) (Ok h)
  again_read h e l = (passed h e ∙ simp (le-ltb bytes (length s) l), e.1)

pub same_bytes : (s rest old new : List ℕ) (room n m : ℕ) → Accepted s room n m → length s ≤ length old → length new ≡ length old
    → ((i : ℕ) → get_or s i 0 < 2 ^ 8) → ((i : ℕ) → get_or old i 0 < 2 ^ 8) → ((i : ℕ) → get_or new i 0 < 2 ^ 8)
    → bits_of new ≡ put_at (bits_of old) 0 (sheet_bits n m (store_words n m (drop 19 (bits_of s)) ++ rest)) → new ≡ s ++ drop (length s) old
same_bytes s rest old new room n m k hl hk hs ho hn e =
    let ws : List ℕ = store_words n m (drop 19 (bits_of s)) ++ rest in
    let front : take (length s) new ≡ s =
    bytes_same (take (length s) new) s (λ i. byte_take (length s) new i hn) hs
    (ap (λ (j : ℕ). bits_of (take j new)) k.size ∙ front_bits n m ws old new k.n_small (omega (arith, k.size)) hk e ∙ write_read s rest room n m k) in
    let back : drop (length s) new ≡ drop (length s) old =
    ap (λ (j : ℕ). drop j new) k.size ∙ back_bytes n m ws old new k.n_small (omega (arith, k.size)) hk ho hn e ∙ ap (λ (j : ℕ). drop j old) (sym k.size) in
    sym (take-append-drop (length s) new) ∙ ap₂ (λ (x y : List ℕ). x ++ y) front back

pub again_determined : (s old was new new' out out' : List ℕ) (a a' : Result Shape Refusal) → Rewrites s old was a new out → Rewrites s old was a' new' out' → (a ≡ a') × (new ≡ new') × (out ≡ out')
again_determined s old was new new' out out' a a' p q =
    let e : a ≡ a' = answers_same (refusal (rewriter s (length old) (length was))) (HasNumbers (n_of s) (m_of s)) (shapes_same (n_of s) (m_of s)) a a' p.answer q.answer in
    (e, p.store ∙ ap (λ (x : Result Shape Refusal). stored x s old) e ∙ sym q.store, p.bytes ∙ ap (λ (x : Result Shape Refusal). copied x s was) e ∙ sym q.bytes)
