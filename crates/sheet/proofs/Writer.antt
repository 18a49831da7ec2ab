-- LAWS OF THE WRITER'S PROMISE.
--   write_accepted     what n, m and a row store are that are written, and the size
--   write_determined   two results that the promise allows are the same: bytes are below 256, so their bits tell them
-- Assumes nothing.
use Rattle.std.proofs.Common.{◌≡◌, List, ◌++◌, length, take, get_or, Result, Ok, Err, ℕ, ◌^◌, ◌<◌, sym, ap₂, ◌∙◌, subst, take-append-drop}
use Rattle.format.proofs.Accepted.{Writable, writable}
use Rattle.format.proofs.Answering.{answers_same}
use Rattle.format.proofs.Bytes.{bytes_same, byte_take}
use Rattle.format.specs.Refusals.{refusal}
use Rattle.format.specs.Sheet.{size_for, writer}
use Rattle.format.specs.declared.Refusal.{Refusal}
use Rattle.sheet.specs.Writer.{IsWriting, Out, Writes}

pub write_accepted : (n m : ℕ) (ws : List ℕ) (room size : ℕ) → IsWriting n m ws room (Ok size) → Writable n m ws room × (size ≡ size_for n m)
write_accepted n m ws room size e = (writable n m ws room e.0, e.1)

pub write_determined : (n m : ℕ) (ws old new new' : List ℕ) (a a' : Result ℕ Refusal) → ((i : ℕ) → get_or new i 0 < 2 ^ 8) → ((i : ℕ) → get_or new' i 0 < 2 ^ 8)
    → Writes n m ws old a new → Writes n m ws old a' new' → (a ≡ a') × (new ≡ new')
write_determined n m ws old new new' a a' h h' p q =
    let e : a ≡ a' = answers_same (refusal (writer n m ws (length old))) (λ size. size ≡ size_for n m) (λ x y f g. f ∙ sym g) a a' p.answer q.answer in
    (e, same a p.out (subst (λ (x : Result ℕ Refusal). Out x n m ws old new') (sym e) q.out))
  where
    same : (a : Result ℕ Refusal) → Out a n m ws old new → Out a n m ws old new' → new ≡ new'
    same (Err r) a b = a ∙ sym b
    same (Ok size) a b =
        let front : take size new ≡ take size new' =
        bytes_same (take size new) (take size new') (λ i. byte_take size new i h) (λ i. byte_take size new' i h') (a.front ∙ sym b.front) in
        sym (take-append-drop size new) ∙ ap₂ (λ (x y : List ℕ). x ++ y) front (a.back ∙ sym b.back) ∙ take-append-drop size new'
