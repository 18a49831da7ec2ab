-- READING AND WRITING UNDO EACH OTHER: of the promises, so of every reader and writer that keep them.
--   accepted_read     a sheet that passes every check is read
--   write_of_read     what was read of a sheet is written as the same bytes
--   written_of_read   the writer takes what was read
--   read_of_write     what was written of a row store is read, with the same n, m and rows
-- Assumes nothing.
use mathlib.Core.Bool.{Bool, true}
use mathlib.Core.List.{List, ◌++◌}
use mathlib.Core.Path.{◌≡◌, refl, sym, ap, ◌∙◌}
use Prim.Native.Nat.{ℕ, ◌+◌, ◌*◌, ◌^◌, ◌≤◌, ◌<◌}
use native.Mathlib.Omega.{arith}
use borrow.Author.Tests.{le-ltb}
use lib.ListN.{drop, length, take, length-append, length-drop, get_or}
use lib.Seq.{take_at}
use Rattle.format.proofs.Accepted.{later_none, Accepted}
use Rattle.format.proofs.Bytes.{length-bits_of, bytes_same, byte_take}
use Rattle.format.proofs.Rows.{length-store_words}
use Rattle.format.proofs.Undo.{write_read, read_write, clean_read}
use Rattle.format.specs.Bits.{bits_of}
use Rattle.format.specs.Refusals.{refusal}
use Rattle.format.specs.Sheet.{n_of, m_of, size_for, reader, store_words, sheet_bits, clean, writer}
use Rattle.std.specs.Prelude.{Result, Ok}
use Rattle.format.proofs.Answering.{answers_same}
use Rattle.format.specs.declared.Refusal.{Refusal}
use Rattle.cursor.proofs.Shapes.{shapes_same}
use Rattle.sheet.proofs.Reader.{reading_is, read_accepted}
use Rattle.sheet.proofs.Writer.{write_accepted}
use Rattle.sheet.specs.Reader.{IsReading, stored, Reads}
use Rattle.cursor.specs.Shape.{HasNumbers}
use Rattle.sheet.specs.Writer.{IsWriting, Writes}
use Rattle.cursor.specs.declared.shape.Shape.{Shape}

pub accepted_read : (s : List ℕ) (room : ℕ) (h : Shape) → Accepted s room h.n h.m → IsReading s room (Ok h)
accepted_read s room h k =
    reading_is s room 0 (Ok h) (omega (arith, k.size))
    (rw (← k.n_is, ← k.m_is) (later_none s h.n h.m room k.n_small k.m_small k.size (omega (arith, k.zeros)) k.room_enough))
    (refl, record { n_is = k.n_is; m_is = k.m_is })

module _ (s old store : List ℕ) (h : Shape) (p : Reads s old (Ok h) store) where
  pub write_of_read : (was out : List ℕ) (size : ℕ) → ((i : ℕ) → get_or s i 0 < 2 ^ 8) → ((i : ℕ) → get_or out i 0 < 2 ^ 8) → Writes h.n h.m store was (Ok size) out → take (length s) out ≡ s
  write_of_read was out size hs ho q =
      let k = read_accepted s (length old) h p.answer in
      let e : length s ≡ size = k.size ∙ sym (write_accepted h.n h.m store (length was) size q.answer).1 in
      bytes_same (take (length s) out) s (λ i. byte_take (length s) out i ho) hs
      (ap (λ (j : ℕ). bits_of (take j out)) e ∙ q.out.front ∙ ap (sheet_bits h.n h.m) p.store ∙ write_read s (drop (9 * h.m) old) (length old) h.n h.m k)

  pub written_of_read : (room : ℕ) → length s ≤ room → IsWriting h.n h.m store room (Ok (length s))
  written_of_read room l =
      let n = h.n in
      let m = h.m in
      let k = read_accepted s (length old) h p.answer in
      let bs : List Bool = drop 19 (bits_of s) in
      let lb : m * (n + 1) ≤ length bs = omega (arith, length-drop 19 (bits_of s), length-bits_of s, k.size) in
      let ls : 9 * m ≤ length store = omega (arith, ap length p.store, length-append (store_words n m bs) (drop (9 * m) old), length-store_words n m bs) in
      let c : clean n m store ≡ true = ap (clean n m) p.store ∙ clean_read n m bs (drop (9 * m) old) k.n_small lb in
      let e : refusal (writer n m store room) ≡ 0 = simp (le-ltb 512 n k.n_small, le-ltb 256 m k.m_small, le-ltb (length store) (9 * m) ls, c, le-ltb room (size_for n m) (omega (arith, k.size))) in
      (e, k.size)

module _ (n m : ℕ) (ws was out : List ℕ) (size : ℕ) (fit : (i : ℕ) → get_or ws i 0 < 2 ^ 64) (q : Writes n m ws was (Ok size) out) where
  pub read_of_write : (old store : List ℕ) (a : Result Shape Refusal) → 9 * m ≤ length old → Reads (take size out) old a store → ((h : Shape) × (a ≡ Ok h) × HasNumbers n m h) × (take (9 * m) store ≡ take (9 * m) ws)
  read_of_write old store a l p =
      let s : List ℕ = take size out in
      let w = (write_accepted n m ws (length was) size q.answer).0 in
      let b = read_write s ws (length old) n m w.n_small w.m_small w.words_enough l fit w.is_clean q.out.front in
      let h : Shape = record { n = n; m = m; n_fits = w.n_small; m_fits = w.m_small } in
      let e : a ≡ Ok h = answers_same (refusal (reader s (length old))) (HasNumbers (n_of s) (m_of s)) (shapes_same (n_of s) (m_of s)) a (Ok h) p.answer (accepted_read s (length old) h b.0) in
      let rows : List ℕ = store_words n m (drop 19 (bits_of s)) in
      let d : store ≡ rows ++ drop (9 * m) old = p.store ∙ ap (λ (x : Result Shape Refusal). stored x s old) e in
      ((h, e, record { n_is = refl; m_is = refl }), ap (take (9 * m)) d ∙ take_at rows (drop (9 * m) old) (9 * m) (length-store_words n m (drop 19 (bits_of s))) ∙ b.1)
