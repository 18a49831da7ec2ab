-- WHAT THE CHECKS OF THE READER AND OF THE WRITER COME TO.
--   bits_bound           a sheet within the bounds has few bits
--   later s n m room     the reader's checks after the first, with n and m as the sheet has them
--   first_1, later_2 ..  the number of the first check that holds
--   Accepted, accepted   what a sheet is that passes them all, and that it is so
--   Writable, writable   the same of what is to be written
-- Assumes nothing.
use mathlib.Core.Bool.{true, cond}
use mathlib.Core.List.{List, [], ◌∷◌}
use mathlib.Core.Path.{◌≡◌, refl, sym, ap₂, ◌∙◌}
use Prim.Native.Nat.{ℕ, ◌+◌, ◌-◌, ◌*◌, ◌≤◌, ◌<◌}
use native.Mathlib.Nat.{mul-le-mul}
use native.Mathlib.Omega.{arith}
use borrow.Author.Tests.{lt-ltb, le-ltb, ltb-false}
use lib.Dec.{ltb}
use lib.ListN.{drop, length, take, length-drop}
use lib.Seq.{take_all}
use Rattle.format.proofs.Bytes.{length-bits_of}
use Rattle.format.proofs.Clean.{not_false}
use Rattle.format.specs.Bits.{bits_of, value_of}
use Rattle.format.specs.Refusals.{Check, check, refusal}
use Rattle.format.specs.Sheet.{n_of, m_of, bits_for, size_for, padding_of, clean, reader, writer}
use Rattle.format.proofs.Refusing as refusing

pub bits_bound : (n m : ℕ) → n ≤ 512 → m ≤ 256 → m * (n + 1) ≤ 131328
bits_bound n m hn hm =
    let h : n + 1 ≤ 513 = omega arith in
    mul-le-mul hm h

abbrev pub later : List ℕ → ℕ → ℕ → ℕ → List Check
later s n m room =
    check 2 (ltb 512 n)
    ∷ check 3 (ltb 256 m)
    ∷ check 1 (ltb (length s) (size_for n m))
    ∷ check 4 (ltb (size_for n m) (length s))
    ∷ check 5 (ltb 0 (value_of (drop (bits_for n m) (bits_of s))))
    ∷ check 6 (ltb room (9 * m))
    ∷ []

pub first_1 : (s : List ℕ) (room : ℕ) → length s < 3 → refusal (reader s room) ≡ 1
first_1 s room h = simp (lt-ltb (length s) 3 h)

pub first_passed : (s : List ℕ) (room n m : ℕ) → 3 ≤ length s → n ≡ n_of s → m ≡ m_of s → refusal (reader s room) ≡ refusal (later s n m room)
first_passed s room n m h en em = simp (le-ltb (length s) 3 h) (ap₂ (λ (x y : ℕ). refusal (later s x y room)) (sym en) (sym em))

module _ (s : List ℕ) (n m room : ℕ) where
  pub later_2 : 512 < n → refusal (later s n m room) ≡ 2
  later_2 h = simp (lt-ltb 512 n h)

  pub later_3 : n ≤ 512 → 256 < m → refusal (later s n m room) ≡ 3
  later_3 hn h = simp (le-ltb 512 n hn, lt-ltb 256 m h)

  pub later_1 : n ≤ 512 → m ≤ 256 → length s < size_for n m → refusal (later s n m room) ≡ 1
  later_1 hn hm h = simp (le-ltb 512 n hn, le-ltb 256 m hm, lt-ltb (length s) (size_for n m) h)

  pub later_4 : n ≤ 512 → m ≤ 256 → size_for n m < length s → refusal (later s n m room) ≡ 4
  later_4 hn hm h = simp (le-ltb 512 n hn, le-ltb 256 m hm, le-ltb (length s) (size_for n m) (omega arith), lt-ltb (size_for n m) (length s) h)

  module _ (hn : n ≤ 512) (hm : m ≤ 256) (hs : length s ≡ size_for n m) where
    -- the padding, as the reader takes it
    pub padding : take (size_for n m * 8 - bits_for n m) (drop (bits_for n m) (bits_of s)) ≡ drop (bits_for n m) (bits_of s)
    padding =
        take_all (size_for n m * 8 - bits_for n m) (drop (bits_for n m) (bits_of s))
        (omega (arith, length-drop (bits_for n m) (bits_of s), length-bits_of s))

    sized : refusal (later s n m room) ≡ cond (ltb 0 (value_of (drop (bits_for n m) (bits_of s)))) 5 (cond (ltb room (9 * m)) 6 0)
    sized = simp (le-ltb 512 n hn, le-ltb 256 m hm, le-ltb (length s) (size_for n m) (omega arith), le-ltb (size_for n m) (length s) (omega arith))

    pub later_5 : 0 < value_of (drop (bits_for n m) (bits_of s)) → refusal (later s n m room) ≡ 5
    later_5 h = sized ∙ simp (lt-ltb 0 (value_of (drop (bits_for n m) (bits_of s))) h)

    pub later_6 : value_of (drop (bits_for n m) (bits_of s)) ≤ 0 → room < 9 * m → refusal (later s n m room) ≡ 6
    later_6 h l = sized ∙ simp (le-ltb 0 (value_of (drop (bits_for n m) (bits_of s))) h, lt-ltb room (9 * m) l)

    pub later_none : value_of (drop (bits_for n m) (bits_of s)) ≤ 0 → 9 * m ≤ room → refusal (later s n m room) ≡ 0
    later_none h l = sized ∙ simp (le-ltb 0 (value_of (drop (bits_for n m) (bits_of s))) h, le-ltb room (9 * m) l)

-- ---- what passes every check

pub record Accepted (s : List ℕ) (room n m : ℕ) : Type 0 where
  pub n_is : n ≡ n_of s
  pub m_is : m ≡ m_of s
  pub n_small : n ≤ 512
  pub m_small : m ≤ 256
  pub size : length s ≡ size_for n m
  pub zeros : value_of (drop (bits_for n m) (bits_of s)) ≡ 0
  pub room_enough : 9 * m ≤ room

pub accepted : (s : List ℕ) (room : ℕ) → refusal (reader s room) ≡ 0 → Accepted s room (n_of s) (m_of s)
accepted s room e =
    let p = refusing.accepted (reader s room) refl e in
    let a = ltb-false (length s) (size_for (n_of s) (m_of s)) p.1.1.1.0 in
    let b = ltb-false (size_for (n_of s) (m_of s)) (length s) p.1.1.1.1.0 in
    let z = ltb-false 0 (padding_of s) p.1.1.1.1.1.0 in
    record {
      n_is = refl;
      m_is = refl;
      n_small = ltb-false 512 (n_of s) p.1.0;
      m_small = ltb-false 256 (m_of s) p.1.1.0;
      size = omega (arith, a, b);
      zeros = omega (arith, z);
      room_enough = ltb-false room (9 * m_of s) p.1.1.1.1.1.1.0;
    }

pub record Writable (n m : ℕ) (ws : List ℕ) (room : ℕ) : Type 0 where
  pub n_small : n ≤ 512
  pub m_small : m ≤ 256
  pub words_enough : 9 * m ≤ length ws
  pub is_clean : clean n m ws ≡ true
  pub room_enough : size_for n m ≤ room

pub writable : (n m : ℕ) (ws : List ℕ) (room : ℕ) → refusal (writer n m ws room) ≡ 0 → Writable n m ws room
writable n m ws room e =
    let p = refusing.accepted (writer n m ws room) refl e in
    record {
      n_small = ltb-false 512 n p.0;
      m_small = ltb-false 256 m p.1.0;
      words_enough = ltb-false (length ws) (9 * m) p.1.1.0;
      is_clean = not_false (clean n m ws) p.1.1.1.0;
      room_enough = ltb-false room (size_for n m) p.1.1.1.1.0;
    }
