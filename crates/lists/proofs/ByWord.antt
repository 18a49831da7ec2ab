-- A SCAN WORD BY WORD: the ones of word after word are listed, as far as the n places of the scan.
--   ones_grows                   the list of the ones of words, as a scan makes it
--   with_word, with_given        the words that are known, and one more
--   words_start                  before the loop
--   Turn, words_turn             the turn of the loop: the list of word w has room in the buffer; when it stands there, the words up to w are listed
-- Assumes nothing.
use mathlib.Core.Path.{◌≡◌, refl, sym, ap, ap₂, ◌∙◌}
use mathlib.Core.List.{List, ◌++◌}
use mathlib.Core.Bool.{cond}
use Prim.Native.Nat.{ℕ, ◌+◌, ◌*◌, ◌-◌, ◌/◌, ◌%◌, ◌^◌, ◌<◌, ◌≤◌, min}
use native.Mathlib.Decide.{dec_lt}
use native.Mathlib.Omega.{arith}
use lib.ListN.{length, length-append}
use Rattle.std.proofs.Math.Dec.{ltb}
use Rattle.std.proofs.lemmas.Bool.{cond_below, cond_above}
use Rattle.words.specs.Words.{bit_of}
use Rattle.lists.specs.Listing.{FirstOnes, items, ListPut, ones, GivesWords, RoomFor, WordsPut}
use Rattle.lists.proofs.Picking.{Grows, passed, same_picked, joined, listed_none, listed_join}
use Rattle.lists.proofs.Digits.{items_grows}

pub ones_grows : (words : ℕ → ℕ × ℕ) (s : ℕ)
    → Grows (λ k. ones k words s) (λ i. bit_of (words (i / 64)).0 (63 - i % 64)) (λ i. s * (i + 1) + (words (i / 64)).1 / 2 ^ (63 - i % 64) % 2)
unfolding ones
ones_grows words s = record { none = refl; more = λ i. refl }

-- the words before w, and then y
with_word : (ℕ → ℕ × ℕ) → ℕ → ℕ × ℕ → ℕ → ℕ × ℕ
with_word words w y v = cond (ltb v w) (words v) y

with_before : (words : ℕ → ℕ × ℕ) (w : ℕ) (y : ℕ × ℕ) (v : ℕ) → v < w → with_word words w y v ≡ words v
unfolding with_word
with_before words w y v h = sym (cond_below v w (words v) y h)

with_at : (words : ℕ → ℕ × ℕ) (w : ℕ) (y : ℕ × ℕ) → with_word words w y w ≡ y
unfolding with_word
with_at words w y = sym (cond_above w w (words w) y y (omega arith) refl)

with_given : (post : ℕ → ℕ × ℕ → Type 0) (words : ℕ → ℕ × ℕ) (w k : ℕ) (y : ℕ × ℕ) → ((v : ℕ) → v < w → post v (words v)) → post w y
    → k ≤ w * 64 + 64 → GivesWords post k (with_word words w y)
with_given post words w k y before here le v h = go (dec_lt v w)
  where
    go : Dec (v < w) → post v (with_word words w y v)
    go (yes l) = rw (with_before words w y v l) (before v l)
    go (no l) = let e : v ≡ w = omega arith in rw (e, with_at words w y) here

-- the ones that the scan reaches in the word z are those of x
module _ (words : ℕ → ℕ × ℕ) (n w z t x s : ℕ) (live : w * 64 < n) (first : FirstOnes z (n - w * 64) x) where
  abbrev all : ℕ → ℕ × ℕ
  all = with_word words w (z, t)

  reach : ℕ
  reach = min 64 (n - w * 64)

  here : (i : ℕ) → i < 64 → all ((w * 64 + i) / 64) ≡ (z, t)
  here i m = let e : (w * 64 + i) / 64 ≡ w = omega arith in ap all e ∙ with_at words w (z, t)

  place : (i : ℕ) → i < 64 → (w * 64 + i) % 64 ≡ i
  place i m = omega arith

  same_before : ones (w * 64) all s ≡ ones (w * 64) words s
  same_before =
      same_picked (ones_grows all s) (ones_grows words s) (w * 64)
      (λ i m. ap (λ (y : ℕ × ℕ). bit_of y.0 (63 - i % 64)) (with_before words w (z, t) (i / 64) (omega arith)))
      (λ i m q. ap (λ (y : ℕ × ℕ). s * (i + 1) + y.1 / 2 ^ (63 - i % 64) % 2) (with_before words w (z, t) (i / 64) (omega arith)))

  ones_word : ones (min (w * 64 + 64) n) all s ≡ ones (w * 64) words s ++ items 64 x t s (w * 64)
  unfolding reach
  ones_word =
      let e : min (w * 64 + 64) n ≡ w * 64 + reach = omega arith in
      ap (λ (k : ℕ). ones k all s) e
      ∙ joined (ones_grows all s) (items_grows x t s (w * 64)) (w * 64) reach
      (λ i m. ap₂ (λ (y : ℕ × ℕ) (j : ℕ). bit_of y.0 (63 - j)) (here i (omega arith)) (place i (omega arith)) ∙ sym (first.kept i (omega arith) (omega arith)))
      (λ i m q. ap₂ (λ (y : ℕ × ℕ) (j : ℕ). s * (w * 64 + i + 1) + y.1 / 2 ^ (63 - j) % 2) (here i (omega arith)) (place i (omega arith)))
      ∙ ap₂ (λ (l m : List ℕ). l ++ m) same_before (sym whole)
    where
      whole : items 64 x t s (w * 64) ≡ items reach x t s (w * 64)
      whole = passed (items_grows x t s (w * 64)) reach 64 (omega arith) (λ i a b. first.none i b (omega arith))

-- ---- the loop
pub words_start : (post : ℕ → ℕ × ℕ → Type 0) (n s at : ℕ) (out : List ℕ) → RoomFor post n s at → WordsPut post (min (0 * 64) n) s n at out out at
words_start post n s at out room =
    let e : min (0 * 64) n ≡ 0 = omega arith in
    rw e (record { words = none; given = given; listed = rw (ones_grows none s).none (listed_none n at out (omega (arith, room 0 none (omega arith) given))) })
  where
    none : ℕ → ℕ × ℕ
    none w = (0, 0)

    given : GivesWords post 0 none
    given w l = absurd (omega arith)

pub record Turn (post : ℕ → ℕ × ℕ → Type 0) (n s at w : ℕ) (out o : List ℕ) (c : ℕ) (m : List ℕ) : Type 0 where
  pub room : c + length m ≤ length o
  pub turn : (most x : ℕ) (o' : List ℕ) → ListPut most c m o o' x → WordsPut post (min ((w + 1) * 64) n) s n at out o' x

pub words_turn : (post : ℕ → ℕ × ℕ → Type 0) (n s at w z t x : ℕ) (out o : List ℕ) (c : ℕ) → RoomFor post n s at → n ≤ length out → w * 64 < n
    → WordsPut post (min (w * 64) n) s n at out o c → post w (z, t) → FirstOnes z (n - w * 64) x → Turn post n s at w out o c (items 64 x t s (w * 64))
words_turn post n s at w z t x out o c room big live k here first =
    record {
      room =
          let f = before.listed.count in
          let q = before.listed.long in
          omega (arith, within, length-append (ones (w * 64) before.words s) (items 64 x t s (w * 64)));
      turn = λ most y o' h. let e : min ((w + 1) * 64) n ≡ min (w * 64 + 64) n = omega arith in
          rw e (record {
            words = with_word before.words w (z, t);
            given = given;
            listed = rw more (listed_join n most at c y (ones (w * 64) before.words s) (items 64 x t s (w * 64)) out o o' before.listed h within);
          });
    }
  where
    before : WordsPut post (w * 64) s n at out o c
    before = let e : min (w * 64) n ≡ w * 64 = omega arith in rw e at k

    given : GivesWords post (min (w * 64 + 64) n) (with_word before.words w (z, t))
    given = with_given post before.words w (min (w * 64 + 64) n) (z, t) (λ v l. before.given v (omega arith)) here (omega arith)

    more : ones (min (w * 64 + 64) n) (with_word before.words w (z, t)) s ≡ ones (w * 64) before.words s ++ items 64 x t s (w * 64)
    more = ones_word before.words n w z t x s live first

    within : at + length (ones (w * 64) before.words s ++ items 64 x t s (w * 64)) ≤ n
    within = rw more at (room (min (w * 64 + 64) n) (with_word before.words w (z, t)) (omega arith) given)
