-- A ROW ADDED INTO ANOTHER: its coefficients and its provenance are loaded, summed and stored, and its last word is made anew.
--   add_done       what add_row has done
-- Assumes nothing.
use mathlib.Core.Path.{◌≡◌, sym, ap, ap₂, ◌∙◌}
use mathlib.Core.List.{List}
use mathlib.Core.Logic.{◌⊎◌, inl, inr, ◌≢◌}
use Prim.Native.Nat.{ℕ, ◌+◌, ◌*◌, ◌-◌, ◌/◌, ◌%◌, ◌<◌, ◌≤◌}
use native.Mathlib.Nat.{zero-add}
use native.Mathlib.Decide.{dec_lt}
use native.Mathlib.Omega.{arith}
use lib.ListN.{length, get_or, set, length-set}
use lib.Seq.{get_or-set_same, get_or-set_other}
use lib.Bits.{bit_xor}
use Rattle.words.specs.Words.{xor_words}
use Rattle.words.proofs.Bits.{word_xor}
use Rattle.tableau.specs.Layout.{max_rows, coef_words, from_words, row_size, row_at, from_at, last_at, size}
use Rattle.tableau.specs.Buffer.{Run, Slice, Added}

-- the sum of two runs of words, as it was loaded and is stored
sum_word : (k a b : ℕ) (ws x y : List ℕ) → Slice k ws a x → Slice k ws b y → (j : ℕ) → j < k → get_or (xor_words x y) j 0 ≡ bit_xor (get_or ws (a + j) 0) (get_or ws (b + j) 0)
sum_word k a b ws x y f g j l = word_xor x y j ∙ ap₂ bit_xor (f.word j l) (g.word j l)

module _ (f t : ℕ) (ws x y p q s r u v : List ℕ) (big : size ≤ length ws) (lf : f < max_rows) (lt : t < max_rows)
    (hx : Slice coef_words ws (row_at t) x) (hy : Slice coef_words ws (row_at f) y) (hp : Slice from_words ws (from_at t) p) (hq : Slice from_words ws (from_at f) q)
    (es : s ≡ xor_words x y) (er : r ≡ xor_words p q) (a : Run (row_at t) coef_words (λ j. get_or s (0 + j) 0) ws u) (b : Run (from_at t) from_words (λ j. get_or r j 0) u v) where
  abbrev pub last_word : ℕ
  last_word = get_or ws (last_at t) 0 / 2 * 2 + (get_or ws (last_at t) 0 % 2 + get_or ws (last_at f) 0 % 2) % 2

  abbrev after : List ℕ
  after = set v (last_at t) last_word

  unset : (i : ℕ) → i ≢ last_at t → get_or after i 0 ≡ get_or v i 0
  unset i d = get_or-set_other v (last_at t) i last_word 0 d

  bits : (j : ℕ) → j < coef_words + from_words → Dec (j < coef_words) → get_or after (row_at t + j) 0 ≡ bit_xor (get_or ws (row_at t + j) 0) (get_or ws (row_at f + j) 0)
  bits j l (yes h) =
      unset (row_at t + j) (λ (z : row_at t + j ≡ last_at t). absurd (omega arith)) ∙ b.rest (row_at t + j) (inl (omega arith)) ∙ a.done j h
      ∙ ap₂ (λ (z : List ℕ) (i : ℕ). get_or z i 0) es (zero-add j) ∙ sum_word coef_words (row_at t) (row_at f) ws x y hx hy j h
  bits j l (no h) =
      let e : row_at t + j ≡ from_at t + (j - coef_words) = omega arith in
      let g : row_at f + j ≡ from_at f + (j - coef_words) = omega arith in
      let k : j - coef_words < from_words = omega arith in
      unset (row_at t + j) (λ (z : row_at t + j ≡ last_at t). absurd (omega arith)) ∙ ap (λ (z : ℕ). get_or v z 0) e ∙ b.done (j - coef_words) k
      ∙ ap (λ (z : List ℕ). get_or z (j - coef_words) 0) er ∙ sum_word from_words (from_at t) (from_at f) ws p q hp hq (j - coef_words) k
      ∙ ap₂ (λ (i m : ℕ). bit_xor (get_or ws i 0) (get_or ws m 0)) (sym e) (sym g)

  rest : (i : ℕ) → (i < row_at t) ⊎ (row_at t + row_size ≤ i) → get_or after i 0 ≡ get_or ws i 0
  rest i (inl h) = unset i (λ (z : i ≡ last_at t). absurd (omega arith)) ∙ b.rest i (inl (omega arith)) ∙ a.rest i (inl h)
  rest i (inr h) = unset i (λ (z : i ≡ last_at t). absurd (omega arith)) ∙ b.rest i (inr (omega arith)) ∙ a.rest i (inr (omega arith))

  pub add_done : Added f t ws (set v (last_at t) last_word)
  add_done =
      record {
        len = length-set v (last_at t) last_word ∙ b.len ∙ a.len;
        bits = λ j l. bits j l (dec_lt j coef_words);
        last = get_or-set_same v (last_at t) last_word 0 (omega (arith, a.len, b.len));
        rest = rest;
      }
