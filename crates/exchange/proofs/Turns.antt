-- ROWS TURNED IN ONE PASS: what an exchange, an entry of the record and the settling pass do one after another.
--   Apart k p u q b d code ws w    w is what those three leave of ws, with the buffers in between
--   turned_apart                   that is what the entry and then one pass over the rows leave, where row p alone has variable q + 1
-- Assumes nothing.
use mathlib.Core.Path.{◌≡◌, refl, sym, ap, ap₂, ◌∙◌}
use mathlib.Core.List.{List, [], ◌∷◌}
use mathlib.Core.Bool.{Bool, true, false, not, ◌&&◌, ◌||◌}
use mathlib.Core.Logic.{◌⊎◌, inl, inr, ◌≢◌}
use Prim.Native.Nat.{ℕ, zero, suc, ◌+◌, ◌*◌, ◌-◌, ◌/◌, ◌%◌, ◌<◌, ◌≤◌}
use native.Mathlib.Nat.{not-suc-le-zero, le_of_suc-le-suc, suc_inj, suc-ne-zero}
use native.Mathlib.Decide.{dec_lt}
use native.Mathlib.Omega.{arith}
use lib.ListN.{length, get_or, set, length-set}
use lib.Seq.{get_or-set_same, get_or-set_other, ext_get_or}
use lib.Bits.{bit_xor}
use Rattle.gf2.specs.Field.{◌⊕◌, same}
use Rattle.gf2.proofs.Sums.{same_dec, sum_cong}
use Rattle.words.specs.Words.{digit, bit_at}
use Rattle.words.proofs.Bits.{bit_same, bit_added}
use Rattle.tableau.specs.Buffer.{basic_at, Added, Recorded, Chain}
use Rattle.tableau.specs.Layout.{max_vars, max_rows, coef_words, from_words, row_size, row_at, last_at, known_at, truth_at, record_at, size}
use Rattle.tableau.proofs.Reading.{entry_stay, home_stay}
use Rattle.settle.specs.Values.{lacks, Put, Can, value_at, RowSettled, RowFollowed, Followed}
use Rattle.settle.proofs.Blocks.{settled_rows}
use Rattle.exchange.specs.Steps.{RowCleared, Exchanged, pointed, RowTurned, idle, added, centre, Turned}
use Rattle.exchange.proofs.Passes.{turned_else}

pub record Apart (k p u q : ℕ) (b : Bool) (d code : ℕ) (ws w : List ℕ) : Type 0 where
  pub exchanged : List ℕ
  pub recorded : List ℕ
  pub long : length exchanged ≡ length ws
  pub move : Exchanged k p u ws exchanged
  pub entry : Recorded d code exchanged recorded
  pub values : Followed k q b recorded w

-- ---- the first n words of one list, and the others of another
unfoldable mix : ℕ → List ℕ → List ℕ → List ℕ
mix zero a c = c
mix (suc n) [] c = c
mix (suc n) (x ∷ a) [] = []
mix (suc n) (x ∷ a) (y ∷ c) = x ∷ mix n a c

mix_length : (n : ℕ) (a c : List ℕ) → length (mix n a c) ≡ length c
unfolding mix
mix_length zero a c = refl
mix_length (suc n) [] c = refl
mix_length (suc n) (x ∷ a) [] = refl
mix_length (suc n) (x ∷ a) (y ∷ c) = ap suc (mix_length n a c)

mix_front : (n : ℕ) (a c : List ℕ) → length a ≡ length c → (i : ℕ) → i < n → get_or (mix n a c) i 0 ≡ get_or a i 0
unfolding mix
mix_front zero a c e i l = absurd (not-suc-le-zero l)
mix_front (suc n) [] [] e i l = refl
mix_front (suc n) [] (y ∷ c) e i l = absurd (suc-ne-zero (length c) (sym e))
mix_front (suc n) (x ∷ a) [] e i l = absurd (suc-ne-zero (length a) e)
mix_front (suc n) (x ∷ a) (y ∷ c) e zero l = refl
mix_front (suc n) (x ∷ a) (y ∷ c) e (suc i) l = mix_front n a c (suc_inj e) i (le_of_suc-le-suc l)

mix_back : (n : ℕ) (a c : List ℕ) (i : ℕ) → n ≤ i → get_or (mix n a c) i 0 ≡ get_or c i 0
unfolding mix
mix_back zero a c i l = refl
mix_back (suc n) [] c i l = refl
mix_back (suc n) (x ∷ a) [] i l = refl
mix_back (suc n) (x ∷ a) (y ∷ c) zero l = absurd (not-suc-le-zero l)
mix_back (suc n) (x ∷ a) (y ∷ c) (suc i) l = mix_back n a c i (le_of_suc-le-suc l)

-- lists of the same length with the same words
all_same : (a c : List ℕ) → length a ≡ length c → ((i : ℕ) → get_or a i 0 ≡ get_or c i 0) → a ≡ c
all_same a c e h = ext_get_or 0 a c e (λ i l. h i)

-- ---- the rows of w before the values of another buffer: a row that is the same there is settled in the same way
module _ (w : List ℕ) where
  abbrev over : List ℕ → List ℕ
  over g = mix known_at w g

  over_bit : (g : List ℕ) (off i : ℕ) → known_at ≤ off → bit_at (over g) off i ≡ bit_at g off i
  over_bit g off i l = bit_same g (over g) off off i (mix_back known_at w g (off + i / 64) (omega arith))

  over_same : (a c : List ℕ) → length w ≡ length a → length a ≡ length c → ((i : ℕ) → known_at ≤ i → get_or a i 0 ≡ get_or c i 0) → over a ≡ over c
  over_same a c ea ec h = all_same (over a) (over c) (mix_length known_at w a ∙ ec ∙ sym (mix_length known_at w c)) (λ i. go i (dec_lt i known_at))
    where
      go : (i : ℕ) → Dec (i < known_at) → get_or (over a) i 0 ≡ get_or (over c) i 0
      go i (yes l) = mix_front known_at w a ea i l ∙ sym (mix_front known_at w c (ea ∙ ec) i l)
      go i (no l) = let g : known_at ≤ i = omega arith in mix_back known_at w a i g ∙ h i g ∙ sym (mix_back known_at w c i g)

  over_put : (m : ℕ) (x : Bool) (a c : List ℕ) → length w ≡ length a → Put m x a c → Put m x (over a) (over c)
  over_put m x a c e pt =
      record {
        len = mix_length known_at w c ∙ pt.len ∙ sym (mix_length known_at w a);
        known = λ i l. over_bit c known_at i (omega arith) ∙ pt.known i l ∙ ap (λ (z : Bool). z || same m i) (sym (over_bit a known_at i (omega arith)));
        truth = λ i l. over_bit c truth_at i (omega arith) ∙ pt.truth i l ∙ ap (λ (z : Bool). z || (same m i && x)) (sym (over_bit a truth_at i (omega arith)));
        rest = rest;
      }
    where
      rest : (i : ℕ) → (i < known_at) ⊎ (record_at ≤ i) → get_or (over c) i 0 ≡ get_or (over a) i 0
      rest i (inl l) = mix_front known_at w c (e ∙ sym pt.len) i l ∙ sym (mix_front known_at w a e i l)
      rest i (inr l) = mix_back known_at w c i (omega arith) ∙ pt.rest i (inr l) ∙ sym (mix_back known_at w a i (omega arith))

  module _ (r : ℕ) (lr : r < max_rows) (a : List ℕ) (e : length w ≡ length a) (row : (i : ℕ) → row_at r ≤ i → i < row_at r + row_size → get_or w i 0 ≡ get_or a i 0) where
    word : (i : ℕ) → row_at r ≤ i → i < row_at r + row_size → get_or (over a) i 0 ≡ get_or a i 0
    word i l h = mix_front known_at w a e i (omega arith) ∙ row i l h

    row_bit : (i : ℕ) → i < max_vars → bit_at (over a) (row_at r) i ≡ bit_at a (row_at r) i
    row_bit i l = bit_same a (over a) (row_at r) (row_at r) i (word (row_at r + i / 64) (omega arith) (omega arith))

    row_basic : basic_at (over a) r ≡ basic_at a r
    row_basic = ap (λ (x : ℕ). x / 2) (word (last_at r) (omega arith) (omega arith))

    row_lacks : (i : ℕ) → i < max_vars → lacks (over a) r i ≡ lacks a r i
    unfolding lacks
    row_lacks i l = ap₂ (λ (x y : Bool). x && not y) (row_bit i l) (over_bit a known_at i (omega arith))

    row_value : value_at (over a) r ≡ value_at a r
    row_value = ap₂ ◌⊕◌ (ap (λ (x : ℕ). digit (x % 2)) (word (last_at r) (omega arith) (omega arith))) (sum_cong max_vars _ _ (λ i l. ap₂ ◌&&◌ (row_bit i l) (over_bit a truth_at i (omega arith))))

    can : Can a r → Can (over a) r
    can c = record { low = rw row_basic c.low; high = rw row_basic c.high; alone = λ i l. row_lacks i l ∙ c.alone i l ∙ ap (λ (x : ℕ). same (x - 1) i) (sym row_basic) }

    could : Can (over a) r → Can a r
    could c = record { low = rw row_basic at c.low; high = rw row_basic at c.high; alone = λ i l. sym (row_lacks i l) ∙ c.alone i l ∙ ap (λ (x : ℕ). same (x - 1) i) row_basic }

    over_settled : (c : List ℕ) → RowSettled r a c → RowSettled r (over a) (over c)
    over_settled c (inl h) = inl (ap over h.0, λ z. h.1 (could z))
    over_settled c (inr h) = inr (can h.0, rw (row_basic, row_value) (over_put (basic_at a r - 1) (value_at a r) a c e h.1))

module _ (k p u q : ℕ) (b : Bool) (d code : ℕ) (ws y w : List ℕ) (lk : k ≤ max_rows) (lp : p < k) (hu : u ≤ max_vars) (lq : q < max_vars) (big : size ≤ length ws) (len : length w ≡ length ws)
    (others : (r : ℕ) → r < k → r ≢ p → bit_at ws (row_at r) q ≡ false) (own : bit_at ws (row_at p) q ≡ true) (rec : Recorded d code ws y) (t : Turned k p u q b y w) where
  abbrev z : List ℕ
  z = t.begun

  z_length : length z ≡ length ws
  z_length = t.given.len ∙ rec.len

  z_front : (i : ℕ) → i < known_at → get_or z i 0 ≡ get_or ws i 0
  z_front i l = t.given.rest i (inl l) ∙ rec.rest i (omega arith)

  -- ---- the rows below r have been turned
  record Turning (r : ℕ) (g : List ℕ) : Type 0 where
    todo : (i : ℕ) → row_at r ≤ i → i < known_at → get_or g i 0 ≡ get_or ws i 0
    row : (j : ℕ) → j < coef_words + from_words → get_or g (row_at p + j) 0 ≡ get_or ws (row_at p + j) 0
    last : p < r → get_or g (last_at p) 0 ≡ 2 * u + get_or ws (last_at p) 0 % 2

  module _ (r : ℕ) (lr : r < k) (g g' : List ℕ) (lg : length g ≡ length ws) (st : Turning r g) where
    turning_more : RowTurned p u r g g' → Turning (suc r) g'
    turning_more h = record { todo = λ i l s. turned_else p u r g g' h i s (inr (omega arith)) ∙ st.todo i (omega arith) s; row = λ j l. row j l h; last = λ l. last l (same_dec r p) h }
      where
        row : (j : ℕ) → j < coef_words + from_words → RowTurned p u r g g' → get_or g' (row_at p + j) 0 ≡ get_or ws (row_at p + j) 0
        row j l (idle n x e) = ap (λ (s : List ℕ). get_or s (row_at p + j) 0) e ∙ st.row j l
        row j l (added v n x a s) = turned_else p u r g g' (added v n x a s) (row_at p + j) (omega arith) (side (dec_lt p r)) ∙ st.row j l
          where
            side : Dec (p < r) → (row_at p + j < row_at r) ⊎ (row_at r + row_size ≤ row_at p + j)
            side (yes o) = inl (omega arith)
            side (no o) = inr (let f : r < p = omega (arith, n) in omega arith)
        row j l (centre e s) = settled_rows r (pointed r u g) g' s (row_at p + j) (omega arith) ∙ get_or-set_other g (last_at r) (row_at p + j) _ 0 (λ (x : row_at p + j ≡ last_at r). absurd (omega arith)) ∙ st.row j l

        last : p < suc r → (r ≡ p) ⊎ (r ≢ p) → RowTurned p u r g g' → get_or g' (last_at p) 0 ≡ 2 * u + get_or ws (last_at p) 0 % 2
        last l (inr n) x = turned_else p u r g g' x (last_at p) (omega arith) (inl (let f : p < r = omega (arith, n) in omega arith)) ∙ st.last (omega (arith, n))
        last l (inl e) (idle n x c) = absurd (n e)
        last l (inl e) (added v n x a s) = absurd (n e)
        last l (inl e) (centre c s) =
            let f : last_at p ≡ last_at r = omega arith in
            ap (λ (i : ℕ). get_or g' i 0) f
            ∙ settled_rows r (pointed r u g) g' s (last_at r) (omega arith)
            ∙ get_or-set_same g (last_at r) _ 0 (omega arith)
            ∙ ap (λ (x : ℕ). 2 * u + x % 2) (st.todo (last_at r) (omega arith) (omega arith) ∙ ap (λ (i : ℕ). get_or ws i 0) (sym f))

  -- row p has the parity that it had
  parity : (r : ℕ) (g : List ℕ) → Turning r g → get_or g (last_at p) 0 % 2 ≡ get_or ws (last_at p) 0 % 2
  parity r g st = go (dec_lt p r)
    where
      go : Dec (p < r) → get_or g (last_at p) 0 % 2 ≡ get_or ws (last_at p) 0 % 2
      go (yes h) = let e = st.last h in omega arith
      go (no h) = ap (λ (x : ℕ). x % 2) (st.todo (last_at p) (omega arith) (omega arith))

  turning : (r : ℕ) → r ≤ k → (g : List ℕ) → Chain (RowTurned p u) r z g → Turning r g
  turning zero l g e = rw e (record { todo = λ i h s. z_front i s; row = λ j h. z_front (row_at p + j) (omega arith); last = λ h. absurd (not-suc-le-zero h) })
  turning (suc r) l g c = turning_more r l c.0 g (c.1 ∙ z_length) (turning r (omega arith) c.0 c.2) c.3

  -- ---- the exchange: the rows as they are, but with the basic variable that row p had, before the values that were
  abbrev cleared : List ℕ → List ℕ
  cleared g = set (mix known_at g ws) (last_at p) (get_or ws (last_at p) 0)

  cleared_length : (g : List ℕ) → length (cleared g) ≡ length ws
  cleared_length g = length-set (mix known_at g ws) (last_at p) _ ∙ mix_length known_at g ws

  cleared_last : (g : List ℕ) → get_or (cleared g) (last_at p) 0 ≡ get_or ws (last_at p) 0
  cleared_last g = get_or-set_same (mix known_at g ws) (last_at p) _ 0 (omega (arith, mix_length known_at g ws))

  cleared_front : (g : List ℕ) → length g ≡ length ws → (i : ℕ) → i < known_at → i ≢ last_at p → get_or (cleared g) i 0 ≡ get_or g i 0
  cleared_front g e i l n = get_or-set_other (mix known_at g ws) (last_at p) i _ 0 n ∙ mix_front known_at g ws e i l

  cleared_back : (g : List ℕ) (i : ℕ) → known_at ≤ i → get_or (cleared g) i 0 ≡ get_or ws i 0
  cleared_back g i l = get_or-set_other (mix known_at g ws) (last_at p) i _ 0 (λ (x : i ≡ last_at p). absurd (omega arith)) ∙ mix_back known_at g ws i l

  -- a word of it, by the word of the rows
  cleared_word : (g v : List ℕ) → length g ≡ length ws → (i : ℕ) → (i < known_at → i ≢ last_at p → get_or g i 0 ≡ get_or v i 0) → (i ≡ last_at p → get_or v i 0 ≡ get_or ws i 0) → (known_at ≤ i → get_or v i 0 ≡ get_or ws i 0) → get_or (cleared g) i 0 ≡ get_or v i 0
  cleared_word g v e i f o h = go (dec_lt i known_at) (same_dec i (last_at p))
    where
      go : Dec (i < known_at) → (i ≡ last_at p) ⊎ (i ≢ last_at p) → get_or (cleared g) i 0 ≡ get_or v i 0
      go (no l) n = let m : known_at ≤ i = omega arith in cleared_back g i m ∙ sym (h m)
      go (yes l) (inr n) = cleared_front g e i l n ∙ f l n
      go (yes l) (inl n) = ap (λ (j : ℕ). get_or (cleared g) j 0) n ∙ cleared_last g ∙ ap (λ (j : ℕ). get_or ws j 0) (sym n) ∙ sym (o n)

  cleared_same : (g g' : List ℕ) → length g ≡ length ws → length g' ≡ length ws → (i : ℕ) → (i < known_at → i ≢ last_at p → get_or g' i 0 ≡ get_or g i 0) → get_or (cleared g') i 0 ≡ get_or (cleared g) i 0
  cleared_same g g' e e' i f =
      cleared_word g' (cleared g) e' i (λ l n. f l n ∙ sym (cleared_front g e i l n)) (λ n. ap (λ (j : ℕ). get_or (cleared g) j 0) n ∙ cleared_last g ∙ ap (λ (j : ℕ). get_or ws j 0) (sym n)) (cleared_back g i)

  cleared_none : cleared z ≡ ws
  cleared_none = all_same (cleared z) ws (cleared_length z) (λ i. cleared_word z ws z_length i (λ l n. z_front i l) (λ n. refl) (λ l. refl))

  module _ (r : ℕ) (lr : r < k) (g g' : List ℕ) (lg : length g ≡ length ws) (lg' : length g' ≡ length ws) (st : Turning r g) where
    test : bit_at (cleared g) (row_at r) (u - 1) ≡ bit_at g (row_at r) (u - 1)
    test = bit_same g (cleared g) (row_at r) (row_at r) (u - 1) (cleared_front g lg (row_at r + (u - 1) / 64) (omega arith) (λ (x : row_at r + (u - 1) / 64 ≡ last_at p). absurd (omega arith)))

    cleared_added : (v : List ℕ) → r ≢ p → Added p r g v → RowSettled r v g' → Added p r (cleared g) (cleared g')
    cleared_added v n a s =
        record {
          len = cleared_length g' ∙ sym (cleared_length g);
          bits = λ j l.
              let i : row_at r + j < known_at = omega arith in
              cleared_front g' lg' (row_at r + j) i (off j l) ∙ settled_rows r v g' s (row_at r + j) i ∙ a.bits j l
              ∙ ap₂ bit_xor (sym (cleared_front g lg (row_at r + j) i (off j l))) (sym (cleared_front g lg (row_at p + j) (omega arith) (λ (x : row_at p + j ≡ last_at p). absurd (omega arith))));
          last = last;
          rest = λ i o. cleared_same g g' lg lg' i (λ l m. settled_rows r v g' s i l ∙ a.rest i o);
        }
      where
        off : (j : ℕ) → j < coef_words + from_words → row_at r + j ≢ last_at p
        off j l x = absurd (omega arith)

        last : get_or (cleared g') (last_at r) 0 ≡ get_or (cleared g) (last_at r) 0 / 2 * 2 + (get_or (cleared g) (last_at r) 0 % 2 + get_or (cleared g) (last_at p) 0 % 2) % 2
        last =
            let i : last_at r < known_at = omega arith in
            let m : last_at r ≢ last_at p = λ (x : last_at r ≡ last_at p). n (omega arith) in
            cleared_front g' lg' (last_at r) i m ∙ settled_rows r v g' s (last_at r) i ∙ a.last
            ∙ ap₂ (λ (x y : ℕ). x / 2 * 2 + (x % 2 + y) % 2) (sym (cleared_front g lg (last_at r) i m)) (parity r g st ∙ ap (λ (x : ℕ). x % 2) (sym (cleared_last g)))

    cleared_more : RowTurned p u r g g' → RowCleared p (u - 1) r (cleared g) (cleared g')
    cleared_more (idle n h e) = inl (ap cleared e, inr (test ∙ h))
    cleared_more (added v n h a s) = inr (n, test ∙ h, cleared_added v n a s)
    cleared_more (centre e s) = inl (all_same (cleared g') (cleared g) (cleared_length g' ∙ sym (cleared_length g)) (λ i. cleared_same g g' lg lg' i (λ l n. settled_rows r (pointed r u g) g' s i l ∙ get_or-set_other g (last_at r) i _ 0 (λ (x : i ≡ last_at r). n (omega arith)))), inl e)

  cleared_all : (r : ℕ) → r ≤ k → (g : List ℕ) → length g ≡ length ws → Chain (RowTurned p u) r z g → Chain (RowCleared p (u - 1)) r ws (cleared g)
  cleared_all zero l g e c = ap cleared c ∙ cleared_none
  cleared_all (suc r) l g e c =
      let v = c.1 ∙ z_length in
      (cleared c.0, cleared_length c.0, cleared_all r (omega arith) c.0 v c.2, cleared_more r l c.0 g v e (turning r (omega arith) c.0 c.2) c.3)

  abbrev moved : List ℕ
  moved = pointed p u (cleared w)

  moved_length : length moved ≡ length ws
  moved_length = length-set (cleared w) (last_at p) _ ∙ cleared_length w

  moved_front : (i : ℕ) → i < known_at → get_or moved i 0 ≡ get_or w i 0
  moved_front i l = go (same_dec i (last_at p))
    where
      go : (i ≡ last_at p) ⊎ (i ≢ last_at p) → get_or moved i 0 ≡ get_or w i 0
      go (inr n) = get_or-set_other (cleared w) (last_at p) i _ 0 n ∙ cleared_front w len i l n
      go (inl e) =
          ap (λ (j : ℕ). get_or moved j 0) e ∙ get_or-set_same (cleared w) (last_at p) _ 0 (omega (arith, cleared_length w)) ∙ ap (λ (x : ℕ). 2 * u + x % 2) (cleared_last w)
          ∙ sym ((turning k (omega arith) w t.turned).last lp) ∙ ap (λ (j : ℕ). get_or w j 0) (sym e)

  moved_back : (i : ℕ) → known_at ≤ i → get_or moved i 0 ≡ get_or ws i 0
  moved_back i l = get_or-set_other (cleared w) (last_at p) i _ 0 (λ (x : i ≡ last_at p). absurd (omega arith)) ∙ cleared_back w i l

  -- ---- the settling pass: the rows of w before the values as they are
  module _ (r : ℕ) (lr : r < k) (g g' : List ℕ) (lg : length g ≡ length ws) (st : Turning r g) (agree : (i : ℕ) → i < row_at (suc r) → get_or w i 0 ≡ get_or g' i 0) where
    -- row r of w, where it was settled last
    row_was : (v : List ℕ) → RowSettled r v g' → (i : ℕ) → row_at r ≤ i → i < row_at r + row_size → get_or w i 0 ≡ get_or v i 0
    row_was v s i l h = agree i (omega arith) ∙ settled_rows r v g' s i (omega arith)

    -- a list with the values of g
    settled_row : (v : List ℕ) → length v ≡ length g → ((i : ℕ) → known_at ≤ i → get_or v i 0 ≡ get_or g i 0) → RowSettled r v g' → RowSettled r (over w g) (over w g')
    settled_row v e h s = rw (over_same w g v (len ∙ sym lg) (sym e) (λ i l. sym (h i l))) (over_settled w r (omega arith) v (len ∙ sym lg ∙ sym e) (row_was v s) g' s)

    -- variable q + 1: in row r, which is that of w; as it was there; in row p
    now_bit : bit_at (over w g) (row_at r) q ≡ bit_at w (row_at r) q
    now_bit = bit_same w (over w g) (row_at r) (row_at r) q (mix_front known_at w g (len ∙ sym lg) (row_at r + q / 64) (omega arith))

    old_bit : bit_at g (row_at r) q ≡ bit_at ws (row_at r) q
    old_bit = bit_same ws g (row_at r) (row_at r) q (st.todo (row_at r + q / 64) (omega arith) (omega arith))

    pivot_bit : bit_at g (row_at p) q ≡ true
    pivot_bit = bit_same ws g (row_at p) (row_at p) q (st.row (q / 64) (omega arith)) ∙ own

    followed : RowTurned p u r g g' → RowFollowed q r (over w g) (over w g')
    followed (idle n h e) = inl (ap (over w) e, now_bit ∙ bit_same g w (row_at r) (row_at r) q (agree (row_at r + q / 64) (omega arith) ∙ ap (λ (s : List ℕ). get_or s (row_at r + q / 64) 0) e) ∙ old_bit ∙ others r lr n)
    followed (added v n h a s) = inr (now_bit ∙ has, settled_row v a.len (λ i l. a.rest i (inr (omega arith))) s)
      where
        has : bit_at w (row_at r) q ≡ true
        has = bit_added g w (row_at r) (row_at r) (row_at p) q (row_was v s (row_at r + q / 64) (omega arith) (omega arith) ∙ a.bits (q / 64) (omega arith)) ∙ ap₂ ◌⊕◌ (old_bit ∙ others r lr n) pivot_bit
    followed (centre e s) = inr (now_bit ∙ has, settled_row (pointed r u g) (length-set g (last_at r) _) (λ i l. get_or-set_other g (last_at r) i _ 0 (λ (x : i ≡ last_at r). absurd (omega arith))) s)
      where
        has : bit_at w (row_at r) q ≡ true
        has =
            bit_same g w (row_at r) (row_at r) q (row_was (pointed r u g) s (row_at r + q / 64) (omega arith) (omega arith) ∙ get_or-set_other g (last_at r) (row_at r + q / 64) _ 0 (λ (x : row_at r + q / 64 ≡ last_at r). absurd (omega arith)))
            ∙ rw e pivot_bit

  followed_all : (r : ℕ) → r ≤ k → (g : List ℕ) → Chain (RowTurned p u) r z g → ((i : ℕ) → i < row_at r → get_or w i 0 ≡ get_or g i 0) → Chain (RowFollowed q) r (over w z) (over w g)
  followed_all zero l g c h = ap (over w) c
  followed_all (suc r) l g c h = (
    over w c.0,
    mix_length known_at w c.0 ∙ c.1 ∙ sym (mix_length known_at w z),
    followed_all r (omega arith) c.0 c.2 (λ i s. h i (omega arith) ∙ turned_else p u r c.0 g c.3 i (omega arith) (inl s)),
    followed r l c.0 g (c.1 ∙ z_length) (turning r (omega arith) c.0 c.2) h c.3,
  )

  over_whole : over w w ≡ w
  over_whole = all_same (over w w) w (mix_length known_at w w) (λ i. go i (dec_lt i known_at))
    where
      go : (i : ℕ) → Dec (i < known_at) → get_or (over w w) i 0 ≡ get_or w i 0
      go i (yes l) = mix_front known_at w w refl i l
      go i (no l) = mix_back known_at w w i (omega arith)

  -- ---- the entry of the record
  y_length : length w ≡ length y
  y_length = len ∙ sym rec.len

  over_recorded : Recorded d code moved (over w y)
  over_recorded =
      record {
        len = mix_length known_at w y ∙ rec.len ∙ sym moved_length;
        here = entry_stay y (over w y) (λ i l. mix_back known_at w y i (omega arith)) d ∙ rec.here;
        others = λ i n. entry_stay y (over w y) (λ j l. mix_back known_at w y j (omega arith)) i ∙ rec.others i n ∙ sym (entry_stay ws moved (λ j l. moved_back j (omega arith)) i);
        homes = λ v. home_stay y (over w y) (λ i l. mix_back known_at w y i (omega arith)) v ∙ rec.homes v ∙ sym (home_stay ws moved (λ i l. moved_back i (omega arith)) v);
        rest = λ i l. rest i l (dec_lt i known_at);
      }
    where
      rest : (i : ℕ) → i < record_at → Dec (i < known_at) → get_or (over w y) i 0 ≡ get_or moved i 0
      rest i l (yes h) = mix_front known_at w y y_length i h ∙ sym (moved_front i h)
      rest i l (no h) = mix_back known_at w y i (omega arith) ∙ rec.rest i l ∙ sym (moved_back i (omega arith))

  pub turned_apart : Apart k p u q b d code ws w
  turned_apart =
      record {
        exchanged = moved;
        recorded = over w y;
        long = moved_length;
        move = record { middle = cleared w; cleared = cleared_all k (omega arith) w len t.turned; long = cleared_length w; points = refl };
        entry = over_recorded;
        values = record { begun = over w z; given = over_put w q b y z y_length t.given; settled = rw over_whole at (followed_all k (omega arith) w t.turned (λ i l. refl)) };
      }
