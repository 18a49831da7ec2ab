-- LAWS OF RUNS THAT ARE PUT IN PLACE OF OTHERS.
--   put_at-none                  nothing is put
--   put_at-put_at, put_at-next     two runs put one after the other
--   put_at-front                 what is put begins with what stands there
--   write_piece, write_byte     a piece of one byte is put; a whole byte
--   put_step, word_put_step     a field is put up to some bit, and a piece of a byte more; a word, and a byte more
-- Assumes nothing.
use mathlib.Core.Bool.{Bool}
use mathlib.Core.List.{List, [], ◌∷◌, ◌++◌, append_assoc}
use mathlib.Core.Path.{◌≡◌, sym, ap, ap₂, ◌∙◌}
use Prim.Native.Nat.{ℕ, suc, ◌+◌, ◌-◌, ◌*◌, ◌/◌, ◌%◌, ◌^◌, ◌≤◌, ◌<◌}
use native.Mathlib.Nat.{add-zero, add_assoc, mod-lt}
use native.Mathlib.Omega.{arith}
use lib.ListN.{drop, length, take, length-append, length-drop, get_or, set, take-append-drop}
use lib.Pow.{pow_pos}
use lib.Seq.{take_at, drop-append-add, drop-drop, take-add, length-take-le, set_split, drop_at}
use Rattle.format.proofs.Bytes.{bits_of-append, take-bits, drop_bits, before, after, cut, length_before}
use Rattle.format.proofs.Digits.{length-bits_n, bits_n-mod, bits_n-cat, bits_more}
use Rattle.format.specs.Bits.{bits_n, bits_of, put_at}

-- ---- runs

pub put_at-none : (bs : List Bool) (i : ℕ) → bs ≡ put_at bs i []
put_at-none bs i = sym (ap (λ (k : ℕ). take i bs ++ drop k bs) (add-zero i) ∙ take-append-drop i bs)

-- two runs put one after the other
pub put_at-put_at : (bs : List Bool) (i : ℕ) (xs ys : List Bool) → i + length xs ≤ length bs → put_at (put_at bs i xs) (i + length xs) ys ≡ put_at bs i (xs ++ ys)
put_at-put_at bs i xs ys h =
    let p : List Bool = take i bs in
    let r : List Bool = drop (i + length xs) bs in
    let lp : length (p ++ xs) ≡ i + length xs = length-append p xs ∙ ap (λ (k : ℕ). k + length xs) (length-take-le i bs (omega arith)) in
    let front : take (i + length xs) (p ++ (xs ++ r)) ≡ p ++ xs = rw (← append_assoc p xs r) (take_at (p ++ xs) r (i + length xs) lp) in
    let back : drop (i + length xs + length ys) (p ++ (xs ++ r)) ≡ drop (i + length (xs ++ ys)) bs =
    rw (← append_assoc p xs r)
    (ap (λ (k : ℕ). drop (k + length ys) (p ++ xs ++ r)) (sym lp)
    ∙ drop-append-add (p ++ xs) r (length ys)
    ∙ drop-drop (length ys) (i + length xs) bs
    ∙ ap (λ (k : ℕ). drop k bs) (add_assoc i (length xs) (length ys) ∙ ap (λ (k : ℕ). i + k) (sym (length-append xs ys)))) in
    ap₂ (λ (u v : List Bool). u ++ (ys ++ v)) front back ∙ simp append_assoc

-- one more run, where the last one ended
pub put_at-next : (bs : List Bool) (i : ℕ) (xs ys : List Bool) (pos : ℕ) → pos ≡ i + length xs → pos ≤ length bs → put_at (put_at bs i xs) pos ys ≡ put_at bs i (xs ++ ys)
put_at-next bs i xs ys pos e h = ap (λ (k : ℕ). put_at (put_at bs i xs) k ys) e ∙ put_at-put_at bs i xs ys (omega arith)

-- what is put begins with the k bits that stand there
pub put_at-front : (bs : List Bool) (i k : ℕ) (xs : List Bool) → i + k ≤ length bs → put_at bs i (take k (drop i bs) ++ xs) ≡ put_at bs (i + k) xs
put_at-front bs i k xs h =
    let f : List Bool = take k (drop i bs) in
    let lf : length f ≡ k = length-take-le k (drop i bs) (simp length-drop (omega arith)) in
    let e : i + length (f ++ xs) ≡ i + k + length xs = omega (arith, length-append f xs) in
    ap (λ (n : ℕ). take i bs ++ ((f ++ xs) ++ drop n bs)) e
    ∙ sym (ap (λ (r : List Bool). r ++ (xs ++ drop (i + k + length xs) bs)) (take-add i k bs) ∙ simp append_assoc)

-- ---- in bytes

module _ (s : List ℕ) (q off t sh p : ℕ) (h : q < length s) (e : off + (t + sh) ≡ 8) (hp : p < 2 ^ t) where
  patched_bits : bits_n 8 ((get_or s q 0 / 2 ^ (t + sh) * 2 ^ t + p) * 2 ^ sh + get_or s q 0 % 2 ^ sh) ≡ bits_n off (get_or s q 0 / 2 ^ (t + sh)) ++ (bits_n t p ++ bits_n sh (get_or s q 0))
  patched_bits =
      let y : ℕ = get_or s q 0 in
      let hi : ℕ = y / 2 ^ (t + sh) in
      let x : ℕ = (hi * 2 ^ t + p) * 2 ^ sh + y % 2 ^ sh in
      let k : 8 ≡ off + t + sh = omega arith in
      ap (λ (n : ℕ). bits_n n x) k
      ∙ bits_n-cat (off + t) sh (hi * 2 ^ t + p) (mod-lt y (pow_pos sh))
      ∙ ap₂ (λ (a b : List Bool). a ++ b) (bits_n-cat off t hi hp) (bits_n-mod sh y)
      ∙ append_assoc (bits_n off hi) (bits_n t p) (bits_n sh y)

  -- the byte q, with its t bits past the first off replaced: the bits are as they were, with those t replaced
  pub write_piece : bits_of (set s q ((get_or s q 0 / 2 ^ (t + sh) * 2 ^ t + p) * 2 ^ sh + get_or s q 0 % 2 ^ sh)) ≡ put_at (bits_of s) (q * 8 + off) (bits_n t p)
  unfolding bits_of before after
  write_piece =
      let y : ℕ = get_or s q 0 in
      let x : ℕ = (y / 2 ^ (t + sh) * 2 ^ t + p) * 2 ^ sh + y % 2 ^ sh in
      let b : List Bool = before s q off t sh in
      let m : List Bool = bits_n t (y / 2 ^ sh) in
      let z : List Bool = after s q sh in
      let lb : length b ≡ q * 8 + off = length_before s q off t sh h e in
      let bs : bits_of s ≡ b ++ (m ++ z) = cut s q off t sh h e in
      let front : take (q * 8 + off) (bits_of s) ≡ b = rw bs (take_at b (m ++ z) (q * 8 + off) lb) in
      let back : drop (q * 8 + off + length (bits_n t p)) (bits_of s) ≡ z =
      rw (bs, ← append_assoc b m z) (drop_at (b ++ m) z (q * 8 + off + length (bits_n t p)) (length-append b m ∙ ap₂ (λ (i j : ℕ). i + j) lb (length-bits_n t (y / 2 ^ sh) ∙ sym (length-bits_n t p)))) in
      rw (front, back)
      (ap bits_of (set_split s q x h)
      ∙ bits_of-append (take q s) (x ∷ drop (suc q) s)
      ∙ ap (λ (r : List Bool). bits_of (take q s) ++ (r ++ bits_of (drop (suc q) s))) patched_bits
      ∙ simp append_assoc)

pub write_byte : (s : List ℕ) (q x : ℕ) → q < length s → bits_of (set s q x) ≡ put_at (bits_of s) (8 * q) (bits_n 8 x)
unfolding bits_of
write_byte s q x h =
    let e : q * 8 ≡ 8 * q = omega arith in
    let f : suc q * 8 ≡ 8 * q + length (bits_n 8 x) = omega (arith, length-bits_n 8 x) in
    ap bits_of (set_split s q x h)
    ∙ bits_of-append (take q s) (x ∷ drop (suc q) s)
    ∙ ap₂ (λ (a b : List Bool). a ++ (bits_n 8 x ++ b))
    (take-bits q s (omega arith) ∙ ap (λ (n : ℕ). take n (bits_of s)) e)
    (drop_bits (suc q) s (omega arith) ∙ ap (λ (n : ℕ). drop n (bits_of s)) f)

-- ---- fields that grow

-- a turn of `put`: k bits of v's n are put from at on, and t more go into one byte
pub put_step : (bs : List Bool) (s : List ℕ) (at n k t v : ℕ) → at + k ≤ length bs → (at + k) / 8 < length s → t ≤ 8 - (at + k) % 8 → k + t ≤ n
    → bits_of s ≡ put_at bs at (bits_n k (v / 2 ^ (n - k))) → (x : ℕ)
    → x ≡ (get_or s ((at + k) / 8) 0 / 2 ^ (8 - (at + k) % 8) * 2 ^ t + v / 2 ^ (n - k - t) % 2 ^ t) * 2 ^ (8 - (at + k) % 8 - t) + get_or s ((at + k) / 8) 0 % 2 ^ (8 - (at + k) % 8 - t)
    → bits_of (set s ((at + k) / 8) x) ≡ put_at bs at (bits_n (k + t) (v / 2 ^ (n - (k + t))))
put_step bs s at n k t v hb hq ht hn inv x ex =
    let i : ℕ = at + k in
    let q : ℕ = i / 8 in
    let off : ℕ = i % 8 in
    let sh : ℕ = 8 - off - t in
    let p : ℕ = v / 2 ^ (n - k - t) % 2 ^ t in
    let xs : List Bool = bits_n k (v / 2 ^ (n - k)) in
    let lx : length xs ≡ k = length-bits_n k (v / 2 ^ (n - k)) in
    let e₁ : 8 - off ≡ t + sh = omega arith in
    let here : q * 8 + off ≡ at + length xs = omega (arith, lx) in
    ap (λ (y : ℕ). bits_of (set s q y)) (ex ∙ ap (λ (y : ℕ). (get_or s q 0 / 2 ^ y * 2 ^ t + p) * 2 ^ sh + get_or s q 0 % 2 ^ sh) e₁)
    ∙ write_piece s q off t sh p hq (omega arith) (mod-lt (v / 2 ^ (n - k - t)) (pow_pos t))
    ∙ ap₂ (λ (bs' : List Bool) (j : ℕ). put_at bs' j (bits_n t p)) inv here
    ∙ put_at-put_at bs at xs (bits_n t p) (omega (arith, lx))
    ∙ ap (put_at bs at) (bits_more n k t v hn)

-- a turn of `put_word`: i bytes of v's eight are put, and one more
pub word_put_step : (bs : List Bool) (s : List ℕ) (q i v x : ℕ) → length bs ≡ length s * 8 → q + 8 ≤ length s → i < 8
    → bits_of s ≡ put_at bs (8 * q) (bits_n (8 * i) (v / 2 ^ (64 - 8 * i)))
    → x ≡ v / 2 ^ (56 - 8 * i) % 2 ^ 8
    → bits_of (set s (q + i) x) ≡ put_at bs (8 * q) (bits_n (8 * (i + 1)) (v / 2 ^ (64 - 8 * (i + 1))))
word_put_step bs s q i v x lb h l inv ex =
    let xs : List Bool = bits_n (8 * i) (v / 2 ^ (64 - 8 * i)) in
    let lx : length xs ≡ 8 * i = length-bits_n (8 * i) (v / 2 ^ (64 - 8 * i)) in
    let e : 56 - 8 * i ≡ 64 - 8 * i - 8 = omega arith in
    let f : 8 * i + 8 ≡ 8 * (i + 1) = omega arith in
    write_byte s (q + i) x (omega arith)
    ∙ ap₂ (λ (r : List Bool) (y : ℕ). put_at r (8 * (q + i)) (bits_n 8 y)) inv (ex ∙ ap (λ (n : ℕ). v / 2 ^ n % 2 ^ 8) e)
    ∙ put_at-next bs (8 * q) xs (bits_n 8 (v / 2 ^ (64 - 8 * i - 8) % 2 ^ 8)) (8 * (q + i)) (omega (arith, lx)) (omega arith)
    ∙ ap (put_at bs (8 * q)) (bits_more 64 (8 * i) 8 v (omega arith) ∙ ap (λ (n : ℕ). bits_n n (v / 2 ^ (64 - n))) f)
