-- WHAT A SESSION SAYS IS ONE TEXT: there is one for every input, and no other.
--   command_same, commands_same, session_same   what is said of a command, of the commands in some bytes, of an input, is one text
--   command_one, commands_one, session_one      and there is one
--   one_text         THE STATEMENT: of every input of bytes
--   spoken_same      two writers that held the same bytes, and grew by the session on one input, hold the same bytes
--   Bytes s          a list of bytes
--   next_reached     the position after a command is one that calls lead to
-- Assumes nothing.
use mathlib.Core.Path.{◌≡◌, refl, sym, ap, ap₂, ◌∙◌, subst}
use mathlib.Core.Logic.{◌⊎◌, inl, inr, ◌≢◌}
use mathlib.Core.List.{List, [], ◌∷◌, ◌++◌}
use Prim.Native.Nat.{ℕ, zero, suc, ◌/◌, ◌<◌, ◌≤◌}
use native.Mathlib.Omega.{arith}
use lib.ListN.{length, take, drop}
use Rattle.std.specs.Prelude.{Option, None, Some}
use Rattle.gf2.specs.Lists.{All}
use Rattle.gf2.specs.Rows.{Var}
use Rattle.gf2.specs.Answers.{variable, Position, start, Literal, moved, withdrawn, held, conflict, implied, ExplainAnswer, AnswersExplain, OpenAnswer, opened, unsatisfiable, AnswersOpen, Unexplained, Reached}
use Rattle.gf2.proofs.Sums.{same_dec}
use Rattle.gf2.proofs.Sure.{One, open_one, assume_one, explain_one}
use Rattle.gf2.proofs.Unique.{open_unique, assume_unique}
use Rattle.gf2.proofs.Explained.{explain_unique, explanation}
use Rattle.gf2.proofs.Reach.{reached_solution, opened_reached, assumed_reached, withdrawn_reached}
use Rattle.format.specs.Sheet.{n_of, sheet_rows}
use Rattle.format.proofs.Answering.{RefusedOrNot, refused_or}
use Rattle.lines.specs.Lines.{Said, text}
use Rattle.dialogue.specs.Dialogue.{sheet_end, command_of, kind, operand, opening_line, assume_line}
use Rattle.play.specs.Session.{most_bytes, sheet_part, command_part, sheet_refusal, Command, assumed, no_literal, gone_back, too_deep, explained, unexplained, no_variable, Commands, over, ended, then, Session, SessionOn, Says, refused, contradicted, commanded}
use Rattle.play.specs.Pages.{Spoken}
use Rattle.std.proofs.lemmas.Bool.{cases_lt}

-- ---- at most one
command_same : (p : Position) → Reached p → {k i : ℕ} {a b : Said} {q r : Position} → Command p k i a q → Command p k i b r → (a ≡ b) × (q ≡ r)
command_same p g (assumed {l} x m f) (assumed y n h) =
    let e = assume_unique p (reached_solution p g) l x y f h in
    (ap (assume_line (variable l)) e, ap (moved p l) e)
command_same p g (assumed x m f) (no_literal n) = absurd (n m)
command_same p g (no_literal n) (assumed x m f) = absurd (n m)
command_same p g (no_literal n) (no_literal m) = (refl, refl)
command_same p g (gone_back m) (gone_back n) = (refl, refl)
command_same p g (gone_back m) (too_deep n) = absurd (omega arith)
command_same p g (too_deep m) (gone_back n) = absurd (omega arith)
command_same p g (too_deep m) (too_deep n) = (refl, refl)
command_same p g (explained {v} x m u f) (explained y n w h) =
    let e = explain_unique p g v x y f.answers h.answers in
    (ap (λ (z : ExplainAnswer). Said.explained v z.clause z.numbers) e, refl)
command_same p g (explained x m u f) (unexplained n w) = absurd (u w)
command_same p g (explained x m u f) (no_variable n) = absurd (n m)
command_same p g (unexplained n w) (explained x m u f) = absurd (u w)
command_same p g (unexplained m u) (unexplained n w) = (refl, refl)
command_same p g (unexplained m u) (no_variable n) = absurd (n m)
command_same p g (no_variable n) (explained x m u f) = absurd (n m)
command_same p g (no_variable n) (unexplained m u) = absurd (n m)
command_same p g (no_variable m) (no_variable n) = (refl, refl)

next_reached : (p : Position) → Reached p → {k i : ℕ} {said : Said} {q : Position} → Command p k i said q → Reached q
next_reached p g (assumed {l} held m f) = g
next_reached p g (assumed {l} conflict m f) = g
next_reached p g (assumed {l} (implied list) m f) = assumed_reached p g l m list f
next_reached p g (no_literal n) = g
next_reached p g (gone_back {d} m) = withdrawn_reached p g d
next_reached p g (too_deep m) = g
next_reached p g (explained x m u f) = g
next_reached p g (unexplained m u) = g
next_reached p g (no_variable n) = g

-- no command of kind 0 is answered
kind_pos : {p q : Position} {k i : ℕ} {said : Said} → Command p k i said q → 1 ≤ k
kind_pos (assumed x m f) = omega arith
kind_pos (no_literal n) = omega arith
kind_pos (gone_back m) = omega arith
kind_pos (too_deep m) = omega arith
kind_pos (explained x m u f) = omega arith
kind_pos (unexplained m u) = omega arith
kind_pos (no_variable n) = omega arith

pub commands_same : {p : Position} → Reached p → {bytes t u : List ℕ} → Commands p bytes t → Commands p bytes u → t ≡ u
commands_same g (over l) (over m) = refl
commands_same g (over l) (ended e) = absurd (omega arith)
commands_same g (over l) (then a cs) = absurd (omega arith)
commands_same g (ended e) (over l) = absurd (omega arith)
commands_same g (ended e) (ended f) = refl
commands_same g (ended e) (then a cs) = let k = kind_pos a in absurd (omega arith)
commands_same g (then a cs) (over l) = absurd (omega arith)
commands_same g (then a cs) (ended e) = let k = kind_pos a in absurd (omega arith)
commands_same {p} g (then {bytes = bytes} {more = t} a cs) (then {more = u} b ds) =
    let e = command_same p g a b in
    ap₂ ◌++◌ (ap text e.0) (commands_same (next_reached p g a) cs (subst (λ (q : Position). Commands q bytes u) (sym e.1) ds))

pub session_same : {sheet commands t u : List ℕ} → Session sheet commands t → Session sheet commands u → t ≡ u
session_same (refused e) (refused f) = let g = sym e ∙ f in ap (λ (k : ℕ). text (Said.refused k)) g
session_same (refused e) (contradicted z f) = cc
session_same (refused e) (commanded z f cs) = cc
session_same (contradicted z f) (refused e) = cc
session_same {sheet} (contradicted {rows} z f) (contradicted {rows = list} y g) =
    let e : unsatisfiable rows ≡ unsatisfiable list = open_unique (n_of sheet) (sheet_rows sheet) (unsatisfiable rows) (unsatisfiable list) f g in
    ap (λ (a : OpenAnswer). text (opening_line a)) e
session_same {sheet} (contradicted {rows} z f) (commanded {kept} {codes} y g cs) =
    let e = open_unique (n_of sheet) (sheet_rows sheet) (unsatisfiable rows) (opened kept codes) f g in cc
session_same (commanded z f cs) (refused e) = cc
session_same {sheet} (commanded {kept} {codes} y g cs) (contradicted {rows} z f) =
    let e = open_unique (n_of sheet) (sheet_rows sheet) (unsatisfiable rows) (opened kept codes) f g in cc
session_same {sheet} (commanded {kept} {codes} z f cs) (commanded {kept = count} {codes = list} y g ds) =
    let e : opened kept codes ≡ opened count list = open_unique (n_of sheet) (sheet_rows sheet) (opened kept codes) (opened count list) f g in
    ap₂ ◌++◌ (ap (λ (a : OpenAnswer). text (opening_line a)) e) (commands_same (opened_reached (n_of sheet) (sheet_rows sheet) kept codes f) cs ds)

-- ---- at least one
literal_or : (n v : ℕ) → Var n v ⊎ (Var n v → ⊥)
literal_or n v = go (cases_lt v 1) (cases_lt n v)
  where
    go : (v < 1) ⊎ (1 ≤ v) → (n < v) ⊎ (v ≤ n) → Var n v ⊎ (Var n v → ⊥)
    go (inr a) (inr b) = inl (record { low = a; high = b })
    go (inl a) b = inr (λ x. let l = x.low in omega arith)
    go (inr a) (inl b) = inr (λ x. let h = x.high in omega arith)

abbrev Answer : Position → ℕ → ℕ → Type 0
Answer p k i = (said : Said) × (q : Position) × Command p k i said q

assume_answered : (p : Position) → Reached p → (l : ℕ) → Answer p 1 l
assume_answered p g l = go (literal_or p.n (l / 2))
  where
    go : Literal p.n l ⊎ (Literal p.n l → ⊥) → Answer p 1 l
    go (inl m) = let a = assume_one p g l m in (assume_line (variable l) a.0, moved p l a.0, assumed a.0 m a.1)
    go (inr n) = (Said.refused 8, p, no_literal n)

back_answered : (p : Position) (d : ℕ) → Answer p 2 d
back_answered p d = go (cases_lt (length p.taken) d)
  where
    go : (length p.taken < d) ⊎ (d ≤ length p.taken) → Answer p 2 d
    go (inr m) = (Said.back d, withdrawn p d, gone_back m)
    go (inl m) = (Said.refused 9, p, too_deep m)

explain_answered : (p : Position) → Reached p → (v : ℕ) → Answer p 3 v
explain_answered p g v = go (literal_or p.n v)
  where
    told : Var p.n v → Unexplained p v ⊎ ((Unexplained p v → ⊥) × One ExplainAnswer (AnswersExplain p v)) → Answer p 3 v
    told m (inl u) = (Said.refused 10, p, unexplained m u)
    told m (inr w) = (Said.explained v w.1.0.clause w.1.0.numbers, p, explained w.1.0 m w.0 (explanation p g v m w.1.0 w.1.1))

    go : Var p.n v ⊎ (Var p.n v → ⊥) → Answer p 3 v
    go (inl m) = told m (explain_one p g v m)
    go (inr n) = (Said.refused 8, p, no_variable n)

command_one : (p : Position) → Reached p → (k i : ℕ) → 1 ≤ k → k < 4 → Answer p k i
command_one p g k i low high = go (same_dec k 1) (same_dec k 2)
  where
    go : (k ≡ 1) ⊎ (k ≢ 1) → (k ≡ 2) ⊎ (k ≢ 2) → Answer p k i
    go (inl e) f = rw e (assume_answered p g i)
    go (inr n) (inl f) = rw f (back_answered p i)
    go (inr n) (inr m) = let e : k ≡ 3 = omega (arith, n, m) in rw e (explain_answered p g i)

-- a list of bytes
abbrev pub Bytes : List ℕ → Type 0
Bytes s = All (λ b. b < 256) s

pub commands_one : (p : Position) → Reached p → (bytes : List ℕ) → Bytes bytes → (t : List ℕ) × Commands p bytes t
commands_one p g [] b = ([], over (omega arith))
commands_one p g (high ∷ []) b = ([], over (omega arith))
commands_one p g (high ∷ low ∷ bytes) b = go (λ q r. commands_one q r bytes b.1.1) (same_dec (kind (command_of high low)) 0)
  where
    go : ((q : Position) → Reached q → (t : List ℕ) × Commands q bytes t) → (kind (command_of high low) ≡ 0) ⊎ (kind (command_of high low) ≢ 0)
        → (t : List ℕ) × Commands p (high ∷ low ∷ bytes) t
    go more (inl e) = ([], ended e)
    go more (inr n) =
        let h = b.0 in
        let l = b.1.0 in
        let a = command_one p g (kind (command_of high low)) (operand (command_of high low)) (omega (arith, n)) (omega arith) in
        let cs = more a.1 (next_reached p g a.2) in
        (text a.0 ++ cs.0, then a.2 cs.1)

pub session_one : (sheet commands : List ℕ) → Bytes commands → One (List ℕ) (Session sheet commands)
session_one sheet commands b = (there.0, there.1, λ y h. session_same h there.1)
  where
    opens : sheet_refusal sheet ≡ 0 → (a : OpenAnswer) → AnswersOpen (n_of sheet) (sheet_rows sheet) a → (t : List ℕ) × Session sheet commands t
    opens z (unsatisfiable rows) f = (text (opening_line (unsatisfiable rows)), contradicted z f)
    opens z (opened kept codes) f =
        let cs = commands_one (start (n_of sheet) (sheet_rows sheet)) (opened_reached (n_of sheet) (sheet_rows sheet) kept codes f) commands b in
        (text (opening_line (opened kept codes)) ++ cs.0, commanded z f cs.1)

    there : (t : List ℕ) × Session sheet commands t
    there = go (refused_or (sheet_refusal sheet))
      where
        go : RefusedOrNot (sheet_refusal sheet) → (t : List ℕ) × Session sheet commands t
        go (inl w) = (text (Said.refused (suc w.0)), refused w.1)
        go (inr z) = let a = open_one (n_of sheet) (sheet_rows sheet) in opens z a.0 a.1

all_take : (k : ℕ) (s : List ℕ) → Bytes s → Bytes (take k s)
all_take zero s b = tt
all_take (suc k) [] b = b
all_take (suc k) (x ∷ s) b = (b.0, all_take k s b.1)

pub all_drop : (k : ℕ) (s : List ℕ) → Bytes s → Bytes (drop k s)
all_drop zero s b = b
all_drop (suc k) [] b = b
all_drop (suc k) (x ∷ s) b = all_drop k s b.1

pub one_text : (input : List ℕ) → Bytes input → One (List ℕ) (Says input)
one_text input b =
    let s : List ℕ = take most_bytes input in
    session_one (sheet_part s) (command_part s) (all_drop (sheet_end s) s (all_take most_bytes input b))

-- so what a writer holds at the end is determined, where it was known at the start
pub spoken_same : (s : List ℕ) {xs : List ℕ} {new new' : Option (List ℕ)}
    → Spoken (SessionOn s) (Some xs) new → Spoken (SessionOn s) (Some xs) new' → new ≡ new'
spoken_same s {new = None} p q = absurd p.grown
spoken_same s {new = Some ys} {new' = None} p q = absurd q.grown
spoken_same s {xs} {new = Some ys} {new' = Some zs} p q = ap Some (p.grown ∙ ap (λ (t : List ℕ). xs ++ t) (session_same p.says q.says) ∙ sym q.grown)
