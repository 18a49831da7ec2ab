-- A STATE IN A MEMORY whose front is lent.
--   front_stands   a state is its header and its first 4,096 words; front_matches: so is what is open, or nothing
--   long           a state has at least 4,096 words
--   lent_matches   where enough words are lent, the state stands in them
--   behind         what a call left matches with the words behind it
--   unchanged      a call that changed nothing of what it was lent left the memory as it was
-- Assumes nothing.
use mathlib.Core.Path.{◌≡◌, sym}
use mathlib.Core.Option.{Option, none, some}
use mathlib.Core.List.{List, ◌++◌}
use lib.ListN.{length, take, drop, take-append-drop, length-take}
use Prim.Native.Nat.{ℕ, ◌≤◌}
use native.Mathlib.Omega.{arith}
use Rattle.std.proofs.lemmas.List.{take-append-le, take-take}
use Rattle.gf2.specs.Answers.{Position}
use Rattle.judge.specs.declared.Header.{Header}
use Rattle.tableau.specs.Layout.{size}
use Rattle.parity.specs.Promises.{Stands}
use Rattle.history.specs.Calls.{Matches}

pub front_stands : {h : Header} {work work' : List ℕ} {p : Position} → take size work ≡ take size work' → Stands h work p → Stands h work' p
front_stands e st =
    record { Sheet = st.Sheet; kept = st.kept; var = st.var; val = st.val; fit = st.fit; is_kept = st.is_kept; made = rw e at st.made; here = st.here; reached = st.reached }

pub front_matches : (h : Header) (mem mem' : List ℕ) (s : Option Position) → take size mem ≡ take size mem' → Matches h mem s → Matches h mem' s
front_matches h mem mem' none e m = m
front_matches h mem mem' (some p) e m = front_stands e m

pub long : {h : Header} {work : List ℕ} {p : Position} → Stands h work p → size ≤ length work
long {work = work} st = let l = st.made.room in let e = length-take size work in omega arith

pub lent_matches : (h : Header) (mem : List ℕ) (words : ℕ) (s : Option Position)
    → size ≤ length (take words mem) → Matches h mem s → Matches h (take words mem) s
lent_matches h mem words s l m = front_matches h mem (take words mem) s (sym (take-take size words mem (let e = length-take words mem in omega arith))) m

pub behind : (h : Header) (part rest : List ℕ) (s : Option Position) → Matches h part s → Matches h (part ++ rest) s
behind h part rest none m = m
behind h part rest (some p) m = front_stands (sym (take-append-le size part rest (long m))) m

pub unchanged : {h h' : Header} (mem part : List ℕ) (words : ℕ) (s : Option Position) → h' ≡ h → part ≡ take words mem
    → Matches h mem s → Matches h' (part ++ drop words mem) s
unchanged mem part words s a b m = rw (a, b, take-append-drop words mem) m
