-- THE SETTLED EXAMPLES hold of the definitions, by computation.
--   meets, runs     whether an answer is the one that brute force gives, and whether all of a run are
--   settled         THE STATEMENT: every answer of the table is right where it is given
--   all_accepted    the reader refuses no sheet of the table
--   five_says ..    a sheet's rows are the constraints that document 01 gives for it
--   wide_..         two constraints that differ past their first 64 columns: satisfiable, both kept
-- Assumes nothing.
use mathlib.Core.Path.{◌≡◌, refl, sym, ap, ap₂, ◌∙◌}
use mathlib.Core.Option.{Option, none, some}
use mathlib.Core.Bool.{Bool, true, false, not, ◌&&◌, beq, true≢false, false≢true}
use mathlib.Core.List.{List, [], ◌∷◌}
use mathlib.Core.Logic.{inl, inr, ◌≢◌}
use lib.Dec.{eqb, leb, leb→le}
use lib.ListN.{length}
use Prim.Native.Nat.{ℕ, ◌*◌}
use Rattle.gf2.specs.Field.{xsum}
use Rattle.gf2.specs.Lists.{◌∈◌, All}
use Rattle.gf2.specs.Rows.{Var, Assignment, Rows, row_sum, total, Kept}
use Rattle.gf2.specs.Answers.{code, value, variable, Implied, Solves, start, Literal, Position, OpenAnswer, unsatisfiable, opened, AssumeAnswer, held, conflict, implied, ExplainAnswer, AnswersExplain, Unexplained}
use Rattle.gf2.specs.History.{Event, opens, assumes, backs, explains, unexplained, stuck, refused, after, Right, Runs}
use Rattle.format.specs.Bits.{odd, bits_n, bits_of, value_of}
use Rattle.format.specs.Refusals.{refusal}
use Rattle.format.specs.Sheet.{m_of, reader, rows_from, sheet_rows}
use Rattle.settled.specs.Table.{table, accepted, five_sheet, system_b_sheet, five, system_b, wide}
use Rattle.gf2.proofs.Brute.{find_part, all_pass, agree, run, every, solves, implies, listing_from, open_answer, assume_answer, explain_answer}
use Rattle.gf2.proofs.Search.{and_both, all_pass_true, eqb_true, eqb_same, not_true}
use Rattle.gf2.proofs.Lists.{all_at}
use Rattle.gf2.proofs.Literals.{code_of}
use Rattle.gf2.proofs.Decide.{Fits, Answered, run_takes, open_right, assume_right, explain_right}
use Rattle.gf2.proofs.Sure.{explains_implied}
use Rattle.gf2.proofs.Reach.{reached_solution}
use Rattle.gf2.proofs.Explained.{explanation}
use Rattle.gf2.proofs.Next.{Good, step}

abbrev pub same_list : List ℕ → List ℕ → Bool
same_list [] [] = true
same_list [] (y ∷ ys) = false
same_list (x ∷ xs) [] = false
same_list (x ∷ xs) (y ∷ ys) = eqb x y && same_list xs ys

same_list_eq : (xs ys : List ℕ) → same_list xs ys ≡ true → xs ≡ ys
same_list_eq [] [] h = refl
same_list_eq [] (y ∷ ys) h = absurd (false≢true h)
same_list_eq (x ∷ xs) [] h = absurd (false≢true h)
same_list_eq (x ∷ xs) (y ∷ ys) h = let k = and_both (eqb x y) (same_list xs ys) h in ap₂ ◌∷◌ (eqb_true x y k.0) (same_list_eq xs ys k.1)

abbrev pub same_open : OpenAnswer → OpenAnswer → Bool
same_open (unsatisfiable xs) (unsatisfiable ys) = same_list xs ys
same_open (unsatisfiable xs) (opened k ys) = false
same_open (opened j xs) (unsatisfiable ys) = false
same_open (opened j xs) (opened k ys) = eqb j k && same_list xs ys

same_open_eq : (x y : OpenAnswer) → same_open x y ≡ true → x ≡ y
same_open_eq (unsatisfiable xs) (unsatisfiable ys) h = ap unsatisfiable (same_list_eq xs ys h)
same_open_eq (unsatisfiable xs) (opened k ys) h = absurd (false≢true h)
same_open_eq (opened j xs) (unsatisfiable ys) h = absurd (false≢true h)
same_open_eq (opened j xs) (opened k ys) h = let k = and_both (eqb j k) (same_list xs ys) h in ap₂ opened (eqb_true _ _ k.0) (same_list_eq xs ys k.1)

abbrev pub same_assume : AssumeAnswer → AssumeAnswer → Bool
same_assume held held = true
same_assume held conflict = false
same_assume held (implied ys) = false
same_assume conflict held = false
same_assume conflict conflict = true
same_assume conflict (implied ys) = false
same_assume (implied xs) held = false
same_assume (implied xs) conflict = false
same_assume (implied xs) (implied ys) = same_list xs ys

same_assume_eq : (x y : AssumeAnswer) → same_assume x y ≡ true → x ≡ y
same_assume_eq held held h = refl
same_assume_eq held conflict h = absurd (false≢true h)
same_assume_eq held (implied ys) h = absurd (false≢true h)
same_assume_eq conflict held h = absurd (false≢true h)
same_assume_eq conflict conflict h = refl
same_assume_eq conflict (implied ys) h = absurd (false≢true h)
same_assume_eq (implied xs) held h = absurd (false≢true h)
same_assume_eq (implied xs) conflict h = absurd (false≢true h)
same_assume_eq (implied xs) (implied ys) h = ap implied (same_list_eq xs ys h)

abbrev pub same_explain : Option ExplainAnswer → List ℕ → List ℕ → Bool
same_explain none clause numbers = false
same_explain (some x) clause numbers = same_list x.clause clause && same_list x.numbers numbers

abbrev pub literal : ℕ → ℕ → Bool
literal n l = leb 1 (variable l) && leb (variable l) n

pub literal_is : (n l : ℕ) → literal n l ≡ true → Literal n l
literal_is n l h = let k = and_both (leb 1 (variable l)) (leb (variable l) n) h in record { low = leb→le 1 (variable l) (rw k.0 tt); high = leb→le (variable l) n (rw k.1 tt) }

abbrev fits : Position → Bool
fits p = all_pass (literal p.n) p.taken

fits_is : (p : Position) → fits p ≡ true → Fits p
fits_is p h = all_pass_true (literal p.n) (Literal p.n) (literal_is p.n) p.taken h

abbrev pub in_range : ℕ → ℕ → Bool
in_range n v = leb 1 v && leb v n

pub in_range_is : (n v : ℕ) → in_range n v ≡ true → Var n v
in_range_is n v h = let k = and_both (leb 1 v) (leb v n) h in record { low = leb→le 1 v (rw k.0 tt); high = leb→le v n (rw k.1 tt) }

abbrev untaken : ℕ → Position → Bool
untaken v p = all_pass (λ l. not (eqb (variable l) v)) p.taken

untaken_is : (v : ℕ) (p : Position) → untaken v p ≡ true → (l : ℕ) × (l ∈ p.taken) × (variable l ≡ v) → ⊥
untaken_is v p h w =
    all_at (λ l. variable l ≢ v) p.taken (all_pass_true (λ l. not (eqb (variable l) v)) (λ l. variable l ≢ v) (λ l e q. true≢false (sym (eqb_same (variable l) v q) ∙ not_true (eqb (variable l) v) e)) p.taken h) w.0 w.1 w.2

-- ---- whether an answer is right, and whether all of a run are
abbrev meets : Option Position → Event → Bool
meets s (opens n rows answer) = same_open (open_answer n rows) answer
meets none (assumes l answer) = false
meets (some p) (assumes l answer) = fits p && (literal p.n l && same_assume (assume_answer p l) answer)
meets none (backs d) = false
meets (some p) (backs d) = leb d (length p.taken)
meets none (explains v answer) = false
meets (some p) (explains v answer) = fits p && (in_range p.n v && (untaken v p && same_explain (explain_answer p v) answer.clause answer.numbers))
meets s (unexplained v) = false
meets s (stuck l) = false
meets s (refused number) = false

unfoldable runs : Option Position → List Event → Bool
runs s [] = true
runs s (e ∷ es) = meets s e && runs (after s e) es

explained : (p : Position) → Fits p → (v : ℕ) (answer : ExplainAnswer) (o : Option ExplainAnswer) → Answered ExplainAnswer (AnswersExplain p v) o → same_explain o answer.clause answer.numbers ≡ true → AnswersExplain p v answer
explained p fit v answer none f k = absurd (false≢true k)
explained p fit v answer (some x) f k =
    let e = and_both (same_list x.clause answer.clause) (same_list x.numbers answer.numbers) k in
    let c = same_list_eq x.clause answer.clause e.0 in
    let d = same_list_eq x.numbers answer.numbers e.1 in
    let y : x ≡ answer = λ i. record { clause = c i; numbers = d i } in
    rw y at f

valued : (p : Position) → Fits p → (v : ℕ) → Var p.n v → (answer : ExplainAnswer) → AnswersExplain p v answer → ((b : Bool) → Implied p (code v b) → ⊥) → ⊥
valued p fit v m answer e neither =
    neither (value e.literal)
    (rw (← e.of_v, code_of e.literal)
    (explains_implied p fit e.literal (record { low = rw e.of_v m.low; high = rw e.of_v m.high }) e.rows e.cited e.explains))

meets_right : (s : Option Position) (e : Event) → Good s → meets s e ≡ true → Right s e
meets_right s (opens n rows answer) g h = rw (same_open_eq (open_answer n rows) answer h) at (open_right n rows)
meets_right none (assumes l answer) g h = absurd (false≢true h)
meets_right (some p) (assumes l answer) g h =
    let a = and_both (fits p) (literal p.n l && same_assume (assume_answer p l) answer) h in
    let b = and_both (literal p.n l) (same_assume (assume_answer p l) answer) a.1 in
    let m = literal_is p.n l b.0 in
    (m, rw (same_assume_eq (assume_answer p l) answer b.1) at (assume_right p (fits_is p a.0) l m))
meets_right none (backs d) g h = absurd (false≢true h)
meets_right (some p) (backs d) g h = leb→le d (length p.taken) (rw h tt)
meets_right none (explains v answer) g h = absurd (false≢true h)
meets_right (some p) (explains v answer) g h =
    let a = and_both (fits p) (in_range p.n v && (untaken v p && same_explain (explain_answer p v) answer.clause answer.numbers)) h in
    let b = and_both (in_range p.n v) (untaken v p && same_explain (explain_answer p v) answer.clause answer.numbers) a.1 in
    let c = and_both (untaken v p) (same_explain (explain_answer p v) answer.clause answer.numbers) b.1 in
    let fit = fits_is p a.0 in
    let m = in_range_is p.n v b.0 in
    let e = explained p fit v answer (explain_answer p v) (explain_right p fit v) c.1 in
    (m, refusal p v (valued p fit v m answer e) (untaken_is v p c.0), explanation p g v m answer e)
  where
    refusal : (p : Position) (v : ℕ) → (((b : Bool) → Implied p (code v b) → ⊥) → ⊥) → ((l : ℕ) × (l ∈ p.taken) × (variable l ≡ v) → ⊥) → Unexplained p v → ⊥
    refusal p v f g (inl h) = f h
    refusal p v f g (inr w) = g w
meets_right s (unexplained v) g h = absurd (false≢true h)
meets_right s (stuck l) g h = absurd (false≢true h)
meets_right s (refused number) g h = absurd (false≢true h)

runs_right : (s : Option Position) (es : List Event) → Good s → runs s es ≡ true → Runs s es
unfolding runs
runs_right s [] g h = tt
runs_right s (e ∷ es) g h =
    let k = and_both (meets s e) (runs (after s e) es) h in
    let r = meets_right s e g k.0 in
    (r, runs_right (after s e) es (step s e g r) k.1)

-- THE STATEMENT: every answer in the table is right where it is given
pub settled : All (Runs none) table
unfolding find_part all_pass agree run every solves implies listing_from row_sum total xsum runs odd bits_n bits_of value_of rows_from
settled = all_pass_true (runs none) (Runs none) (λ es. runs_right none es tt) table refl

-- with room for the rows, the reader refuses no sheet of the table
pub all_accepted : All (λ s. refusal (reader s (9 * m_of s)) ≡ 0) accepted
unfolding odd bits_n bits_of value_of
all_accepted = (refl, (refl, (refl, (refl, (refl, tt)))))

-- two lists of rows with the same numbers and the same columns
abbrev same_rows : ℕ → Rows → Rows → Bool
same_rows n [] [] = true
same_rows n [] (d ∷ ds) = false
same_rows n (c ∷ cs) [] = false
same_rows n (c ∷ cs) (d ∷ ds) = eqb c.number d.number && (beq (c.row 0) (d.row 0) && (agree n c.row d.row && same_rows n cs ds))

pub five_says : same_rows 3 (sheet_rows five_sheet) five ≡ true
unfolding agree odd bits_n bits_of value_of rows_from
five_says = refl

pub system_b_says : same_rows 6 (sheet_rows system_b_sheet) system_b ≡ true
unfolding agree odd bits_n bits_of value_of rows_from
system_b_says = refl

-- both are kept, and some assignment satisfies them
pub wide_kept : Kept 66 wide wide
unfolding find_part agree run total
wide_kept = run_takes 66 [] wide

pub wide_satisfiable : (a : Assignment) × Solves (start 66 wide) a
wide_satisfiable = reached_solution (start 66 wide) (record { kept = wide; is_kept = wide_kept; fresh = tt })
