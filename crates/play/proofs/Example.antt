-- THE SESSION of document 01, from its seventeen bytes to its six lines.
--   example_input, example_text   as document 01 prints them
--   example       THE STATEMENT: the session on these bytes says this text
--   example_only  and no other
-- Assumes nothing.
use mathlib.Core.Path.{◌≡◌, refl}
use mathlib.Core.List.{List, [], ◌∷◌}
use mathlib.Core.Option.{none}
use Prim.Native.Nat.{ℕ}
use Rattle.gf2.specs.History.{Event, assumes, backs, explains, Runs}
use Rattle.gf2.specs.Answers.{opened, conflict, implied}
use Rattle.format.specs.Bits.{odd, bits_n, bits_of, value_of}
use Rattle.lines.specs.Lines.{word, dec, spaced}
use Rattle.settled.specs.Table.{sheet, because, system_b_sheet}
use Rattle.settled.proofs.Right.{settled}
use Rattle.play.specs.Session.{Says, ended, then, commanded, assumed, gone_back, explained}
use Rattle.play.proofs.OneText.{session_same}

-- `01 80 72 D6 1A 40 02 C0 03 40 06 80 00 40 08 00 00`
abbrev pub example_input : List ℕ
example_input = 1 ∷ 128 ∷ 114 ∷ 214 ∷ 26 ∷ 64 ∷ 2 ∷ 192 ∷ 3 ∷ 64 ∷ 6 ∷ 128 ∷ 0 ∷ 64 ∷ 8 ∷ 0 ∷ 0 ∷ []

abbrev pub example_text : List ℕ
example_text = word "open 3 implied 0\nimplied 1 7\nexplain 3 clause 7 3 rows 1 3\nconflict 3\nback 0\nimplied 0\n"

-- the run of the settled table that this session is
abbrev run : List Event
run =
    sheet system_b_sheet (opened 3 []) ∷ assumes 2 (implied (7 ∷ [])) ∷ explains 3 (because (7 ∷ 3 ∷ []) (1 ∷ 3 ∷ []))
    ∷ assumes 6 conflict ∷ backs 0 ∷ assumes 8 (implied []) ∷ []

right : Runs none run
right = settled.1.1.1.1.1.1.1.0

pub example : Says example_input example_text
unfolding odd bits_n bits_of value_of dec spaced
example =
    let f = right in
    commanded refl f.0
    (then (assumed (implied (7 ∷ [])) f.1.0.0 f.1.0.1)
    (then (explained (because (7 ∷ 3 ∷ []) (1 ∷ 3 ∷ [])) f.1.1.0.0 f.1.1.0.1 f.1.1.0.2)
    (then (assumed conflict f.1.1.1.0.0 f.1.1.1.0.1)
    (then (gone_back f.1.1.1.1.0)
    (then (assumed (implied []) f.1.1.1.1.1.0.0 f.1.1.1.1.1.0.1)
    (ended refl))))))

pub example_only : (t : List ℕ) → Says example_input t → t ≡ example_text
example_only t h = session_same h example
