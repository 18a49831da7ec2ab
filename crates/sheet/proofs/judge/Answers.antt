-- That the padding and the room are checked in their order, and what is answered where every check passes.
use Rattle.std.proofs.Common.{ap, ap₂, arith, drop, length, refl, take, ℕ, ◌*◌, ◌-◌, ◌∙◌, ◌≡◌, ◌≤◌, Ok, Err}
use Rattle.format.proofs.Accepted.{padding, later_5, later_6, later_none}
use Rattle.format.specs.Bits.{bits_of, value_of}
use Rattle.format.specs.Sheet.{n_of, m_of, bits_for, size_for}
use Rattle.format.specs.declared.Refusal.TheVariants.{StrayBits, FewWords}
use Rattle.sheet.proofs.Reader.{reading_is}
use Rattle.sheet.proofs.judge.Goals as goal
use Rattle.sheet.proofs.judge.Goals.{After-field-rest}

-- what the checks before the padding leave
whole : (c : After-field-rest) → let s = c.args.s.now in (n_of s ≤ 512) × (m_of s ≤ 256) × (length s ≡ size_for (n_of s) (m_of s))
whole c =
    let h = c.head_of in
    let w = c.in_ok-shape.shape in
    let is = c.in_ok-shape.ensures.1 in
    (omega (arith, w.n_fits, is.n_is, h.ensures.0), omega (arith, w.m_fits, is.m_is, h.ensures.1), rw (← h.ensures.0, ← h.ensures.1) (omega (arith, c.size-size.ensures.0)))

-- the padding, as it was read
pad : (c : After-field-rest) → let s = c.args.s.now in c.field-rest.result.value ≡ value_of (drop (bits_for (n_of s) (m_of s)) (bits_of s))
pad c =
    let h = c.head_of in
    let s = c.args.s.now in
    let w = whole c in
    c.field-rest.ensures.0
    ∙ ap₂ (λ (k b : ℕ). value_of (take (k * 8 - b) (drop b (bits_of s)))) (c.size-size.ensures.0 ∙ ap₂ size_for h.ensures.0 h.ensures.1) (c.bits-bits.ensures.0 ∙ ap₂ bits_for h.ensures.0 h.ensures.1)
    ∙ ap value_of (padding s (n_of s) (m_of s) c.args.room w.0 w.1 w.2)

pub returns-then-padding-gt0 : goal.returns-then-padding-gt0
returns-then-padding-gt0 c =
    let f = (goal.at.returns-then-padding-gt0 c).After-field-rest in
    let s = c.args.s.now in
    let w = whole f in
    reading_is s c.args.room 5 (Err StrayBits) c.if-s-lt3.false (later_5 s (n_of s) (m_of s) c.args.room w.0 w.1 w.2 (omega (arith, pad f))) refl

pub returns-then-room-words : goal.returns-then-room-words
returns-then-room-words c =
    let f = (goal.at.returns-then-room-words c).After-field-rest in
    let s = c.args.s.now in
    let w = whole f in
    let is = c.in_ok-shape.ensures.1 in
    reading_is s c.args.room 6 (Err FewWords) c.if-s-lt3.false (later_6 s (n_of s) (m_of s) c.args.room w.0 w.1 w.2 (omega (arith, pad f)) (omega (arith, is.m_is, c.head_of.ensures.1))) refl

pub returns : goal.returns
returns c =
    let f = (goal.at.returns c).After-field-rest in
    let s = c.args.s.now in
    let h = c.head_of in
    let w = whole f in
    let is = c.in_ok-shape.ensures.1 in
    reading_is s c.args.room 0 (Ok c.in_ok-shape.shape) c.if-s-lt3.false (later_none s (n_of s) (m_of s) c.args.room w.0 w.1 w.2 (omega (arith, pad f)) (omega (arith, is.m_is, h.ensures.1)))
    (refl, record { n_is = is.n_is ∙ h.ensures.0; m_is = is.m_is ∙ h.ensures.1 })
