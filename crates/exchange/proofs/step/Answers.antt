use Rattle.std.proofs.Common.{◌≡◌, Bool, ◌-◌, refl, sym, ◌∙◌, subst}
use Rattle.gf2.specs.Answers.{variable, code}
use Rattle.words.specs.Words.{bit_at}
use Rattle.tableau.specs.Layout.{truth_at}
use Rattle.gf2.proofs.Literals.{code_variable, code_value}
use Rattle.exchange.proofs.Steps.{beq_other}
use Rattle.exchange.proofs.step.Goals as goal

-- in full, so that the edit that answers a conflict as held is refused at the two values
pub returns-then-bit : goal.returns-then-bit
returns-then-bit c =
    let l = c.args.l in
    let v = code_variable l.variable.number l.value in
    let b = code_value l.variable.number l.value in
    let known = rw (← v) at c.bit.ensures in
    let truth = rw (← v) at c.bit-then-bit.ensures in
    let apart = subst (λ (x : Bool). x ≡ l.value → ⊥) truth (beq_other c.bit-then-bit.result l.value c.if-bit-l.false) in
    let held = bit_at c.args.work.now truth_at (variable (code l.variable.number l.value) - 1) in
    (refl, sym known ∙ c.if-bit.true, subst (λ (x : Bool). held ≡ x → ⊥) (sym b) apart)
