use Rattle.std.proofs.Common.{arith, refl, rules, ◌∙◌}
use Rattle.gf2.proofs.Literals.{code_variable, code_value}
use Rattle.exchange.specs.Steps.{followed, turned, stuck}
use Rattle.exchange.proofs.Passes.{partner_has}
use Rattle.exchange.proofs.take.Goals as goal

pub returns-in_default : goal.returns-in_default
returns-in_default c =
    let l = c.args.l in
    let v = code_variable l.variable.number l.value in
    let b = code_value l.variable.number l.value in
    let e = c.set_entry in
    followed e.new.work (rw v c.in_default.ensures) (rw (← c.code.ensures) e.ensures) (rw (v, b) c.follow.ensures)

pub returns-in_default-partner : goal.returns-in_default-partner
returns-in_default-partner c =
    let v = code_variable c.args.l.variable.number c.args.l.value in
    stuck c.in-Some.p (rw v c.in-Some.ensures) (rw v c.in_default-partner.ensures) refl

pub turn-requires : goal.turn-requires
turn-requires c =
    let f = c.in-Some.ensures in
    let l = f.below in
    let q = c.in-Some-partner.ensures in
    let has = partner_has _ _ _ _ _ (omega arith) q (λ i h. c.set_entry-2.ensures.rest i h ∙ c.set_home.ensures.rest i h) in
    (search rules, omega arith, l, has)

pub returns : goal.returns
returns c =
    let l = c.args.l in
    let v = code_variable l.variable.number l.value in
    let b = code_value l.variable.number l.value in
    let h = c.set_home in
    let e = c.set_entry-2 in
    let u = c.in-Some-partner.u.number in
    turned c.in-Some.p u h.new.work e.new.work (rw v c.in-Some.ensures) (rw v c.in-Some-partner.ensures) h.ensures
    (rw (← c.code-2.ensures) e.ensures) (rw (v, b) c.turn.ensures)
