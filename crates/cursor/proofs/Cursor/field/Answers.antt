use Rattle.std.proofs.Common.{arith, refl, ◌∙◌}
use Rattle.cursor.proofs.Fields.{field_of_window}
use Rattle.cursor.proofs.Cursor.field.Goals as goal

pub returns-then-q-s : goal.returns-then-q-s
returns-then-q-s c =
    let a = c.args in
    let w = c.window-w in
    (c.lowered-value.ensures ∙ field_of_window a.s.now a.self.at a.count w.result (omega arith) (omega arith) w.ensures, refl)
