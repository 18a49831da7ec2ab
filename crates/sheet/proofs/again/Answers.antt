use Rattle.std.proofs.Common.{List, ap, drop, length, rules, ◌∙◌, ℕ, ◌*◌}
use Rattle.format.specs.Bits.{bits_of, put_at}
use Rattle.format.specs.Sheet.{sheet_bits}
use Rattle.sheet.proofs.Reader.{read_accepted}
use Rattle.sheet.proofs.Rewriter.{again_read, same_bytes}
use Rattle.sheet.proofs.again.Goals as goal

pub returns : goal.returns
returns c =
    let a = c.args in
    let h = c.in_ok-shape.shape in
    let is = c.in_ok-shape.ensures in
    let room = length a.store.now in
    record {
      answer = again_read a.s.now room (length a.out.now) h is c.if-out-s.false;
      store = c.fill.ensures;
      bytes =
          same_bytes a.s.now (drop (9 * h.m) a.store.now) a.out.now c.emit.new.out room h.n h.m (read_accepted a.s.now room h is) c.if-out-s.false c.emit.auto.out
          (search rules) (search rules) (λ i. (c.type_inv.out i).fits)
          (c.emit.ensures ∙ ap (λ (ws : List ℕ). put_at (bits_of a.out.now) 0 (sheet_bits h.n h.m ws)) c.fill.ensures);
    }
