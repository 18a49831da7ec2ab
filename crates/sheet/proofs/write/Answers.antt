use Rattle.std.proofs.Common.{ap, ap₂, drop, length, rules, sym, take, ℕ, ◌∙◌, ◌≡◌}
use Rattle.format.proofs.Packed.{front_bits, back_bytes}
use Rattle.format.specs.Bits.{bits_of, put_at}
use Rattle.format.specs.Sheet.{size_for, sheet_bits}
use Rattle.sheet.proofs.Writer.{write_accepted}
use Rattle.sheet.proofs.write.Goals as goal

pub returns : goal.returns
returns c =
    let a = c.args in
    let emit = c.emit in
    let new = emit.new.out in
    let is = c.in_ok-shape.ensures in
    let e : c.size.result ≡ size_for a.n a.m = c.size.ensures.0 ∙ ap₂ size_for (c.head.ensures.0 ∙ is.1.n_is) (c.head.ensures.1 ∙ is.1.m_is) in
    let k = (write_accepted a.n a.m a.store.now (length a.out.now) c.size.result (is.0, e)).0 in
    let put : bits_of new ≡ put_at (bits_of a.out.now) 0 (sheet_bits a.n a.m a.store.now) =
    emit.ensures ∙ ap₂ (λ (n m : ℕ). put_at (bits_of a.out.now) 0 (sheet_bits n m a.store.now)) is.1.n_is is.1.m_is in
    record {
      answer = (is.0, e);
      out =
          record {
            front = ap (λ (j : ℕ). bits_of (take j new)) e ∙ front_bits a.n a.m a.store.now a.out.now new k.n_small k.room_enough emit.auto.out put;
            back =
                ap (λ (j : ℕ). drop j new) e
                ∙ back_bytes a.n a.m a.store.now a.out.now new k.n_small k.room_enough emit.auto.out (search rules) (λ i. (c.type_inv.out i).fits) put
                ∙ ap (λ (j : ℕ). drop j a.out.now) (sym e);
          };
    }
