use Rattle.std.proofs.Common.{ap, ap₂, arith, ℕ, ◌*◌, ◌+◌, ◌-◌, ◌/◌, ◌∙◌, ◌≡◌}
use Rattle.format.proofs.Bytes.{length-bits_of}
use Rattle.format.proofs.Packed.{emitted}
use Rattle.format.specs.Bits.{bits_of, bits_n, put_at}
use Rattle.format.specs.Sheet.{bits_for, size_for}
use Rattle.sheet.proofs.emit.Goals as goal

pub returns : goal.returns
returns c =
    let a = c.args in
    let pre = c.requires in
    let put = c.put-head in
    let put2 = c.put-body in
    let rows = c.put_rows-end in
    let size = c.size-size in
    let put3 = c.put in
    let ends : bits_for a.shape.n a.shape.m ≡ rows.result.at = omega (arith, put.ensures.1, put2.ensures.1, rows.ensures.1) in
    let size_is : size.result ≡ (rows.result.at + 7) / 8 = size.ensures.0 ∙ ap₂ size_for c.head.ensures.0 c.head.ensures.1 ∙ ap (λ (k : ℕ). (k + 7) / 8) ends in
    emitted a.shape.n a.shape.m a.store.now (bits_of a.out.now) (bits_of put.new.s) (bits_of put2.new.s) (bits_of rows.new.out) (bits_of put3.new.s)
    put.result.at put2.result.at rows.result.at a.shape.n_fits (omega (arith, pre.1, length-bits_of a.out.now))
    put.ensures.0 put.ensures.1 put2.ensures.0 put2.ensures.1 rows.ensures.0 rows.ensures.1
    (put3.ensures.0 ∙ ap (λ (k : ℕ). put_at (bits_of rows.new.out) rows.result.at (bits_n (k * 8 - rows.result.at) 0)) size_is)
