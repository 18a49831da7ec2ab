use Rattle.settle.proofs.restart.Goals as goal

-- in full, so that the edit that settles no row is refused at the rows
pub returns : goal.returns
returns c =
    let z = c.clear_values in
    let p = c.put_entries in
    record { empty = z.new.work; begun = p.new.work; cleared = z.ensures; set = p.ensures; settled = c.settle.ensures }
