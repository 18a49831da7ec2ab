-- The loop's invariant: the first numbers stand where they go, each in at most 21 bytes.
use Rattle.std.proofs.Common.{map, take, ◌*◌, ◌+◌, ◌≡◌, ◌≤◌}
use Rattle.lines.specs.Lines.{Put, dec, spaced}
use Rattle.lines.proofs.Line.numbers.Given as goal

abbrev pub invariant-loop-n : goal.invariant-loop-n
invariant-loop-n l = record {
  same : l.self.out.ghost_name ≡ l.initial.self.out.ghost_name;
  upper_bound : l.self.at ≤ l.initial.self.at + 21 * l.n-index;
  put : Put l.initial.self.out.now l.initial.self.at (spaced (map dec (take l.n-index l.ns))) l.self.out.now l.self.at;
}
