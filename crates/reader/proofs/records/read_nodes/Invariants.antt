use Rattle.std.proofs.Common.{◌≡◌, ◌-◌}
use Rattle.graph.specs.Read.{nodes}
use Rattle.reader.specs.Records.{next}
use Rattle.reader.proofs.records.read_nodes.Given as goal

abbrev pub invariant-loop : goal.invariant-loop
invariant-loop l = next (nodes l.n l.s l.at) ≡ next (nodes (l.n - l.counter) l.s l.p)
