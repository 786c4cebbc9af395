use Rattle.std.proofs.Common.{◌≡◌}
use Rattle.reader.specs.Layout.{node_place}
use Rattle.reader.proofs.lookup.node_place.Given as goal

abbrev pub invariant-loop : goal.invariant-loop
invariant-loop l = l.at ≡ node_place l.s l.first l.counter
