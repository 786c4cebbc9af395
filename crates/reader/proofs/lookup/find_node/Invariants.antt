use Rattle.std.proofs.Common.{◌≡◌, ◌-◌}
use Rattle.reader.specs.Layout.{nodes_at}
use Rattle.reader.specs.Find.{node_found}
use Rattle.reader.proofs.Walking.{Passed}
use Rattle.reader.proofs.lookup.find_node.Given as goal

abbrev pub invariant-loop-index : goal.invariant-loop-index
invariant-loop-index l = Passed l.s l.count l.at l.index × (node_found 0 l.id (nodes_at l.count l.s l.first) ≡ node_found l.index l.id (nodes_at (l.count - l.index) l.s l.at))
