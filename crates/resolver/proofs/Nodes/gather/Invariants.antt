use Rattle.resolver.proofs.Gathering.{Gathering}
use Rattle.resolver.proofs.Nodes.gather.Given as goal

abbrev pub invariant-loop-nodes : goal.invariant-loop-nodes
invariant-loop-nodes l = Gathering l.self.bytes.now l.self.places.now l.i l.left l.initial.wanted l.wanted l.nodes l.refs
