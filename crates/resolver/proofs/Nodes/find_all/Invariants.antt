use Rattle.resolver.proofs.Matching.{Matching}
use Rattle.resolver.proofs.Nodes.find_all.Given as goal

abbrev pub invariant-loop-i : goal.invariant-loop-i
invariant-loop-i l = Matching l.self.bytes.now l.self.places.now l.wanted l.found l.i
