use Rattle.resolver.proofs.Scattering.{Scattering}
use Rattle.resolver.proofs.Nodes.scatter.Given as goal

abbrev pub invariant-loop-n : goal.invariant-loop-n
invariant-loop-n l = Scattering l.self.bytes.now l.self.places.now l.found l.initial.targets l.i l.nodes l.targets l.n l.from
