use Rattle.std.proofs.Common.{◌-◌}
use Rattle.resolver.proofs.Scattering.{Resolving}
use Rattle.resolver.proofs.resolve.Given as goal

abbrev pub invariant-loop-i : goal.invariant-loop-i
invariant-loop-i l = Resolving l.s l.places l.count l.initial.targets l.targets l.i

abbrev pub decreases-loop-i : goal.decreases-loop-i
decreases-loop-i l = l.count - l.i
