use Rattle.resolver.proofs.Matching.{Marking}
use Rattle.resolver.proofs.mark.Given as goal

abbrev pub invariant-loop-r : goal.invariant-loop-r
invariant-loop-r l = Marking l.wanted l.id l.i l.initial.found l.found l.r
