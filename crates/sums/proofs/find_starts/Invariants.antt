use Rattle.sums.proofs.Nodes.{Starting}
use Rattle.sums.proofs.find_starts.Given as goal

abbrev pub invariant-loop-start : goal.invariant-loop-start
invariant-loop-start l = Starting l.table l.n l.initial.start-items l.start-items l.p l.start-index
