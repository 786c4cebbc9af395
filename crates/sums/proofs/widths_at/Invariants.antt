use Rattle.sums.proofs.Widths.{Adding}
use Rattle.sums.proofs.widths_at.Given as goal

abbrev pub invariant-loop-i : goal.invariant-loop-i
invariant-loop-i l = Adding l.table l.p l.step l.n l.total l.i
