use Rattle.std.proofs.Common.{◌≡◌}
use lib.Seq.{sets}
use Rattle.sums.specs.Position.{tabulate}
use Rattle.sums.specs.Capped.{capped_sums}
use Rattle.sums.proofs.all_sums.Given as goal

abbrev pub invariant-loop-k : goal.invariant-loop-k
invariant-loop-k l = l.sums ≡ sets l.initial.sums 0 (tabulate (capped_sums l.table) l.k)
