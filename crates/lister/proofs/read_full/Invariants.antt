use Rattle.std.proofs.Common.{◌≤◌, ◌-◌, length}
use Rattle.lister.proofs.read_full.Given as goal

abbrev pub invariant-loop-n : goal.invariant-loop-n
invariant-loop-n t l = l.n ≤ length l.buffer

abbrev pub decreases-loop-n : goal.decreases-loop-n
decreases-loop-n t l = length l.buffer - l.n
