use Rattle.order.proofs.Marks.{Scheduling}
use Rattle.order.proofs.schedule.Given as goal

abbrev pub invariant-loop-count : goal.invariant-loop-count
invariant-loop-count l = Scheduling l.targets l.n l.fn.order l.order l.taken l.low l.count
