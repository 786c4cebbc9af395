use Rattle.std.proofs.Common.{◌-◌}
use Rattle.base.specs.Limits.{node_limit}
use Rattle.order.proofs.Reached.{Walking}
use Rattle.order.proofs.Slots.on_loop.Given as goal

abbrev pub invariant-loop-head : goal.invariant-loop-head
invariant-loop-head l = Walking l.self.targets.now l.self.count l.i l.head l.walk

abbrev pub decreases-loop-head : goal.decreases-loop-head
decreases-loop-head l = node_limit - l.head
