use Rattle.std.proofs.Common.{◌+◌, ◌*◌}
use Rattle.order.specs.Walk.{unmarked}
use Rattle.order.proofs.Descent.{Searching}
use Rattle.order.proofs.Slots.take_all.Given as goal

abbrev pub invariant-loop-root : goal.invariant-loop-root
invariant-loop-root l = Searching l.self.targets.now l.self.count l.taken l.pushed l.stack l.root 0 l.count

abbrev pub invariant-loop-depth : goal.invariant-loop-depth
invariant-loop-depth l = Searching l.self.targets.now l.self.count l.taken l.pushed l.stack (l.root + 1) l.depth l.count

abbrev pub decreases-loop-depth : goal.decreases-loop-depth
decreases-loop-depth l = 2 * unmarked l.pushed + l.depth
