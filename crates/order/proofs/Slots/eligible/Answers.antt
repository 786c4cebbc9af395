use Rattle.order.specs.Indices.{marked}
use Rattle.order.proofs.Descent.{waits-ready}
use Rattle.order.proofs.Slots.eligible.Goals as goal

pub returns-then-not-taken-i : goal.returns-then-not-taken-i
returns-then-not-taken-i c =
    let s = c.args.self in
    rw c.if-not-taken-i.true
    (waits-ready s.targets.now s.count (marked c.args.taken.now) c.args.i c.waits.result c.is_none.result c.waits.ensures.value c.is_none.ensures)
