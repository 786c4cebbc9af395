use Rattle.std.proofs.Common.{arith}
use Rattle.order.specs.Indices.{marked}
use Rattle.order.proofs.Descent.{waits-at, waits-nowhere}
use Rattle.order.proofs.Slots.waits.Goals as goal

pub returns-then-not-taken-v-clause-value : goal.returns-then-not-taken-v-clause-value
returns-then-not-taken-v-clause-value c =
    let s = c.args.self in
    waits-at s.targets.now s.count (marked c.args.taken.now) c.args.i c.loop-j.j c.from-v.result c.from-v.ensures c.loop-j-test.true c.loop-j.invariant
    c.if-v-self.true c.if-not-taken-v.true

pub returns-clause-value : goal.returns-clause-value
returns-clause-value c =
    let s = c.args.self in
    waits-nowhere s.targets.now s.count (marked c.args.taken.now) c.args.i (λ k h. c.loop-j.invariant k (omega arith))
