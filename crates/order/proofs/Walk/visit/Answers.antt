use Rattle.std.proofs.Common.{arith}
use Rattle.order.proofs.Reached.{unmarked-set}
use Rattle.order.proofs.Walk.visit.Goals as goal

pub bounds-self-inside-self-inside : goal.bounds-self-inside-self-inside
bounds-self-inside-self-inside c =
    let w = c.self.inside in
    omega (arith, c.self.invariant, unmarked-set w.seen c.from-v.result (omega arith) c.if-not-self-v.true)

pub invariant_of-self : goal.invariant_of-self
invariant_of-self c =
    let w = c.self.inside in
    omega (arith, c.self.invariant, unmarked-set w.seen c.from-v.result (omega arith) c.if-not-self-v.true)
