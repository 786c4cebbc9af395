use Rattle.std.proofs.Common.{sym, ◌∙◌, arith}
use Rattle.order.specs.Indices.{eligible, marked}
use Rattle.order.proofs.Range.{found-in, nothing-in}
use Rattle.order.proofs.Slots.next_from.Goals as goal

pub returns-then-eligible : goal.returns-then-eligible
returns-then-eligible c =
    let s = c.args.self in
    found-in (eligible s.targets.now s.count (marked c.args.taken.now)) s.count c.args.low c.loop-i.i c.loop-i.auto.i c.loop-i-test.true
    c.loop-i.invariant (sym c.eligible.ensures ∙ c.if-eligible.true)

pub returns : goal.returns
returns c =
    let s = c.args.self in
    nothing-in (eligible s.targets.now s.count (marked c.args.taken.now)) s.count c.args.low c.requires
    (λ v a b. c.loop-i.invariant v a (omega arith))
