use Rattle.std.proofs.Common.{◌≡◌, ◌∙◌, arith}
use Rattle.order.proofs.Marks.{scheduling-none, scheduling-stuck, scheduling-step, scheduling-full}
use Rattle.order.proofs.schedule.Goals as goal

pub loop-count-init : goal.loop-count-init
loop-count-init c = scheduling-none c.args.targets.now c.args.n c.args.order.now

pub returns-in_default-clause-value : goal.returns-in_default-clause-value
returns-in_default-clause-value c = (scheduling-stuck c.loop-count.invariant c.loop-count-test.true c.in_default.ensures).0

pub returns-in_default-clause-order_after : goal.returns-in_default-clause-order_after
returns-in_default-clause-order_after c = (scheduling-stuck c.loop-count.invariant c.loop-count-test.true c.in_default.ensures).1

pub loop-count-preserved : goal.loop-count-preserved
loop-count-preserved c =
    scheduling-step c.loop-count.invariant c.loop-count-test.true c.in-Some.i c.in-Some.ensures c.requires c.untaken_from-low.result c.untaken_from-low.ensures

pub returns-clause-value : goal.returns-clause-value
returns-clause-value c = let e : c.args.n ≡ c.loop-count.count = omega arith in e ∙ (scheduling-full c.loop-count.invariant c.loop-count-test.false).0

pub returns-clause-order_after : goal.returns-clause-order_after
returns-clause-order_after c = (scheduling-full c.loop-count.invariant c.loop-count-test.false).1
