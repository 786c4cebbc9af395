use Rattle.std.proofs.Common.{Bool, false, List, replicate, sym, subst, arith}
use Rattle.base.specs.Limits.{node_limit}
use Rattle.order.proofs.Descent.{Searching, searching-none, searching-size, searching-fewer, searching-end, searching-root, searching-below, searching-push, searching-leave, searching-take}
use Rattle.order.proofs.Slots.take_all.Goals as goal

pub loop-root-init : goal.loop-root-init
loop-root-init c =
    let s = c.args.self in
    subst (λ (ms : List Bool). Searching s.targets.now s.count ms (replicate node_limit false) (replicate node_limit 0) 0 0 0) (sym c.requires)
    (searching-none s.targets.now s.count)

pub loop-depth-init : goal.loop-depth-init
loop-depth-init c = searching-root c.args.self.few c.loop-root.invariant c.loop-root-test.true c.if-pushed-root.false

pub waits-requires : goal.waits-requires
waits-requires c = searching-below c.args.self.few c.loop-depth.invariant c.loop-depth-test.true c.from-v.result c.from-v.ensures

pub bounds-taken-v : goal.bounds-taken-v
bounds-taken-v c =
    omega (arith, c.args.self.few, searching-below c.args.self.few c.loop-depth.invariant c.loop-depth-test.true c.from-v.result c.from-v.ensures)

pub overflow_add-count : goal.overflow_add-count
overflow_add-count c = omega (arith, c.args.self.few, searching-size c.args.self.few c.loop-depth.invariant)

pub loop-depth-preserved-in-None : goal.loop-depth-preserved-in-None
loop-depth-preserved-in-None c =
    searching-take c.args.self.few c.loop-depth.invariant c.loop-depth-test.true c.from-v.result c.from-v.ensures c.in-None.ensures.value

pub loop-depth-preserved-then-pushed-w : goal.loop-depth-preserved-then-pushed-w
loop-depth-preserved-then-pushed-w c =
    searching-leave c.args.self.few c.loop-depth.invariant c.loop-depth-test.true c.from-v.result c.from-v.ensures c.in-Some.w c.in-Some.ensures.value
    c.if-pushed-w.true

pub bounds-stack-depth-else-pushed-w : goal.bounds-stack-depth-else-pushed-w
bounds-stack-depth-else-pushed-w c =
    let s = c.loop-depth.invariant in
    omega (arith, searching-size c.args.self.few s, searching-fewer c.args.self.few s c.in-Some.w c.in-Some.ensures.below c.if-pushed-w.false)

pub loop-depth-smaller : goal.loop-depth-smaller
loop-depth-smaller c =
    omega (arith, searching-fewer c.args.self.few c.loop-depth.invariant c.in-Some.w c.in-Some.ensures.below c.if-pushed-w.false)

pub loop-depth-preserved : goal.loop-depth-preserved
loop-depth-preserved c =
    searching-push c.args.self.few c.loop-depth.invariant c.loop-depth-test.true c.from-v.result c.from-v.ensures c.in-Some.w c.in-Some.ensures.value
    c.if-pushed-w.false

pub returns-clause-value : goal.returns-clause-value
returns-clause-value c = (searching-end c.args.self.few c.loop-root.invariant c.loop-root-test.false).0

pub returns-clause-by_index : goal.returns-clause-by_index
returns-clause-by_index c = (searching-end c.args.self.few c.loop-root.invariant c.loop-root-test.false).1
