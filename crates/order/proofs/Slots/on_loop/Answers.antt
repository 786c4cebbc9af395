use Rattle.std.proofs.Common.{sym, subst}
use Rattle.order.proofs.Reached.{Walking, walking_start, walking-step, walking-back, walking-done}
use Rattle.order.proofs.Slots.on_loop.Goals as goal

pub loop-head-init : goal.loop-head-init
loop-head-init c = walking_start c.args.self.few c.visit_all.new.walk c.visit_all.ensures

pub returns-then-walk-i : goal.returns-then-walk-i
returns-then-walk-i c =
    let s = c.args.self in
    sym
    (walking-back s.few (subst (Walking s.targets.now s.count c.args.i c.loop-head.head) (sym c.walk.view_is) c.loop-head.invariant) c.if-walk-i.true)

pub loop-head-preserved : goal.loop-head-preserved
loop-head-preserved c =
    let s = c.args.self in
    walking-step s.few c.visit_all-in-loop-head.new.walk
    (subst (Walking s.targets.now s.count c.args.i c.loop-head.head) (sym c.walk.view_is) c.loop-head.invariant) c.loop-head-test.true
    (cc)

pub returns : goal.returns
returns c =
    let s = c.args.self in
    walking-done s.few (subst (Walking s.targets.now s.count c.args.i c.loop-head.head) (sym c.walk.view_is) c.loop-head.invariant)
    c.loop-head-test.false
