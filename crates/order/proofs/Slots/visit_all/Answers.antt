use Rattle.std.proofs.Common.{◌+◌, ◌-◌, sym, ap, ◌∙◌}
use Rattle.base.specs.Limits.{operand_limit}
use Rattle.order.specs.Walk.{visit_from}
use Rattle.order.proofs.Reached.{from_one, from_end}
use Rattle.order.proofs.Slots.visit_all.Goals as goal

pub loop-s-preserved : goal.loop-s-preserved
loop-s-preserved c =
    let slots = c.args.self in
    let l = c.loop-s in
    l.invariant
    ∙ (from_one slots.targets.now slots.count slots.few c.args.i l.s l.walk c.loop-s-test.true
    ∙ ap (visit_from slots.targets.now slots.count c.args.i (l.s + 1) (operand_limit - (l.s + 1))) (sym c.visit.ensures))

pub returns : goal.returns
returns c =
    let slots = c.args.self in
    sym (c.loop-s.invariant ∙ from_end slots.targets.now slots.count slots.few c.args.i c.loop-s.s c.loop-s.walk c.loop-s-test.false)
