use Rattle.std.proofs.Common.{◌≡◌, ◌-◌}
use Rattle.base.specs.Limits.{operand_limit}
use Rattle.order.specs.Walk.{visit_from}
use Rattle.order.proofs.Slots.visit_all.Given as goal

abbrev pub invariant-loop-s : goal.invariant-loop-s
invariant-loop-s l =
    visit_from l.self.targets.now l.self.count l.i 0 operand_limit l.initial.walk
    ≡ visit_from l.self.targets.now l.self.count l.i l.s (operand_limit - l.s) l.walk
