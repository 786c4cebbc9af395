use Prim.Native.Nat.{◌+◌, ◌-◌, ◌*◌}
use mathlib.Core.Path.{◌≡◌}
use mathlib.Core.Bool.{not}
use lib.Dec.{eqb}
use Rattle.ports.specs.Ports.{types}
use Rattle.bytecode.specs.Code.{addresses}
use Rattle.runner.specs.Checks.{operands_good}
use Rattle.runner.proofs.row.operands_good.Given as goal

abbrev pub invariant-loop-i : goal.invariant-loop-i
invariant-loop-i g l =
    operands_good (not (eqb g.row.ADDRESSED 0)) l.marks l.high (types (l.count - l.i) l.t l.rest) (addresses (l.count - l.i) l.s (l.from + 2 * l.i))
    ≡ operands_good (not (eqb g.row.ADDRESSED 0)) l.marks l.high (types l.count l.first l.rest) (addresses l.count l.s l.from)
