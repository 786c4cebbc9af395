use Prim.Native.Nat.{◌-◌}
use mathlib.Core.Bool.{not}
use lib.Dec.{eqb}
use Rattle.bytecode.specs.Code.{argument_words, read_instructions}
use Rattle.executor.specs.Instructions.{version_by}
use Rattle.runner.proofs.Passing.{Going}
use Rattle.runner.proofs.check_instructions.Given as goal

abbrev pub invariant-loop : goal.invariant-loop
invariant-loop g l =
    Going (not (eqb g.row.ADDRESSED 0)) l.s (read_instructions (version_by (not (eqb g.row.ADDRESSED 0))) l.count l.s 12 (argument_words l.first))
    (l.count - l.counter) l.cursor.at l.cursor.result l.marks
