use Prim.Native.Nat.{◌-◌}
use Rattle.bytecode.specs.Code.{argument_words, read_instructions}
use Rattle.executor.specs.Instructions.{version_by, after_all}
use Rattle.executor.proofs.Loop.{Running}
use Rattle.executor.proofs.execute_all.Given as goal

abbrev pub invariant-loop : goal.invariant-loop
invariant-loop l =
    Running (version_by l.addressed) l.code (l.count - l.counter) l.at l.next l.work (after_all (read_instructions (version_by l.addressed) l.count l.code 12 (argument_words l.first)) l.initial.work)
