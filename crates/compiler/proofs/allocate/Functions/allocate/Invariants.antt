use Rattle.compiler.specs.Locating.{AllocatedTo}
use Rattle.compiler.proofs.allocate.Functions.allocate.Given as goal

abbrev pub invariant-loop-j : goal.invariant-loop-j
invariant-loop-j l = AllocatedTo l.self.version l.self.table.now l.j l.layout l.cell
