use Prim.Native.Nat.{◌+◌, ◌-◌, ◌*◌}
use Rattle.base.proofs.Stores.{Run}
use Rattle.compiler.specs.Locating.{read_codes}
use Rattle.compiler.proofs.allocate.allocate_reads.Given as goal

abbrev pub invariant-loop-j : goal.invariant-loop-j
invariant-loop-j l = Run (read_codes l.table l.targets l.allocated (16 * l.i) l.n l.first) l.initial.locations l.cell l.locations (l.cell + l.j) (read_codes l.table l.targets l.allocated (16 * l.i + l.j) (l.n - l.j) (l.first + 3 * l.j))
