use Prim.Native.Nat.{◌+◌, ◌-◌}
use mathlib.Core.List.{map}
use Rattle.base.proofs.Stores.{Run}
use Rattle.ports.specs.Ports.{width}
use Rattle.sums.specs.Answers.{types_by}
use Rattle.compiler.proofs.placed.input_widths.Given as goal

abbrev pub invariant-loop-j : goal.invariant-loop-j
invariant-loop-j l = Run (map width (types_by 1 l.n l.table l.at)) l.initial.widths 0 l.widths l.j (map width (types_by 1 (l.n - l.j) l.table (l.at + l.j)))
