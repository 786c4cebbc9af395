use Prim.Native.Nat.{◌-◌}
use Rattle.base.proofs.Stores.{Run}
use Rattle.lowering.specs.Naming.{names}
use Rattle.compiler.proofs.assemble.input_names.Given as goal

abbrev pub invariant-loop-j : goal.invariant-loop-j
invariant-loop-j l = Run (names 0 l.n) l.initial.ins 0 l.ins l.j (names l.j (l.n - l.j))
