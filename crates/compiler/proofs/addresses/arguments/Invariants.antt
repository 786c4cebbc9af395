use Prim.Native.Nat.{◌-◌}
use mathlib.Core.List.{map}
use lib.ListN.{drop}
use Rattle.base.proofs.Stores.{Run}
use Rattle.compiler.specs.Emit.{address_of}
use Rattle.compiler.proofs.addresses.arguments.Given as goal

abbrev pub invariant-loop-j : goal.invariant-loop-j
invariant-loop-j l =
    Run (map (address_of l.frame.ins.now l.frame.first) l.cells) l.initial.args 0 l.args l.j (map (address_of l.frame.ins.now l.frame.first) (drop l.j l.cells))

abbrev pub decreases-loop-j : goal.decreases-loop-j
decreases-loop-j l = l.j-end - l.j
