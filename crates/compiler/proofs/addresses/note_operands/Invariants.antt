use Prim.Native.Nat.{◌-◌}
use mathlib.Core.List.{map}
use lib.ListN.{length, drop}
use Rattle.compiler.specs.Emit.{address_of}
use Rattle.compiler.proofs.Filling.{Noting}
use Rattle.compiler.proofs.addresses.note_operands.Given as goal

abbrev pub invariant-loop-e : goal.invariant-loop-e
invariant-loop-e l = Noting l.initial.place l.x (map (address_of l.frame.ins.now l.frame.first) l.cells) l.place (map (address_of l.frame.ins.now l.frame.first) (drop l.e-index l.cells))

abbrev pub decreases-loop-e : goal.decreases-loop-e
decreases-loop-e l = length l.cells - l.e-index
