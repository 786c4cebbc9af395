use Prim.Native.Nat.{◌-◌}
use Rattle.compiler.specs.Emit.{address_of}
use Rattle.compiler.specs.Whole.{relocate_by}
use Rattle.compiler.proofs.Ending.{Outgoing}
use Rattle.compiler.proofs.assemble.put_outputs.Given as goal

abbrev pub invariant-loop-j : goal.invariant-loop-j
invariant-loop-j l = Outgoing l.table (address_of l.frame.ins.now l.frame.first) (relocate_by l.pass l.place) l.cells l.entries l.initial.code l.at l.code l.here l.j

abbrev pub decreases-loop-j : goal.decreases-loop-j
decreases-loop-j l = l.j-end - l.j
