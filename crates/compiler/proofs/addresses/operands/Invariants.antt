use Prim.Native.Nat.{◌+◌, ◌-◌, ◌*◌}
use mathlib.Core.List.{map}
use lib.ListN.{drop}
use Rattle.base.proofs.Stores.{Run}
use Rattle.base.specs.Bytes.{all_bytes}
use Rattle.compiler.specs.Emit.{address_of}
use Rattle.compiler.specs.Whole.{relocate_by}
use Rattle.compiler.proofs.addresses.operands.Given as goal

abbrev pub invariant-loop-j : goal.invariant-loop-j
invariant-loop-j l =
    Run (all_bytes 2 (map (relocate_by l.pass l.place) (map (address_of l.frame.ins.now l.frame.first) l.cells))) l.initial.code l.at l.code (l.at + 2 * l.j)
    (all_bytes 2 (map (relocate_by l.pass l.place) (map (address_of l.frame.ins.now l.frame.first) (drop l.j l.cells))))

abbrev pub decreases-loop-j : goal.decreases-loop-j
decreases-loop-j l = l.j-end - l.j
