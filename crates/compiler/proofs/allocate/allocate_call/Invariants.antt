use Prim.Native.Nat.{◌+◌, ◌-◌, ◌*◌}
use Rattle.base.proofs.Stores.{Run}
use Rattle.compiler.specs.Locating.{rebased_codes}
use Rattle.compiler.proofs.allocate.allocate_call.Given as goal

abbrev pub invariant-loop-q : goal.invariant-loop-q
invariant-loop-q l = Run (rebased_codes l.layout.outs l.layout.locations l.cell l.n l.d (8 * l.g) l.count) l.initial.allocated (8 * l.i) l.allocated (8 * l.i + l.q) (rebased_codes l.layout.outs l.layout.locations l.cell l.n l.d (8 * l.g + l.q) (l.count - l.q))
