use Prim.Native.Nat.{◌+◌, ◌-◌, ◌*◌, ◌≤◌}
use Rattle.base.proofs.Stores.{Run}
use Rattle.compiler.specs.Locating.{result_codes}
use Rattle.compiler.proofs.allocate.allocate_results.Given as goal

abbrev pub invariant-loop-q : goal.invariant-loop-q
invariant-loop-q l = (l.e ≤ 8 + l.d + 16 * l.q) × Run (result_codes (8 + l.d) l.width l.count) l.initial.allocated (8 * l.i) l.allocated (8 * l.i + l.q) (result_codes l.e l.width (l.count - l.q))
