use Prim.Native.Nat.{◌+◌, ◌-◌, ◌*◌}
use mathlib.Core.Path.{◌≡◌}
use Rattle.base.proofs.Stores.{Run}
use Rattle.reader.specs.Layout.{nodes_at}
use Rattle.compiler.specs.Locating.{output_codes}
use Rattle.compiler.proofs.allocate.allocate_outputs.Given as goal

abbrev pub invariant-loop-j : goal.invariant-loop-j
invariant-loop-j l = (l.q ≡ l.initial.q + 4 * l.j) × Run (output_codes l.table l.allocated (nodes_at l.n l.table l.at) l.count l.initial.q) l.initial.outs (8 * l.k) l.outs (8 * l.k + l.j) (output_codes l.table l.allocated (nodes_at l.n l.table l.at) (l.count - l.j) l.q)
