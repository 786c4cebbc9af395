use Prim.Native.Nat.{suc}
use mathlib.Core.Path.{◌≡◌}
use Rattle.sums.specs.Position.{Accepted}
use Rattle.compiler.proofs.Allocating.{State}
use Rattle.compiler.proofs.allocate.Functions.allocate_nodes.Given as goal

abbrev pub invariant-loop-m : goal.invariant-loop-m
invariant-loop-m l =
    (acc : Accepted l.self.table.now (suc l.k))
    × State l.self.version l.self.table.now l.k l.cell acc l.initial.layout.outs l.targets l.places l.index l.initial.layout.order l.initial.layout.locations l.layout.order l.layout.locations l.allocated l.here l.d l.m
    × (l.layout.outs ≡ l.initial.layout.outs) × (l.layout.begins ≡ l.initial.layout.begins)
