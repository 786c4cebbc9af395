use Rattle.std.proofs.Common.{◌-◌}
use Rattle.reader.specs.Layout.{nodes_at}
use Rattle.resolver.specs.Slots.{places_of}
use Rattle.base.proofs.Stores.{Run}
use Rattle.reader.proofs.Walking.{Passed}
use Rattle.resolver.proofs.places.Given as goal

abbrev pub invariant-loop-i : goal.invariant-loop-i
invariant-loop-i l =
    Passed l.s l.count l.at l.i
    × Run (places_of (nodes_at l.count l.s l.first)) l.initial.places 0 l.places l.i (places_of (nodes_at (l.count - l.i) l.s l.at))
