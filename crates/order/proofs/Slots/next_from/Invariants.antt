use Rattle.std.proofs.Common.{ℕ, ◌≡◌, ◌<◌, ◌≤◌, false}
use Rattle.order.specs.Indices.{eligible, marked}
use Rattle.order.proofs.Slots.next_from.Given as goal

abbrev pub invariant-loop-i : goal.invariant-loop-i
invariant-loop-i l = (v : ℕ) → l.low ≤ v → v < l.i → eligible l.self.targets.now l.self.count (marked l.taken) v ≡ false
