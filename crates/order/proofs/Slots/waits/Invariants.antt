use Rattle.std.proofs.Common.{ℕ, ◌≡◌, ◌<◌, true}
use Rattle.order.specs.Indices.{settled, slot, marked}
use Rattle.order.proofs.Slots.waits.Given as goal

abbrev pub invariant-loop-j : goal.invariant-loop-j
invariant-loop-j l = (k : ℕ) → k < l.j → settled l.self.count (marked l.taken) (slot l.self.targets.now l.i k) ≡ true
