use Rattle.std.proofs.Common.{ℕ, ◌≡◌, ◌<◌, ◌≤◌, true}
use Rattle.order.specs.Indices.{marked}
use Rattle.order.proofs.Slots.untaken_from.Given as goal

abbrev pub invariant-loop-i : goal.invariant-loop-i
invariant-loop-i l = (v : ℕ) → l.low ≤ v → v < l.i → marked l.taken v ≡ true
