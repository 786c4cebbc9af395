use Rattle.std.proofs.Common.{ℕ, ◌≡◌, ◌+◌, ◌*◌, ◌<◌, get_or}
use Rattle.base.specs.Bytes.{u16}
use Rattle.resolver.proofs.gather_node.Given as goal

abbrev pub invariant-loop-j : goal.invariant-loop-j
invariant-loop-j l = (k : ℕ) → k < l.j → get_or l.wanted k 0 ≡ u16 l.s (l.first + 3 * k)
