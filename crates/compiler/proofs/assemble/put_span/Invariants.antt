use Prim.Native.Nat.{◌+◌, ◌-◌, ◌*◌}
use Rattle.base.proofs.Stores.{Run}
use Rattle.base.specs.Bytes.{all_bytes}
use Rattle.base.specs.Lists.{span}
use Rattle.compiler.proofs.assemble.put_span.Given as goal

abbrev pub invariant-loop-j : goal.invariant-loop-j
invariant-loop-j l = Run (all_bytes 2 (span l.a l.n)) l.initial.code l.at l.code (l.at + 2 * l.j) (all_bytes 2 (span (l.a + l.j) (l.n - l.j)))
