use Prim.Native.Nat.{◌-◌}
use Rattle.points.proofs.Loop.{Going}
use Rattle.points.proofs.run_each.Given as goal

abbrev pub invariant-loop : goal.invariant-loop
invariant-loop l = Going l.code l.counts l.count l.arguments l.initial.work l.initial.out l.from l.to (l.count - l.counter) l.work l.out
