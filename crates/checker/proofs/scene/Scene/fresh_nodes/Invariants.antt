use Rattle.std.proofs.Common.{◌≡◌, length}
use Rattle.base.specs.Limits.{node_limit}
use Rattle.checker.proofs.Fresh.{Passing}
use Rattle.checker.proofs.scene.Scene.fresh_nodes.Given as goal

abbrev pub invariant-loop-j : goal.invariant-loop-j
invariant-loop-j l = (length l.ids ≡ node_limit) × Passing l.self.s.now l.ids l.self.head.first l.self.head.count l.j
