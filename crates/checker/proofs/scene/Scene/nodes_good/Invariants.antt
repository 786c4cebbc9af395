use Rattle.std.proofs.Common.{◌≡◌, ◌-◌}
use Rattle.base.specs.Outcome.{ok, each}
use Rattle.reader.specs.Layout.{nodes_at, node_place}
use Rattle.checker.specs.Answers.{node_checked, call_checked}
use Rattle.checker.specs.Scenes.{early, judged}
use Rattle.checker.proofs.scene.Scene.nodes_good.Given as goal

-- what is left says what the whole says, and its calls are good
abbrev pub invariant-loop-i : goal.invariant-loop-i
invariant-loop-i l =
    let w = l.self in
    let left = nodes_at (w.head.count - l.i) w.s.now (node_place w.s.now w.head.first l.i) in record {
      same : each (node_checked w.s.now (early w) w.head.place) (judged w).nodes ≡ each (node_checked w.s.now (early w) w.head.place) left;
      calls : each (call_checked (early w)) left ≡ ok tt;
    }
