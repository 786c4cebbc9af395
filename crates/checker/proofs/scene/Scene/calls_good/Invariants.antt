use Rattle.std.proofs.Common.{◌≡◌, ◌-◌}
use Rattle.base.specs.Outcome.{each}
use Rattle.reader.specs.Layout.{nodes_at, node_place}
use Rattle.checker.specs.Answers.{calls_checked, call_checked}
use Rattle.checker.specs.Scenes.{early, judged}
use Rattle.checker.proofs.scene.Scene.calls_good.Given as goal

-- what is left says what the whole says
abbrev pub invariant-loop-j : goal.invariant-loop-j
invariant-loop-j l =
    let w = l.self in
    calls_checked (early w) (judged w) ≡ each (call_checked (early w)) (nodes_at (w.head.count - l.j) w.s.now (node_place w.s.now w.head.first l.j))
