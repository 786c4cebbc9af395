use Rattle.std.proofs.Common.{◌≡◌, ◌+◌, ◌-◌, ◌*◌}
use Rattle.reader.specs.Layout.{outputs_at}
use Rattle.checker.specs.Answers.{outputs_checked}
use Rattle.checker.specs.Scenes.{early, judged}
use Rattle.checker.proofs.scene.Scene.outputs_good.Given as goal

-- what is left says what the whole says
abbrev pub invariant-loop-i : goal.invariant-loop-i
invariant-loop-i l =
    let w = l.self in
    outputs_checked w.s.now (early w) w.head.place (judged w).outputs
    ≡ outputs_checked w.s.now (early w) w.head.place (outputs_at (l.i-end - l.i) w.s.now (l.begin + 4 * l.i))
