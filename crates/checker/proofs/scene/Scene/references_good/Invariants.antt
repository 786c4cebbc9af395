use Rattle.std.proofs.Common.{◌≡◌, ◌+◌, ◌-◌, ◌*◌, drop}
use Rattle.graph.specs.Read.{references}
use Rattle.checker.specs.Answers.{wants_list, references_checked}
use Rattle.checker.specs.Scenes.{early}
use Rattle.checker.proofs.scene.Scene.references_good.Given as goal

-- what is left says what the whole says
abbrev pub invariant-loop-j : goal.invariant-loop-j
invariant-loop-j l =
    let w = l.self in
    let ws = wants_list w.s.now l.reads.count l.want in
    references_checked w.s.now (early w) w.head.place ws (references l.reads.count w.s.now l.reads.first)
    ≡ references_checked w.s.now (early w) w.head.place (drop l.j ws) (references (l.reads.count - l.j) w.s.now (l.reads.first + 3 * l.j))
