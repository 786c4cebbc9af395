-- `quetlapin::ifr_run_points`: the run at all points, its answer as a number.
use mathlib.Core.Path.{ap, ◌∙◌}
use Rattle.points.specs.Points.{ran_points}
use Rattle.quetlapin.specs.Numbers.{Bounded, run_count}
use Rattle.quetlapin.proofs.Telling.{points-bounded, may-tell, run-told, told-points}
use Rattle.quetlapin.proofs.ifr_run_points.Goals as goal

pub tell-requires : goal.tell-requires
tell-requires c = may-tell (points-bounded _ _ _ _ _) c.run_points.ensures.answered.answer

pub returns-clause-run_answered : goal.returns-clause-run_answered
returns-clause-run_answered c =
    let a = c.args in
    let bounds : Bounded (run_count (ran_points a.code.now a.count a.arguments.now a.work.now a.out.now)) = points-bounded _ _ _ _ _ in
    run-told bounds c.run_points.ensures.answered c.tell.ensures

pub returns-clause-demand3points : goal.returns-clause-demand3points
returns-clause-demand3points c = told-points _ _ _ _ _ (returns-clause-run_answered c)
