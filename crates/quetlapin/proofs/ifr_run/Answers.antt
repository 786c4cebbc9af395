-- `quetlapin::ifr_run`: the run, its answer as a number.
use mathlib.Core.Path.{ap, ◌∙◌}
use native.Mathlib.Omega.{arith}
use Rattle.bytecode.specs.Answers.{ran}
use Rattle.quetlapin.specs.Numbers.{Bounded, run_count}
use Rattle.quetlapin.proofs.Telling.{ran-bounded, may-tell, run-told, told-order}
use Rattle.quetlapin.proofs.ifr_run.Goals as goal

pub tell-requires : goal.tell-requires
tell-requires c = may-tell (ran-bounded _ (λ i. omega (arith, c.type_inv.code i)) _ _ _) c.run.ensures.answered.answer

pub returns-clause-run_answered : goal.returns-clause-run_answered
returns-clause-run_answered c =
    let a = c.args in
    let bounds : Bounded (run_count (ran a.code.now a.arguments.now a.work.now a.out.now)) = ran-bounded _ (λ i. omega (arith, c.type_inv.code i)) _ _ _ in
    run-told bounds c.run.ensures.answered c.tell.ensures

pub returns-clause-any_order : goal.returns-clause-any_order
returns-clause-any_order c = told-order _ _ _ _ (returns-clause-run_answered c)
