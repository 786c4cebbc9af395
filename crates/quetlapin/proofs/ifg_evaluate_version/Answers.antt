-- `quetlapin::ifg_evaluate_version`: the evaluation, its answer as a number.
use Rattle.std.proofs.Common.{arith}
use Rattle.quetlapin.proofs.Evaluating.{meant-number}
use Rattle.quetlapin.proofs.Telling.{evaluated-bounded, may-tell, told}
use Rattle.quetlapin.proofs.ifg_evaluate_version.Goals as goal

pub tell-requires : goal.tell-requires
tell-requires c = may-tell (evaluated-bounded c.args.table.now (λ i. omega (arith, c.type_inv.table i)) c.args.id c.args.version c.args.arguments.now c.args.code.now c.args.work.now c.args.out.now) c.evaluate.ensures.answered.answer

pub returns-clause-evaluation_answered : goal.returns-clause-evaluation_answered
returns-clause-evaluation_answered c =
    let r = c.evaluate.ensures.answered in
    record {
      answer = told (evaluated-bounded c.args.table.now (λ i. omega (arith, c.type_inv.table i)) c.args.id c.args.version c.args.arguments.now c.args.code.now c.args.work.now c.args.out.now) r.answer c.tell.ensures;
      code-after = r.code-after;
      work-after = r.work-after;
      out-after = r.out-after;
    }

pub returns-clause-demand3 : goal.returns-clause-demand3
returns-clause-demand3 c = meant-number _ _ _ _ _ _ _ _ _ _ c.evaluate.ensures.demand3 c.tell.ensures
