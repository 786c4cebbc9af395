use Rattle.std.proofs.Common.{◌≡◌, sym, subst, ℕ, Ok, arith}
use Rattle.base.specs.Refusals.{outcome}
use Rattle.lowering.specs.Answers.{evaluated}
use Rattle.lowering.specs.Demand3.{Demand3}
use Rattle.quetlapin.specs.Answers.{Answered}
use Rattle.quetlapin.proofs.Choosing.{unknown-number}
use Rattle.quetlapin.proofs.Evaluating.{meant, refused-table}
use Rattle.quetlapin.proofs.evaluate.Goals as goal

pub returns-in-1-clause-answered : goal.returns-in-1-clause-answered
returns-in-1-clause-answered c =
    let e : c.args.version ≡ 1 = omega (arith, c.in-1) in
    subst (λ (n : ℕ). Answered (evaluated c.args.table.now c.args.id n c.args.arguments.now c.args.code.now c.args.work.now c.args.out.now) c.args.code.now c.args.work.now c.args.out.now c.evaluate_sequential.new.code c.evaluate_sequential.new.work c.evaluate_sequential.new.out (outcome c.evaluate_sequential.result))
    (sym e) c.evaluate_sequential.ensures.answered

pub returns-in-1-clause-demand3 : goal.returns-in-1-clause-demand3
returns-in-1-clause-demand3 c =
    let e : c.args.version ≡ 1 = omega (arith, c.in-1) in
    subst (λ (n : ℕ). Demand3 (λ k. c.evaluate_sequential.result ≡ Ok k) c.args.table.now c.args.id n c.args.arguments.now c.args.code.now c.args.work.now c.args.out.now c.evaluate_sequential.new.code c.evaluate_sequential.new.work c.evaluate_sequential.new.out)
    (sym e) c.evaluate_sequential.ensures.demand3

pub returns-in-2-clause-answered : goal.returns-in-2-clause-answered
returns-in-2-clause-answered c =
    let e : c.args.version ≡ 2 = omega (arith, c.in-2) in
    subst (λ (n : ℕ). Answered (evaluated c.args.table.now c.args.id n c.args.arguments.now c.args.code.now c.args.work.now c.args.out.now) c.args.code.now c.args.work.now c.args.out.now c.evaluate_reusing.new.code c.evaluate_reusing.new.work c.evaluate_reusing.new.out (outcome c.evaluate_reusing.result))
    (sym e) c.evaluate_reusing.ensures.answered

pub returns-in-2-clause-demand3 : goal.returns-in-2-clause-demand3
returns-in-2-clause-demand3 c =
    let e : c.args.version ≡ 2 = omega (arith, c.in-2) in
    subst (λ (n : ℕ). Demand3 (λ k. c.evaluate_reusing.result ≡ Ok k) c.args.table.now c.args.id n c.args.arguments.now c.args.code.now c.args.work.now c.args.out.now c.evaluate_reusing.new.code c.evaluate_reusing.new.work c.evaluate_reusing.new.out)
    (sym e) c.evaluate_reusing.ensures.demand3

pub returns-in_default-clause-answered : goal.returns-in_default-clause-answered
returns-in_default-clause-answered c =
    refused-table c.args.table.now c.args.id c.args.version c.args.arguments.now c.args.code.now c.args.work.now c.args.out.now
    (c.unknown_version.ensures c.args.version (unknown-number c.args.version (λ e. omega (arith, c.in_default)) (λ e. omega (arith, c.in_default))))

pub returns-in_default-clause-demand3 : goal.returns-in_default-clause-demand3
returns-in_default-clause-demand3 c =
    meant c.args.table.now c.args.id c.args.version c.args.arguments.now c.args.code.now c.args.work.now c.args.out.now _ _ _ _ (returns-in_default-clause-answered c)
