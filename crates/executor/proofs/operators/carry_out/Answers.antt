-- `executor::operators::carry_out`: the operands, the step, the result.
use mathlib.Core.Path.{◌≡◌, refl, ap, sym, ◌∙◌}
use Rattle.value.specs.Steps.{step_of, operands_of, components}
use Rattle.value.specs.Results.{operand, componentwise}
use Rattle.executor.specs.Execution.{operands_given}
use Rattle.executor.proofs.Stored.{four, given-at, some-operand, operated, extent-of}
use Rattle.executor.proofs.operators.carry_out.Goals as goal

pub returns : goal.returns
returns g c =
    let m = c.args.work.now in
    let s = c.args.code.now in
    let shape = g.S.Shape in
    let laws = g.met.S.Shape in
    let o = g.T.Step.operator in
    let t = shape.type_byte in
    let n = operands_of o in
    let vs = operands_given o t s c.args.at m in
    let is = given-at m s t n c.args.at 0 (some-operand o) ∙ laws.at_is m _ in
    let first : operand vs 0 ≡ shape.value c.operand-a.result =
    is ∙ ap shape.value (sym (laws.of_is _) ∙ ap shape.of (sym is) ∙ sym c.operand-a.ensures) in
    let step = c.step.ensures ∙ four (g.S.Components.each (step_of o)) refl c.operand-b.ensures c.operand-c.ensures c.operand-d.ensures in
    let result : c.value.result ≡ componentwise o vs =
    c.value.ensures ∙ ap shape.value step ∙ sym (laws.each_is (step_of o) _ _ _ _) ∙ ap (λ v. components (step_of o) v (operand vs 1) (operand vs 2) (operand vs 3)) (sym first) in
    let e = extent-of o t (c.OPERANDS.ensures ∙ g.met.T.Step.operands_are) (c.WORDS.ensures ∙ laws.width_is) in
    record {
      words = operated o t s c.args.at c.args.res m result c.put.ensures;
      bytes = e.0;
      given = e.1;
    }
