use mathlib.Core.Path.{ap, ◌∙◌}
use Rattle.compiler.specs.Whole.{relocate_by}
use Rattle.compiler.proofs.Ending.{out_step}
use Rattle.compiler.proofs.assemble.put_outputs.Goals as goal

pub loop-j-preserved : goal.loop-j-preserved
loop-j-preserved c =
    let a = c.args in
    let addressed = c.from-a.ensures ∙ c.written.ensures ∙ ap (relocate_by a.pass a.place.now) c.address.ensures in
    out_step c.loop-j.invariant c.loop-j-test.true c.width-w.ensures.value addressed c.put_span.ensures
