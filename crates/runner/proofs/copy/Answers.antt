-- `runner::copy`, word by word.
use mathlib.Core.Path.{◌∙◌}
use lib.ListN.{length-set}
use Rattle.runner.proofs.Buffers.{copy_more, copy-all}
use Rattle.runner.proofs.copy.Goals as goal

pub loop-i-preserved : goal.loop-i-preserved
loop-i-preserved c =
    let l = c.loop-i in
    let a = c.args in (
      copy_more a.to.now l.to a.from.now l.i c.loop-i-test.true l.invariant.0,
      length-set l.to l.i _ ∙ l.invariant.1,
    )
