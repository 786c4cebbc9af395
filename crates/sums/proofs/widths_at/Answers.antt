use Rattle.sums.proofs.Widths.{add_step}
use Rattle.sums.proofs.widths_at.Goals as goal

pub loop-i-preserved : goal.loop-i-preserved
loop-i-preserved c = let l = c.loop-i in
    let a = c.args in
    add_step a.table.now a.p a.step a.n l.total l.i c.width-total.result l.invariant c.loop-i-test.true c.width-total.ensures.value c.width-total.ensures.bounded
