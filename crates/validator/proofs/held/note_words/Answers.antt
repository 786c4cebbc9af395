use Rattle.std.proofs.Common.{arith}
use Rattle.base.proofs.Stores.{run_step}
use Rattle.validator.proofs.Holding.{span-next}
use Rattle.validator.proofs.held.note_words.Goals as goal

pub loop-j-preserved : goal.loop-j-preserved
loop-j-preserved c =
    let a = c.args in
    let l = c.loop-j in
    run_step l.invariant (span-next a.w a.count l.j c.loop-j-test.true) (omega arith)
