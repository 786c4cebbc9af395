use Rattle.quetlapin.proofs.Choosing.{compilable-refused, compilable-unknown}
use Rattle.quetlapin.proofs.unknown_version.Goals as goal

pub returns-in-Ok : goal.returns-in-Ok
returns-in-Ok c = rw c.at.ensures (λ n e. compilable-unknown c.args.table.now c.args.id n _ e c.in-Ok.ensures.named)

pub returns-in-Err : goal.returns-in-Err
returns-in-Err c = λ n e. compilable-refused c.args.table.now c.args.id n _ _ c.in-Err.ensures
