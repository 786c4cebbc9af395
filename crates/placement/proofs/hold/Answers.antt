use Rattle.std.proofs.Common.{arith}
use Rattle.base.proofs.Stores.{filled}
use Rattle.placement.proofs.hold.Goals as goal

pub returns : goal.returns
returns c = let a = c.args in filled a.until.now a.at a.width a.stop (c.fill.ensures.after (λ y e. e)) (omega arith) (omega (arith, c.requires, c.told-until))
