use Rattle.std.proofs.Common.{arith}
use Rattle.reader.proofs.Passed.{callee-fits}
use Rattle.reader.proofs.nodes.callee_at.Goals as goal

pub u16_at-requires : goal.u16_at-requires
u16_at-requires c = omega (arith, (callee-fits c.args.s.now c.args.at c.requires.0 c.requires.1).0)
