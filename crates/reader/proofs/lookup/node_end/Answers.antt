use Rattle.std.proofs.Common.{arith}
use Rattle.reader.proofs.Passed.{head-fits}
use Rattle.reader.proofs.lookup.node_end.Goals as goal

pub overflow_add-at : goal.overflow_add-at
overflow_add-at c = omega (arith, head-fits c.args.s.now c.args.at c.requires)

pub bounds-s-at : goal.bounds-s-at
bounds-s-at c = omega (arith, head-fits c.args.s.now c.args.at c.requires)
