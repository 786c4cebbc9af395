use Rattle.std.proofs.Common.{arith}
use Rattle.reader.proofs.Passed.{head-fits}
use Rattle.reader.proofs.AsRead.{node_kept}
use Rattle.reader.proofs.nodes.node_at.Goals as goal

pub overflow_add-kind : goal.overflow_add-kind
overflow_add-kind c = omega (arith, head-fits c.args.s.now c.args.at c.requires)

pub bounds-s-at : goal.bounds-s-at
bounds-s-at c = omega (arith, head-fits c.args.s.now c.args.at c.requires)

pub u16_at-requires : goal.u16_at-requires
u16_at-requires c = omega (arith, head-fits c.args.s.now c.args.at c.requires)

pub overflow_add-result : goal.overflow_add-result
overflow_add-result c = omega (arith, head-fits c.args.s.now c.args.at c.requires)

pub bounds-s-at-2 : goal.bounds-s-at-2
bounds-s-at-2 c = omega (arith, head-fits c.args.s.now c.args.at c.requires)

pub returns : goal.returns
returns c = node_kept c.args.s.now c.args.at c.u16_at.result c.u16_at.ensures.0 c.payload_at-payload.result c.payload_at-payload.ensures
