use Rattle.std.proofs.Common.{arith}
use Rattle.sums.proofs.Summing.{sum-here, sum_step, sum_done}
use Rattle.sums.proofs.early.Early.nodes_sums.Goals as goal

pub node_sums-requires : goal.node_sums-requires
node_sums-requires c = let l = c.loop in sum-here c.args.self.now.table.now c.args.n c.args.first c.args.self.now.count l.total l.counter l.p l.invariant (omega arith)

pub node_end-p-requires : goal.node_end-p-requires
node_end-p-requires c = let l = c.loop in sum-here c.args.self.now.table.now c.args.n c.args.first c.args.self.now.count l.total l.counter l.p l.invariant (omega arith)

pub loop-preserved : goal.loop-preserved
loop-preserved c = let l = c.loop in
    sum_step c.args.self.now.table.now c.args.n c.args.first c.args.self.now.count l.total l.counter l.p l.invariant (omega arith) c.node_sums.result c.node_sums.ensures
    c.plus-total.result c.node_end-p.result c.plus-total.ensures c.node_end-p.ensures

pub returns : goal.returns
returns c = let l = c.loop in sum_done c.args.self.now.table.now c.args.n c.args.first c.args.self.now.count l.total l.counter l.p l.invariant (omega arith)
