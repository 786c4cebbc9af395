use Rattle.sums.proofs.Summing.{Summing}
use Rattle.sums.proofs.early.Early.nodes_sums.Given as goal

abbrev pub invariant-loop : goal.invariant-loop
invariant-loop l = Summing l.self.table.now l.n l.first l.self.count l.total l.counter l.p
