use Rattle.std.proofs.Common.{suc, ◌+◌, arith}
use Rattle.sums.proofs.Accepted.{few}
use Rattle.sums.proofs.Tabulate.{fewer-starts}
use Rattle.sums.proofs.measure.Goals as goal

pub overflow_add-k : goal.overflow_add-k
overflow_add-k c = omega (arith, (few c.args.table.now (suc c.args.k) c.requires.0))

pub all_sums-requires : goal.all_sums-requires
all_sums-requires c = let a = c.args in
    let l = few a.table.now (suc a.k) c.requires.0 in
    record { n_le_function_limit = (omega arith, fewer-starts a.table.now a.starts.now (suc a.k) (a.k + 1) c.requires.1 (omega arith)) }
