use Rattle.std.proofs.Common.{suc, arith}
use Rattle.reader.proofs.Passed.{function-fits}
use Rattle.sums.proofs.Accepted.{fewer}
use Rattle.listing.proofs.Table.{line-at}
use Rattle.listing.proofs.Functions.{start, step}
use Rattle.listing.proofs.Text.put_functions.Goals as goal

pub loop-k-init : goal.loop-k-init
loop-k-init c = start _ _ _ c.requires.length_le_first_limit.1 c.requires.length_le_first_limit.0

pub sizes_at-sizes-requires : goal.sizes_at-sizes-requires
sizes_at-sizes-requires c = let l = c.loop-k in
    let a = c.args in (
      fewer a.table.now a.count (suc l.k) c.requires.length_le_first_limit.1 (omega arith),
      c.requires.length_le_first_limit.2.places l.k (omega arith),
      c.requires.sums_held l.k (omega arith),
    )

pub put_function-requires : goal.put_function-requires
put_function-requires c = let l = c.loop-k.invariant in
    let room = l.room in
    let most = l.most in
    (omega arith, function-fits c.args.table.now _ c.sizes_at-sizes.ensures.reads)

pub loop-k-preserved : goal.loop-k-preserved
loop-k-preserved c = let l = c.loop-k in
    step _ _ _ _ _ _ _ l.invariant (omega arith)
    (line-at c.args.table.now l.k c.sizes_at-sizes.result c.sizes_at-sizes.ensures.sizes)
    c.put_function.ensures.0
    c.put_function.ensures.1
