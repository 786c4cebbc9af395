use Rattle.std.proofs.Common.{arith}
use Rattle.base.specs.Bytes.{Bytes}
use Rattle.sums.proofs.Accepted.{few-functions, all_read}
use Rattle.listing.proofs.Text.put_table.Goals as goal

pub find_starts-requires : goal.find_starts-requires
find_starts-requires c = let a = c.args in
    let s = a.table.now in
    let small : Bytes s = λ q. omega (arith, c.type_inv.table q) in
    (few-functions s a.count c.requires.0 small, all_read s a.count c.requires.0 small)

pub all_sums-requires : goal.all_sums-requires
all_sums-requires c = let a = c.args in
    let small : Bytes a.table.now = λ q. omega (arith, c.type_inv.table q) in
    record { n_le_function_limit = (few-functions a.table.now a.count c.requires.0 small, c.find_starts.ensures.started) }
