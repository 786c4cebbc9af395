use Rattle.std.proofs.Common.{sym}
use Rattle.listing.proofs.Table.{listing-refused}
use Rattle.listing.proofs.Runs.{same}
use Rattle.listing.proofs.Text.put_listing.Goals as goal

pub returns-in-Err : goal.returns-in-Err
returns-in-Err c = let e = c.put_refused.ensures in
    (same (listing-refused c.args.table.now _ _ (sym c.in-Err.ensures.value)) e.0, e.1)
