use Rattle.std.proofs.Common.{arith}
use Rattle.listing.proofs.Digits.{decimal-most}
use Rattle.listing.proofs.Lines.{accepted-rooms}
use Rattle.listing.proofs.Table.{listing-accepted}
use Rattle.listing.proofs.Runs.{then, same}
use Rattle.listing.proofs.Text.put_accepted.Goals as goal

pub put_field-requires : goal.put_field-requires
put_field-requires c = omega (arith, c.requires.1, (accepted-rooms c.args.count (omega arith)).0)

pub put_bytes-requires : goal.put_bytes-requires
put_bytes-requires c = let end = c.put_field.ensures.end in omega (arith, c.requires.1, decimal-most c.args.count (omega arith))

pub put_table-requires : goal.put_table-requires
put_table-requires c = let end = (then c.put_field.ensures c.put_bytes.ensures).end in
    (c.requires.0, omega (arith, c.requires.1, (accepted-rooms c.args.count (omega arith)).1))

pub returns : goal.returns
returns c = (
  same (listing-accepted c.args.table.now c.args.count c.requires.0) (then (then c.put_field.ensures c.put_bytes.ensures) c.put_table.ensures.0),
  c.put_table.ensures.1,
)
