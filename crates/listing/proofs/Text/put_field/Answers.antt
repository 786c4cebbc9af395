use Rattle.listing.proofs.Runs.{then}
use Rattle.listing.proofs.Text.put_field.Goals as goal

pub returns : goal.returns
returns c = then c.put_bytes.ensures c.put_decimal.ensures
