use Rattle.std.proofs.Common.{refl, arith}
use Rattle.base.proofs.Stores.{copied}
use Rattle.listing.proofs.Text.put_bytes.Goals as goal

pub returns : goal.returns
returns c = let a = c.args in record { same_buffer = refl; written = copied a.self.now.bytes.now a.s.now a.self.now.length c.copy_from_slice.ensures.after (omega arith) (omega arith); end = refl }
