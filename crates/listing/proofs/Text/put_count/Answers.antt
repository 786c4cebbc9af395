use Rattle.std.proofs.Common.{sym, ap, ◌++◌, ℕ, Option}
use Rattle.listing.specs.Appends.{shown}
use Rattle.listing.proofs.Runs.{then, same}
use Rattle.listing.proofs.Text.put_count.Goals as goal

pub returns-in-Some : goal.returns-in-Some
returns-in-Some c = let a = c.args in same (ap (λ (n : Option ℕ). a.word.now ++ shown n a.other.now) (sym c.in-Some.is)) (then c.put_bytes.ensures c.put_decimal.ensures)

pub returns-in-None : goal.returns-in-None
returns-in-None c = let a = c.args in same (ap (λ (n : Option ℕ). a.word.now ++ shown n a.other.now) (sym c.in-None.is)) (then c.put_bytes.ensures c.put_bytes-in-None.ensures)
