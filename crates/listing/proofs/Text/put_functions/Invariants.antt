use Rattle.listing.proofs.Functions.{Listed}
use Rattle.listing.proofs.Text.put_functions.Given as goal

abbrev pub invariant-loop-k : goal.invariant-loop-k
invariant-loop-k l = Listed l.table l.count l.initial.self l.self l.k
