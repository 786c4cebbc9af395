use Rattle.reader.proofs.Functions.{Left}
use Rattle.reader.proofs.records.read_entries.Given as goal

abbrev pub invariant-loop : goal.invariant-loop
invariant-loop l = Left l.size l.s l.at l.n l.p l.counter
