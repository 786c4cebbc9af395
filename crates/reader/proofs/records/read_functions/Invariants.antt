use Rattle.std.proofs.Common.{◌≡◌, ◌-◌}
use Rattle.graph.specs.Read.{functions}
use Rattle.reader.specs.Records.{next}
use Rattle.reader.proofs.records.read_functions.Given as goal

abbrev pub invariant-loop : goal.invariant-loop
invariant-loop l = next (functions l.limit l.n l.s l.at) ≡ next (functions l.limit (l.n - l.counter) l.s l.p)
