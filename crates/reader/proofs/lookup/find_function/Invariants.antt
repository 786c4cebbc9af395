use Rattle.std.proofs.Common.{◌≡◌, ◌≤◌}
use Rattle.reader.specs.Layout.{known}
use Rattle.reader.specs.Find.{function_found}
use Rattle.reader.proofs.lookup.find_function.Given as goal

abbrev pub invariant-loop-index : goal.invariant-loop-index
invariant-loop-index l = (l.index ≤ l.k) × (function_found l.id (known l.s l.starts l.k) ≡ function_found l.id (known l.s l.starts l.index))
