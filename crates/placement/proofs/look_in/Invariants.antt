use Rattle.std.proofs.Common.{◌+◌, ◌<◌}
use Rattle.placement.specs.Record.{block_words}
use Rattle.placement.proofs.Scan.{Scan}
use Rattle.placement.proofs.look_in.Given as goal

abbrev pub invariant-loop-at : goal.invariant-loop-at
invariant-loop-at l = Scan l.until l.k l.width l.from l.high l.start l.at l.bound × (l.start < l.from + block_words)
