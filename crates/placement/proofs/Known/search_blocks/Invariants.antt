use Rattle.std.proofs.Common.{◌≡◌}
use Rattle.placement.specs.Record.{Bounds}
use Rattle.placement.proofs.Scan.{Passed}
use Rattle.placement.proofs.Known.search_blocks.Given as goal

abbrev pub invariant-loop-block : goal.invariant-loop-block
invariant-loop-block l = (l.self.high ≡ l.fn.self.high) × Bounds l.until l.self.low l.fn.self.high × Passed l.until l.wanted.k l.wanted.width l.block
