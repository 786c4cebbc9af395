use Rattle.placement.proofs.Scan.{Scan}
use Rattle.placement.proofs.scan_words.Given as goal

abbrev pub invariant-loop-at : goal.invariant-loop-at
invariant-loop-at l = Scan l.until l.k l.width 0 l.high l.start l.at 0
