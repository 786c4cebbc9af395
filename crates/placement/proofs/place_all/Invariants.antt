use Rattle.placement.proofs.Loop.{Going}
use Rattle.placement.proofs.place_all.Given as goal

abbrev pub invariant-loop-k : goal.invariant-loop-k
invariant-loop-k l = Going l.widths l.m l.n l.initial.until l.initial.place l.initial.known.high l.until l.place l.known.low l.known.high l.k
