use Rattle.placement.proofs.Loop.{Entering}
use Rattle.placement.proofs.place_inputs.Given as goal

abbrev pub invariant-loop-v : goal.invariant-loop-v
invariant-loop-v l = Entering l.widths l.fn.place l.m l.until l.place l.at l.v
