use Rattle.validator.proofs.Stepping.{Listing}
use Rattle.validator.proofs.instruction.index_list.Given as goal

abbrev pub invariant-loop-i : goal.invariant-loop-i
invariant-loop-i l = Listing l.ours l.count l.first l.fn.index l.fn.words l.index l.words l.at l.w l.i
