use mathlib.Core.Path.{◌≡◌}
use mathlib.Core.List.{map}
use lib.ListN.{length}
use lib.Seq.{sets}
use Rattle.base.specs.Lists.{word_at}
use Rattle.bytecode.specs.Code.{addresses}
use Rattle.runner.proofs.copy_outputs.Given as goal

abbrev pub invariant-loop-i : goal.invariant-loop-i
invariant-loop-i l = (l.out ≡ sets l.initial.out 0 (map (word_at l.work) (addresses l.i l.s l.from))) × (length l.out ≡ length l.initial.out)
