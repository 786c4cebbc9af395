use mathlib.Core.Path.{refl}
use Rattle.base.proofs.Stores.{run_step}
use Rattle.compiler.proofs.Filling.{names-next}
use Rattle.compiler.proofs.assemble.input_names.Goals as goal

pub loop-j-preserved : goal.loop-j-preserved
loop-j-preserved c = run_step c.loop-j.invariant (names-next c.loop-j-test.true) refl
