use Prim.Native.Nat.{◌-◌}
use mathlib.Core.Path.{◌≡◌, refl}
use native.Mathlib.Omega.{arith}
use Rattle.base.proofs.Stores.{run-start, run_step, run-done, none_left}
use Rattle.compiler.specs.Locating.{result_codes}
use Rattle.compiler.proofs.Filling.{results_next}
use Rattle.compiler.proofs.allocate.allocate_results.Goals as goal

pub loop-q-init : goal.loop-q-init
loop-q-init c =
    let z : c.args.count - 0 ≡ c.args.count = omega arith in (omega arith, run-start (omega arith) (rw z))

pub loop-q-preserved : goal.loop-q-preserved
loop-q-preserved c =
    let l = c.loop-q in (omega arith, run_step l.invariant.1 (results_next l.e c.args.width c.loop-q-test.true) (omega arith))

pub returns : goal.returns
unfolding result_codes
returns c =
    let l = c.loop-q in run-done l.invariant.1 (none_left (result_codes l.e c.args.width) c.loop-q-test.false refl)
