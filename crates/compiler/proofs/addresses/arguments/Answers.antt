use mathlib.Core.Path.{refl}
use Rattle.base.proofs.Stores.{run_step, run-done}
use Rattle.compiler.specs.Emit.{address_of}
use Rattle.compiler.proofs.Filling.{map-next, map-none}
use Rattle.compiler.proofs.addresses.arguments.Goals as goal

pub loop-j-preserved : goal.loop-j-preserved
loop-j-preserved c =
    let f = c.args.frame in
    run_step c.loop-j.invariant (map-next (address_of f.ins.now f.first) c.args.cells.now c.loop-j-test.true c.address.ensures) refl

pub returns : goal.returns
returns c =
    let f = c.args.frame in
    run-done c.loop-j.invariant (map-none (address_of f.ins.now f.first) c.args.cells.now c.loop-j-test.false)
