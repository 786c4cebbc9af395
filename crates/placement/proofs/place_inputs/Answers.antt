use Rattle.std.proofs.Common.{arith}
use Rattle.placement.proofs.Loop.{entering, entering-next, entered}
use Rattle.placement.proofs.place_inputs.Goals as goal

pub loop-v-init : goal.loop-v-init
loop-v-init c = entering _ _ _ _ c.requires.1 c.requires.2

pub loop-v-preserved : goal.loop-v-preserved
loop-v-preserved c =
    entering-next _ _ _ _ _ _ _ c.loop-v.invariant c.from-w.result _ c.requires.0 c.loop-v-test.true c.from-w.ensures (omega (arith, c.fits-widths c.loop-v.v, c.from-w.ensures)) c.hold.ensures

pub returns : goal.returns
returns c = entered _ _ _ _ _ _ _ c.loop-v.invariant c.requires.0 c.loop-v-test.false
