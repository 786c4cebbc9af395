use Rattle.std.proofs.Common.{arith}
use Rattle.placement.proofs.Loop.{going, going_next, going-over, going_end}
use Rattle.placement.proofs.place_all.Goals as goal

pub loop-k-init : goal.loop-k-init
loop-k-init c = going _ c.args.place.now _ _ _ _ _ c.place_inputs-high.ensures

pub returns-in_err-place-clause-by_index : goal.returns-in_err-place-clause-by_index
returns-in_err-place-clause-by_index c =
    let (at, over, p) = c.in_err-place.ensures in
    rw c.from_residual.ensures
    (going-over _ c.args.place.now _ _ _ _ _ _ _ _ _ _ c.loop-k.invariant _ _ _ _ c.loop-k-test.true c.requires.2 c.from.ensures p _ _ c.place_inputs-high.ensures over)

pub loop-k-preserved : goal.loop-k-preserved
loop-k-preserved c =
    let few = c.requires.0 in
    let many = c.requires.1 in
    let (fits, high, p) = c.in_ok-place.ensures in
    going_next _ c.args.place.now _ _ _ _ _ _ _ _ _ _ c.loop-k.invariant _ _ _ _ c.loop-k-test.true c.requires.2 c.from.ensures p _ (omega arith) fits high

pub returns-clause-by_index : goal.returns-clause-by_index
returns-clause-by_index c =
    going_end _ c.args.place.now _ _ _ _ _ _ _ _ _ _ c.loop-k.invariant c.place_inputs-high.ensures c.loop-k-test.false
