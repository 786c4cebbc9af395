-- `points::run_each`, point by point.
use Prim.Native.Nat.{◌+◌, ◌-◌, ◌≤◌}
use mathlib.Core.Path.{◌≡◌}
use native.Mathlib.Omega.{arith}
use lib.ListN.{length}
use Rattle.points.proofs.Loop.{part-is, part-size, part-back, next_fits, runnable, start, next, finished}
use Rattle.points.proofs.run_each.Goals as goal

pub loop-init : goal.loop-init
loop-init c =
    let n : c.args.count - 0 ≡ c.args.count = omega arith in
    rw n (start _ _ _ _ _ _ c.requires)

pub run_checked-requires : goal.run_checked-requires
run_checked-requires c =
    let l = c.loop in
    let fits : (l.from + c.args.counts.arguments ≤ length c.args.arguments.now) × (l.to + c.args.counts.outputs ≤ length l.out) =
    next_fits _ _ _ _ _ _ c.requires l.invariant (omega (arith, c.loop-test.true)) in
    runnable _ _ _ _ _ _ c.requires l.invariant (omega (arith, c.loop-test.true)) (part-is l.from _ _) (part-size l.to _ _ fits.1)

pub loop-preserved : goal.loop-preserved
loop-preserved c =
    let l = c.loop in
    let n : c.args.count - (l.counter + 1) ≡ c.args.count - l.counter - 1 = omega arith in
    rw n
    (next _ _ _ _ _ _ c.requires l.invariant (omega (arith, c.loop-test.true)) (part-is l.from _ _) (part-is l.to _ _) c.run_checked.ensures.0 c.run_checked.ensures.1
    (part-back l.to _ l.out _))

pub returns : goal.returns
returns c = finished _ _ _ _ _ _ c.requires c.loop.invariant (omega (arith, c.loop-test.false))
