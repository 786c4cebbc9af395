use Rattle.std.proofs.Common.{arith}
use Rattle.placement.proofs.Scan.{scan-taken, scan-free, scan-found, scan-end}
use Rattle.placement.proofs.look_in.Goals.{then-k-stop+else-edge-start, else-k-stop+else-at-start}
use Rattle.placement.proofs.look_in.Goals as goal

pub returns-then-edge-start : goal.returns-then-edge-start
returns-then-edge-start c =
    let l = c.loop-at in
    let less = c.min-bound.ensures in
    let s = scan-taken _ _ _ _ _ l.start l.at l.bound l.invariant.0 c.loop-at-test.true c.min-bound.result (omega arith) (omega arith) c.if-k-stop.true in
    λ x p q. s.lower x p (omega (arith, c.if-edge-start.true))

pub returns-then-at-start : goal.returns-then-at-start
returns-then-at-start c =
    let l = c.loop-at in
    scan-found _ _ _ _ _ l.start l.at l.bound l.invariant.0 c.loop-at-test.true c.if-k-stop.false (omega (arith, c.if-at-start.true, l.invariant.0.back))

pub loop-at-preserved : goal.loop-at-preserved
loop-at-preserved c =
    let l = c.loop-at in
    elim c.if-k-stop.branch [
      | then-k-stop+else-edge-start w ↦
          let less = w.min-bound.ensures in
          rw (w.start-is, w.bound-is)
          (scan-taken _ _ _ _ _ l.start l.at l.bound l.invariant.0 c.loop-at-test.true w.min-bound.result (omega arith) (omega arith) w.if-k-stop.true, omega (arith, w.if-edge-start.false))
      | else-k-stop+else-at-start w ↦
          rw (w.start-is, w.bound-is)
          (scan-free _ _ _ _ _ l.start l.at l.bound l.invariant.0 c.loop-at-test.true w.if-k-stop.false (λ e. w.if-at-start.false (omega (arith, e))), l.invariant.1)
    ]

-- the words from `high` on are free
pub returns : goal.returns
returns c = let l = c.loop-at in scan-end _ _ _ _ _ l.start l.at l.bound l.invariant.0 c.loop-at-test.false
