use Rattle.std.proofs.Common.{arith}
use Rattle.placement.proofs.Scan.{scan-taken, scan-free, scan-found, scan-end}
use Rattle.placement.proofs.scan_words.Goals.{then-k-until, else-k-until+else-at-start}
use Rattle.placement.proofs.scan_words.Goals as goal

pub returns-then-at-start : goal.returns-then-at-start
returns-then-at-start c =
    let l = c.loop-at in
    scan-found _ _ _ 0 _ l.start l.at 0 l.invariant c.loop-at-test.true c.if-k-until.false c.if-at-start.true

pub loop-at-preserved : goal.loop-at-preserved
loop-at-preserved c =
    let l = c.loop-at in
    elim c.if-k-until.branch [
      | then-k-until w ↦ rw w.start-is
          (scan-taken _ _ _ 0 _ l.start l.at 0 l.invariant c.loop-at-test.true 0 (omega arith) (omega arith) w.if-k-until.true)
      | else-k-until+else-at-start w ↦ rw w.start-is
          (scan-free _ _ _ 0 _ l.start l.at 0 l.invariant c.loop-at-test.true w.if-k-until.false w.if-at-start.false)
    ]

pub returns : goal.returns
returns c = let l = c.loop-at in scan-end _ _ _ 0 _ l.start l.at 0 l.invariant c.loop-at-test.false
