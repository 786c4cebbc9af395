use Rattle.std.proofs.Common.{◌≡◌, ◌%◌, arith}
use Rattle.listing.proofs.Digits.{start, step, done, size-kept}
use Rattle.listing.proofs.fill_digits.Goals as goal

pub loop-i-init : goal.loop-i-init
loop-i-init c = start _ _ c.told-digits (omega arith)

pub returns-then-m-lt10 : goal.returns-then-m-lt10
returns-then-m-lt10 c = let l = c.loop-i in
    let i = l.invariant in
    let z : l.m % 10 ≡ l.m = omega arith in
    rw z (done _ _ _ _ i c.if-m-lt10.true, size-kept _ _ _ _ i, omega (arith, i.within, i.some))

pub loop-i-preserved : goal.loop-i-preserved
loop-i-preserved c = step _ _ _ _ c.loop-i.invariant c.if-m-lt10.false

pub returns : goal.returns
returns c = let some = c.loop-i.invariant.some in absurd (omega arith)
