use Rattle.std.proofs.Common.{ap, arith}
use Rattle.std.specs.Prelude.{not}
use Rattle.order.specs.Indices.{marked}
use Rattle.order.proofs.Range.{first-here, first-nowhere}
use Rattle.order.proofs.Slots.untaken_from.Goals as goal

pub returns-then-not-taken-i : goal.returns-then-not-taken-i
returns-then-not-taken-i c =
    first-here (λ v. not (marked c.args.taken.now v)) c.args.self.count c.args.low c.loop-i.i c.loop-i.auto.i c.loop-i-test.true
    (λ v a b. ap not (c.loop-i.invariant v a b)) (ap not c.if-not-taken-i.true)

pub returns : goal.returns
returns c =
    first-nowhere (λ v. not (marked c.args.taken.now v)) c.args.self.count c.args.low c.requires
    (λ v a b. ap not (c.loop-i.invariant v a (omega arith)))
