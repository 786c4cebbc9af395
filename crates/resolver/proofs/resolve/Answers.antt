use Rattle.std.proofs.Common.{arith}
use Rattle.resolver.proofs.ByPlaces.{read-all}
use Rattle.resolver.proofs.Scattering.{resolve-start, resolve-step, resolve-done}
use Rattle.resolver.proofs.resolve.Goals as goal

pub loop-i-init : goal.loop-i-init
loop-i-init c = resolve-start

pub invariant_of-nodes : goal.invariant_of-nodes
invariant_of-nodes c =
    record { few = c.requires.1; read = read-all c.args.s.now c.args.places.now c.args.count c.requires.0; fresh = c.requires.3 }

pub loop-i-smaller : goal.loop-i-smaller
loop-i-smaller c = let e = c.resolve_group-i.ensures in omega (arith, e.on, e.most, c.loop-i-test.true)

pub loop-i-preserved : goal.loop-i-preserved
loop-i-preserved c = resolve-step c.loop-i.invariant c.resolve_group-i.ensures

pub returns : goal.returns
returns c = resolve-done c.loop-i.invariant c.loop-i-test.false
