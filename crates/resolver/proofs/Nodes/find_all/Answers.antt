use Rattle.std.proofs.Common.{ℕ, sym, refl, subst, get_or, arith}
use Rattle.reader.proofs.Walking.{node-here}
use Rattle.resolver.specs.Groups.{Unfound}
use Rattle.resolver.proofs.ByPlaces.{read-at}
use Rattle.resolver.proofs.Matching.{match-start, match-new, match-step}
use Rattle.resolver.proofs.Nodes.find_all.Goals as goal

pub loop-i-init : goal.loop-i-init
loop-i-init c = match-start c.requires.nothing

pub u16_at-requires : goal.u16_at-requires
u16_at-requires c =
    let s = c.args.self in
    omega
    (arith, (node-here s.bytes.now (get_or s.places.now c.loop-i.i 0) (read-at s.bytes.now s.places.now s.count c.loop-i.i s.read c.loop-i-test.true)).head)

pub mark-requires : goal.mark-requires
mark-requires c =
    let s = c.args.self in (
      c.loop-i.invariant.size,
      subst (λ (id : ℕ). Unfound c.args.wanted.now id c.loop-i.found) (sym c.u16_at.ensures.0) (match-new c.loop-i.invariant c.loop-i-test.true s.fresh refl),
    )

pub loop-i-preserved : goal.loop-i-preserved
loop-i-preserved c = match-step c.loop-i.invariant c.loop-i-test.true c.args.self.fresh refl c.u16_at.ensures.0 c.mark.ensures
