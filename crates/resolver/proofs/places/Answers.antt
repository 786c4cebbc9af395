use Rattle.std.proofs.Common.{refl, sym, ap, arith}
use Rattle.resolver.specs.Slots.{places_of}
use Rattle.base.proofs.Stores.{run-start, run_step, run-done}
use Rattle.reader.proofs.Walking.{pass-start, pass-here, pass_step, left-next, left-none, left-all}
use Rattle.resolver.proofs.Rows.{places-next}
use Rattle.resolver.proofs.places.Goals as goal

pub loop-i-init : goal.loop-i-init
loop-i-init c = let a = c.args in (pass-start c.requires.0, run-start refl (sym (ap places_of (left-all a.s.now a.count a.first))))

pub overflow_cast-places : goal.overflow_cast-places
overflow_cast-places c = omega (arith, (pass-here c.loop-i.invariant.0 c.loop-i-test.true).head, c.requires.2)

pub node_end-at-requires : goal.node_end-at-requires
node_end-at-requires c = (pass-here c.loop-i.invariant.0 c.loop-i-test.true).reads

pub loop-i-preserved : goal.loop-i-preserved
loop-i-preserved c =
    let s = c.args.s.now in
    let l = c.loop-i in (
      pass_step l.invariant.0 c.loop-i-test.true c.node_end-at.ensures,
      run_step l.invariant.1 (places-next s (left-next s c.args.count l.at c.node_end-at.result l.i c.loop-i-test.true c.node_end-at.ensures)) refl,
    )

pub returns : goal.returns
returns c =
    let a = c.args in
    let l = c.loop-i in
    run-done l.invariant.1 (ap places_of (left-none a.s.now a.count l.at l.i c.loop-i-test.false))
