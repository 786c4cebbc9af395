use Rattle.std.proofs.Common.{◌≡◌, refl, sym, ap, ◌∙◌, subst, arith}
use Rattle.reader.specs.Layout.{node_end, node_place}
use Rattle.reader.specs.Find.{ReadsNode}
use Rattle.reader.proofs.Passed.{place-next, place-reads}
use Rattle.reader.proofs.lookup.node_place.Goals as goal

pub loop-init : goal.loop-init
unfolding node_place
loop-init c = refl

pub node_end-at-requires : goal.node_end-at-requires
node_end-at-requires c = let l = c.loop in
    let a = c.args in
    subst (ReadsNode a.s.now) (sym l.invariant) (place-reads a.s.now a.count l.counter a.first (omega (arith, c.loop-test.true, c.requires.1)) c.requires.0)

pub loop-preserved : goal.loop-preserved
loop-preserved c = let l = c.loop in
    let a = c.args in
    c.node_end-at.ensures ∙ ap (node_end a.s.now) l.invariant ∙ sym (place-next a.s.now l.counter a.first)

pub returns : goal.returns
returns c = let l = c.loop in
    let a = c.args in
    let e : l.counter ≡ a.index = omega arith in
    l.invariant ∙ ap (node_place a.s.now a.first) e
