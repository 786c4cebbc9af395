use Rattle.std.proofs.Common.{refl, sym, ap, ◌∙◌, arith}
use Rattle.reader.specs.Find.{node_found}
use Rattle.reader.proofs.Passed.{node-hit, node-miss}
use Rattle.reader.proofs.Walking.{pass-start, pass-here, pass_step, left-next, left-none, left-all}
use Rattle.reader.proofs.lookup.find_node.Goals as goal

pub loop-index-init : goal.loop-index-init
loop-index-init c = let a = c.args in (pass-start c.requires, ap (node_found 0 a.id) (left-all a.s.now a.count a.first))

pub u16_at-requires : goal.u16_at-requires
u16_at-requires c = omega (arith, (pass-here c.loop-index.invariant.0 c.loop-index-test.true).head)

pub returns-then-u16_at-id : goal.returns-then-u16_at-id
returns-then-u16_at-id c = let l = c.loop-index in
    let a = c.args in
    sym (l.invariant.1 ∙ node-hit a.s.now a.id l.at l.index (left-next a.s.now a.count l.at _ l.index c.loop-index-test.true refl) (sym c.u16_at.ensures.0 ∙ c.if-u16_at-id.true))

pub node_end-at-requires : goal.node_end-at-requires
node_end-at-requires c = (pass-here c.loop-index.invariant.0 c.loop-index-test.true).reads

pub loop-index-preserved : goal.loop-index-preserved
loop-index-preserved c = let l = c.loop-index in
    let a = c.args in (
      pass_step l.invariant.0 c.loop-index-test.true c.node_end-at.ensures,
      l.invariant.1
          ∙ node-miss a.s.now a.id l.at l.index (left-next a.s.now a.count l.at c.node_end-at.result l.index c.loop-index-test.true c.node_end-at.ensures)
          (λ w. c.if-u16_at-id.false (c.u16_at.ensures.0 ∙ w)),
    )

pub returns : goal.returns
returns c = let l = c.loop-index in
    let a = c.args in
    sym (l.invariant.1 ∙ ap (node_found l.index a.id) (left-none a.s.now a.count l.at l.index c.loop-index-test.false))
