use Rattle.std.proofs.Common.{ℕ, [], ◌≡◌, refl, ap, sym, ◌∙◌, arith, rules}
use Rattle.std.proofs.lemmas.List.{length-take-le}
use Rattle.base.specs.Bytes.{u16}
use Rattle.base.specs.Outcome.{fault}
use Rattle.graph.specs.Judge.{fresh}
use Rattle.reader.specs.Layout.{node_place}
use Rattle.checker.proofs.Fresh.{fresh_start, fresh-fault, fresh_on, fresh-done}
use Rattle.checker.proofs.Slotting.{held, same_nodes}
use Rattle.checker.proofs.Whole.{told}
use Rattle.checker.proofs.scene.Scene.fresh_nodes.Goals as goal

pub loop-j-init : goal.loop-j-init
loop-j-init c = let w = c.args.self.now in (refl, fresh_start w.s.now _ w.head.count w.head.first)

pub slice_bounds-contains-end : goal.slice_bounds-contains-end
slice_bounds-contains-end c =
    sym (length-take-le c.loop-j.j c.loop-j.ids (omega (arith, c.args.self.now.small, c.u16_at.array_long)))

pub returns-then-contains : goal.returns-then-contains
returns-then-contains c =
    let w = c.args.self.now in
    let same : c.u16_at.result ≡ u16 w.s.now (node_place w.s.now w.head.first c.loop-j.j) = c.u16_at.ensures.0 ∙ ap (u16 w.s.now) c.node-at.ensures.place in
    told c.at.ensures
    ∙ ap (λ (p : ℕ). fault 9 p) c.node-at.ensures.place
    ∙ sym
    (ap (fresh []) (sym (same_nodes (held w)))
    ∙ fresh-fault c.loop-j.invariant.1 c.loop-j-test.true same (sym c.contains.ensures.value ∙ c.if-contains.true))

pub loop-j-preserved : goal.loop-j-preserved
loop-j-preserved c =
    let w = c.args.self.now in
    let same : c.u16_at.result ≡ u16 w.s.now (node_place w.s.now w.head.first c.loop-j.j) = c.u16_at.ensures.0 ∙ ap (u16 w.s.now) c.node-at.ensures.place in (
      search rules,
      fresh_on c.loop-j.invariant.1 c.loop-j-test.true same (sym c.contains.ensures.value ∙ c.if-contains.false) (omega (arith, c.args.self.now.small, c.u16_at.array_long)),
    )

pub returns : goal.returns
returns c = let w = c.args.self.now in sym (ap (fresh []) (sym (same_nodes (held w))) ∙ fresh-done c.loop-j.invariant.1 (omega arith))
