use Rattle.std.proofs.Common.{ℕ, ◌-◌, ◌≡◌, ap, sym, subst, ◌∙◌, arith}
use Rattle.base.specs.Outcome.{need, each}
use Rattle.graph.specs.Judge.{call_ok}
use Rattle.reader.specs.Layout.{node_at, nodes_at, node_place}
use Rattle.checker.specs.Answers.{call_checked}
use Rattle.checker.specs.Scenes.{early}
use Rattle.checker.proofs.Calls.{each_on, each-fault, each_none, need-passed, need-failed}
use Rattle.checker.proofs.Slotting.{held, same_nodes}
use Rattle.checker.proofs.Whole.{told}
use Rattle.checker.proofs.scene.Scene.calls_good.Goals as goal

pub loop-j-init : goal.loop-j-init
unfolding node_place
loop-j-init c =
    let w = c.args.self.now in
    let z : w.head.count ≡ w.head.count - 0 = omega arith in
    ap (each (call_checked (early w))) (sym (same_nodes (held w)))
    ∙ ap (λ (n : ℕ). each (call_checked (early w)) (nodes_at n w.s.now w.head.first)) z

pub returns-then-not-call_good : goal.returns-then-not-call_good
unfolding node_at
returns-then-not-call_good c =
    let w = c.args.self.now in
    let s = w.s.now in
    let here : call_checked (early w) (node_at s (node_place s w.head.first c.loop-j.j)) ≡ need c.call_good.result 10 c.node-at.result =
    subst (λ (p : ℕ). call_ok (early w) p (node_at s p).payload ≡ need c.call_good.result 10 c.node-at.result) c.node-at.ensures.place c.call_good.ensures in
    told c.at.ensures
    ∙ sym
    (c.loop-j.invariant
    ∙ each-fault s w.head.first w.head.count c.loop-j.j c.loop-j-test.true (call_checked (early w)) (need-failed _ 10 _ here c.if-not-call_good.true))

pub loop-j-preserved : goal.loop-j-preserved
unfolding node_at
loop-j-preserved c =
    let w = c.args.self.now in
    let s = w.s.now in
    let here : call_checked (early w) (node_at s (node_place s w.head.first c.loop-j.j)) ≡ need c.call_good.result 10 c.node-at.result =
    subst (λ (p : ℕ). call_ok (early w) p (node_at s p).payload ≡ need c.call_good.result 10 c.node-at.result) c.node-at.ensures.place c.call_good.ensures in
    c.loop-j.invariant
    ∙ each_on s w.head.first w.head.count c.loop-j.j c.loop-j-test.true (call_checked (early w)) (need-passed _ 10 _ here c.if-not-call_good.false)

pub returns : goal.returns
returns c =
    let w = c.args.self.now in
    sym (c.loop-j.invariant ∙ each_none (call_checked (early w)) w.s.now (w.head.count - c.loop-j.j) _ (omega arith))
