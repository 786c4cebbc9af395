use Rattle.std.proofs.Common.{ℕ, ◌≡◌, ◌-◌, ap, sym, ◌∙◌, arith}
use Rattle.std.proofs.lemmas.Result.{err_from_is_err_and}
use Rattle.base.specs.Outcome.{ok, each}
use Rattle.reader.specs.Layout.{node_at, nodes_at, node_place}
use Rattle.checker.specs.Answers.{node_checked, call_checked}
use Rattle.checker.specs.Scenes.{early}
use Rattle.checker.proofs.Calls.{each_on, each-fault, each_none, each-passed}
use Rattle.checker.proofs.Slotting.{held, same_nodes}
use Rattle.checker.proofs.scene.Scene.nodes_good.Goals as goal

pub loop-i-init : goal.loop-i-init
unfolding node_place
loop-i-init c =
    let w = c.args.self.now in
    let z : w.head.count ≡ w.head.count - 0 = omega arith in
    let same = sym (same_nodes (held w)) ∙ ap (λ (n : ℕ). nodes_at n w.s.now w.head.first) z in
    record {
      same = ap (each (node_checked w.s.now (early w) w.head.place)) same;
      calls = ap (each (call_checked (early w))) (sym same) ∙ c.requires.1;
    }

pub node_good-requires : goal.node_good-requires
unfolding node_at
node_good-requires c =
    let w = c.args.self.now in
    (c.requires.0, c.loop-i-test.true, (each-passed w.s.now w.head.first w.head.count c.loop-i.i c.loop-i-test.true (call_checked (early w)) c.loop-i.invariant.calls).0)

pub loop-i-preserved : goal.loop-i-preserved
loop-i-preserved c =
    let w = c.args.self.now in
    let good : node_checked w.s.now (early w) w.head.place (node_at w.s.now (node_place w.s.now w.head.first c.loop-i.i)) ≡ ok tt = sym c.in_ok-node_good.ensures in
    record {
      same = c.loop-i.invariant.same
          ∙ each_on w.s.now w.head.first w.head.count c.loop-i.i c.loop-i-test.true (node_checked w.s.now (early w) w.head.place) good;
      calls = (each-passed w.s.now w.head.first w.head.count c.loop-i.i c.loop-i-test.true (call_checked (early w)) c.loop-i.invariant.calls).1;
    }

pub returns-in_err-node_good : goal.returns-in_err-node_good
returns-in_err-node_good c =
    let w = c.args.self.now in
    let p = err_from_is_err_and c.from_residual.result c.from_residual.ensures.1 in
    rw (p.1, p.2)
    (sym
    (c.loop-i.invariant.same
    ∙ each-fault w.s.now w.head.first w.head.count c.loop-i.i c.loop-i-test.true (node_checked w.s.now (early w) w.head.place) (sym c.in_err-node_good.ensures)))

pub returns : goal.returns
returns c =
    let w = c.args.self.now in
    sym (c.loop-i.invariant.same ∙ each_none (node_checked w.s.now (early w) w.head.place) w.s.now (w.head.count - c.loop-i.i) _ (omega arith))
