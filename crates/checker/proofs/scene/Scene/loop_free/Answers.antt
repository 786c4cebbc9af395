use Rattle.std.proofs.Common.{ℕ, ◌≡◌, length, ap, sym, ◌∙◌}
use borrow.Author.Tests.{eqb-true}
use Rattle.base.specs.Outcome.{fault}
use Rattle.order.specs.Indices.{index_order}
use Rattle.order.specs.Paths.{first_on_loop}
use Rattle.order.proofs.LoopFree.{found_at, complete-iff, nowhere-free, loop-fault}
use Rattle.reader.specs.Layout.{node_place}
use Rattle.checker.specs.Scenes.{judged}
use Rattle.checker.proofs.Whole.{told, nodes-count, place_of}
use Rattle.checker.proofs.scene.Scene.loop_free.Goals as goal

pub returns-then-orderable : goal.returns-then-orderable
returns-then-orderable c =
    let w = c.args.self.now in
    let ts = c.args.targets.now in
    let count : w.head.count ≡ length (judged w).nodes = c.requires.count ∙ sym (nodes-count w.s.now w.head.place) in
    sym
    ((complete-iff ts (judged w) c.requires.resolves c.requires.own).0
    (ap (λ (n : ℕ). length (index_order ts n)) (sym count)
    ∙ (eqb-true (length (index_order ts w.head.count)) w.head.count (sym c.orderable.ensures ∙ c.if-orderable.true) ∙ count)))

pub node-requires : goal.node-requires
node-requires c =
    let w = c.args.self.now in
    (found_at c.args.targets.now w.head.count c.in-Some.i (sym c.in-Some.ensures)).0

pub returns-in-Some : goal.returns-in-Some
returns-in-Some c =
    let w = c.args.self.now in
    let ts = c.args.targets.now in
    let count : w.head.count ≡ length (judged w).nodes = c.requires.count ∙ sym (nodes-count w.s.now w.head.place) in
    let (x, stands, e) = loop-fault ts (judged w) c.requires.resolves c.requires.own c.in-Some.i (sym (c.in-Some.ensures ∙ ap (first_on_loop ts) count)) in
    told c.at.ensures
    ∙ ap (λ (p : ℕ). fault 13 p)
    (c.node.ensures.place ∙ ap (λ (n : ℕ). node_place w.s.now n c.in-Some.i) w.first ∙ place_of w.s.now w.head.place _ x stands)
    ∙ sym e

pub returns-in-None : goal.returns-in-None
returns-in-None c =
    let w = c.args.self.now in
    let ts = c.args.targets.now in
    let count : w.head.count ≡ length (judged w).nodes = c.requires.count ∙ sym (nodes-count w.s.now w.head.place) in
    sym (nowhere-free ts (judged w) c.requires.resolves c.requires.own (sym (c.in-None.ensures ∙ ap (first_on_loop ts) count)))
