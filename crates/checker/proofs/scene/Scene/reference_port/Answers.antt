use Rattle.std.proofs.Common.{ℕ, ◌≡◌, ap, sym, ◌∙◌}
use Rattle.base.specs.Bytes.{u16}
use Rattle.graph.specs.Look.{find_node}
use Rattle.checker.specs.Scenes.{early, judged}
use Rattle.checker.proofs.Wiring.{node-typed, none-typed}
use Rattle.checker.proofs.Slotting.{held, nodes-read, found_here, none-here}
use Rattle.checker.proofs.scene.Scene.reference_port.Goals as goal

pub find_node-requires : goal.find_node-requires
find_node-requires c = nodes-read (held c.args.self.now)

pub node_port-requires : goal.node_port-requires
node_port-requires c = (found_here (held c.args.self.now) c.u16_at-id.result c.in_ok-found.found c.in_ok-found.ensures).0

pub returns-in_err-found : goal.returns-in_err-found
returns-in_err-found c =
    let w = c.args.self.now in
    let named : u16 w.s.now c.args.at ≡ 0 → ⊥ = λ q. c.if-id-eq0.false (c.u16_at-id.ensures.0 ∙ q) in
    c.from_residual.ensures
    ∙ sym
    (none-typed w.s.now (early w) w.head.place c.args.at named
    (ap (λ (i : ℕ). find_node i (judged w).nodes) (sym c.u16_at-id.ensures.0) ∙ none-here (held w) c.u16_at-id.result c.in_err-found.ensures))

pub returns : goal.returns
returns c =
    let w = c.args.self.now in
    let named : u16 w.s.now c.args.at ≡ 0 → ⊥ = λ q. c.if-id-eq0.false (c.u16_at-id.ensures.0 ∙ q) in
    let found = found_here (held w) c.u16_at-id.result c.in_ok-found.found c.in_ok-found.ensures in
    c.node_port.ensures
    ∙ sym
    (node-typed w.s.now (early w) w.head.place c.args.at c.in_ok-found.found.place named
    (ap (λ (i : ℕ). find_node i (judged w).nodes) (sym c.u16_at-id.ensures.0) ∙ found.1))
