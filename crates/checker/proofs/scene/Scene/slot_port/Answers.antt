use Rattle.std.proofs.Common.{ℕ, ◌≡◌, ap, sym, ◌∙◌}
use Rattle.std.proofs.Math.Option.{some}
use Rattle.base.specs.Bytes.{u16}
use Rattle.reader.specs.Layout.{node_at}
use Rattle.checker.specs.Scenes.{early}
use Rattle.checker.proofs.Wiring.{node-typed, none-typed}
use Rattle.checker.proofs.Slotting.{held, slot-found, slot-lost}
use Rattle.checker.proofs.scene.Scene.slot_port.Goals as goal

pub returns-then-i-self : goal.returns-then-i-self
returns-then-i-self c =
    let w = c.args.self.now in
    let named : u16 w.s.now c.args.at ≡ 0 → ⊥ = λ q. c.if-id-eq0.false (c.u16_at-id.ensures.0 ∙ q) in
    c.node_port.ensures
    ∙ sym
    (node-typed w.s.now (early w) w.head.place c.args.at c.node.result named
    (slot-found (held w) c.args.at c.args.i c.requires.1 c.if-i-self.true ∙ ap (λ (x : ℕ). some (node_at w.s.now x)) (sym c.node.ensures.place)))

pub returns-else-i-self : goal.returns-else-i-self
returns-else-i-self c =
    let w = c.args.self.now in
    let named : u16 w.s.now c.args.at ≡ 0 → ⊥ = λ q. c.if-id-eq0.false (c.u16_at-id.ensures.0 ∙ q) in
    sym (none-typed w.s.now (early w) w.head.place c.args.at named (slot-lost (held w) c.args.at c.args.i c.requires.1 c.if-i-self.false))
