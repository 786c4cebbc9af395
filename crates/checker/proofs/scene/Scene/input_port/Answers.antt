use Rattle.std.proofs.Common.{Some, ℕ, ◌+◌, ap, sym, ◌∙◌}
use Rattle.base.specs.Bytes.{byte}
use Rattle.checker.specs.Answers.{port_of}
use Rattle.checker.proofs.AtPorts.{input-port-at, input-port-none}
use Rattle.checker.proofs.scene.Scene.input_port.Goals as goal

pub returns-then-port-self : goal.returns-then-port-self
returns-then-port-self c =
    let w = c.args.self.now in
    ap (λ (n : ℕ). Some (byte w.s.now (w.head.place + 6 + n))) c.from.ensures
    ∙ ap port_of (sym (input-port-at w.s.now w.head.place c.args.port c.if-port-self.true))

pub returns-else-port-self : goal.returns-else-port-self
returns-else-port-self c = let w = c.args.self.now in ap port_of (sym (input-port-none w.s.now w.head.place c.args.port c.if-port-self.false))
