use Rattle.std.proofs.Common.{Some, ℕ, ◌+◌, ◌*◌, ap, sym, ◌∙◌, arith}
use Rattle.base.specs.Bytes.{byte}
use Rattle.reader.proofs.Passed.{function-holds}
use Rattle.checker.specs.Answers.{port_of}
use Rattle.checker.proofs.AtPorts.{output-port-at, output-port-none}
use Rattle.checker.proofs.types.output_port.Goals as goal

pub overflow_add-at : goal.overflow_add-at
overflow_add-at c = let h = function-holds c.args.s.now c.args.at c.requires in omega (arith, h.head)

pub bounds-s-at : goal.bounds-s-at
bounds-s-at c = let h = function-holds c.args.s.now c.args.at c.requires in omega (arith, h.head)

pub bounds-s-at-then-port-s-2 : goal.bounds-s-at-then-port-s-2
bounds-s-at-then-port-s-2 c =
    let h = function-holds c.args.s.now c.args.at c.requires in
    omega (arith, h.outputs, c.from.ensures, c.from-then-port-s.ensures, c.if-port-s.true)

pub returns-then-port-s : goal.returns-then-port-s
returns-then-port-s c =
    let a = c.args in
    ap (λ (n : ℕ). Some (byte a.s.now (a.at + 6 + n + 4 * c.from-then-port-s.result))) c.from.ensures
    ∙ ap (λ (n : ℕ). Some (byte a.s.now (a.at + 6 + byte a.s.now (a.at + 2) + 4 * n))) c.from-then-port-s.ensures
    ∙ ap port_of (sym (output-port-at a.s.now a.at a.port c.if-port-s.true))

pub returns-else-port-s : goal.returns-else-port-s
returns-else-port-s c = let a = c.args in ap port_of (sym (output-port-none a.s.now a.at a.port c.if-port-s.false))
