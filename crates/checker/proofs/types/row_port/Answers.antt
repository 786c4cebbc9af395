use Rattle.std.proofs.Common.{Some, ap, sym, ◌∙◌}
use Rattle.ports.specs.Ports.{own}
use Rattle.checker.specs.Answers.{port_of}
use Rattle.checker.proofs.AtPorts.{same_at, same_none}
use Rattle.checker.proofs.types.row_port.Goals as goal

pub returns-then-port-row : goal.returns-then-port-row
returns-then-port-row c =
    let a = c.args in
    ap Some c.own.ensures ∙ ap port_of (sym (same_at a.row.results (own a.ty a.row.result) a.port c.if-port-row.true))

pub returns-else-port-row : goal.returns-else-port-row
returns-else-port-row c = let a = c.args in ap port_of (sym (same_none a.row.results (own a.ty a.row.result) a.port c.if-port-row.false))
