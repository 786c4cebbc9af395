-- `executor::dispatch::execute_typed`: the last arm's kind.
use Rattle.executor.proofs.Arms.{plain_ready, of-kind, type-code, last-typed}
use Rattle.executor.proofs.dispatch.execute_typed.Goals as goal

pub carry_out-requires-in_default : goal.carry_out-requires-in_default
carry_out-requires-in_default g c =
    let t = type-code _ (g.met.S.Shape.type_is g.S.Components.zeros) in
    plain_ready c.requires (last-typed t c.requires c.in_default.in_default-own.rest)

pub returns-in_default : goal.returns-in_default
returns-in_default g c =
    let t = type-code _ (g.met.S.Shape.type_is g.S.Components.zeros) in
    of-kind (last-typed t c.requires c.in_default.in_default-own.rest) c.carry_out-in_default.ensures
