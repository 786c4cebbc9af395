-- `executor::execute`, by the type byte.
use Rattle.executor.proofs.Arms.{with-type, of-type, last-type}
use Rattle.executor.proofs.execute.Goals as goal

pub execute_typed-requires-in_default : goal.execute_typed-requires-in_default
execute_typed-requires-in_default c =
    let h = c.requires.1 in
    with-type (last-type h c.in_default.in_default-own.rest) h

pub returns-in_default : goal.returns-in_default
returns-in_default c = of-type (last-type c.requires.1 c.in_default.in_default-own.rest) c.execute_typed-in_default.ensures
