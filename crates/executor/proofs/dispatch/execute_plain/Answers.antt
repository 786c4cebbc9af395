-- `executor::dispatch::execute_plain`: the last arm's kind.
use Rattle.executor.proofs.Arms.{plain_ready, of-kind, last-plain}
use Rattle.executor.proofs.dispatch.execute_plain.Goals as goal

pub transpose-requires : goal.transpose-requires
transpose-requires c = plain_ready c.requires (last-plain c.requires c.in_default.in_default-own.rest)

pub returns-in_default : goal.returns-in_default
returns-in_default c = of-kind (last-plain c.requires c.in_default.in_default-own.rest) c.transpose.ensures

pub returns-in-7 : goal.returns-in-7
returns-in-7 c = of-kind c.in-7.is c.constmat.ensures

pub returns-in-11 : goal.returns-in-11
returns-in-11 c = of-kind c.in-11.is c.compose_matrix.ensures
