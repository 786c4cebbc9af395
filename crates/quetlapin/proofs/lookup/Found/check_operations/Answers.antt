use Rattle.base.specs.Limits.{operation_limit}
use Rattle.quetlapin.proofs.Compiling.{not_allowed, allowed}
use Rattle.quetlapin.proofs.lookup.Found.check_operations.Goals as goal

pub returns-then-self-gt-OPERATION_LIMIT : goal.returns-then-self-gt-OPERATION_LIMIT
returns-then-self-gt-OPERATION_LIMIT c = rw c.at.ensures (not_allowed c.args.self.now.sizes.operations operation_limit 15 c.if-self-gt-OPERATION_LIMIT.true)

pub returns : goal.returns
returns c = allowed c.args.self.now.sizes.operations operation_limit 15 c.if-self-gt-OPERATION_LIMIT.false
