use Rattle.std.proofs.lemmas.Result.{err_from_is_err_and}
use Rattle.base.specs.Limits.{word_limit}
use Rattle.base.proofs.Refusing.{refused_then, went_then}
use Rattle.quetlapin.specs.Measures.{operations_allowed}
use Rattle.quetlapin.proofs.Compiling.{not_allowed, allowed}
use Rattle.quetlapin.proofs.lookup.Found.check_limits.Goals as goal

pub returns-in_err-check_operations : goal.returns-in_err-check_operations
returns-in_err-check_operations c =
    let p = err_from_is_err_and c.from_residual.result c.from_residual.ensures.1 in
    rw (p.1, p.2) (refused_then (operations_allowed c.args.self.now.sizes) _ _ _ c.in_err-check_operations.ensures)

pub returns-then-self-gt-WORD_LIMIT : goal.returns-then-self-gt-WORD_LIMIT
returns-then-self-gt-WORD_LIMIT c =
    rw c.at.ensures
    (went_then (operations_allowed c.args.self.now.sizes) _ _ _ c.in_ok-check_operations.ensures
    (not_allowed c.args.self.now.sizes.words word_limit 16 c.if-self-gt-WORD_LIMIT.true))

pub returns : goal.returns
returns c =
    went_then (operations_allowed c.args.self.now.sizes) _ _ _ c.in_ok-check_operations.ensures
    (allowed c.args.self.now.sizes.words word_limit 16 c.if-self-gt-WORD_LIMIT.false)
