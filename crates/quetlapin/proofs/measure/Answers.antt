use Rattle.std.proofs.Common.{sym, ap, ◌∙◌}
use Rattle.std.proofs.lemmas.Result.{err_from_is_err_and}
use Rattle.base.specs.Outcome.{ok}
use Rattle.quetlapin.specs.Measures.{measured_of}
use Rattle.quetlapin.proofs.Choosing.{compilable-refused, measured-refused}
use Rattle.quetlapin.proofs.Compiling.{not_ready, ready}
use Rattle.quetlapin.proofs.measure.Goals as goal

pub returns-in_err-find : goal.returns-in_err-find
returns-in_err-find c =
    let p = err_from_is_err_and c.from_residual.result c.from_residual.ensures.1 in
    rw (p.1, p.2) (measured-refused c.args.table.now c.args.id (compilable-refused c.args.table.now c.args.id 1 _ _ c.in_err-find.ensures))

pub returns-in_err-check_limits : goal.returns-in_err-check_limits
returns-in_err-check_limits c =
    let p = err_from_is_err_and c.from_residual-in_err-check_limits.result c.from_residual-in_err-check_limits.ensures.1 in
    rw (p.1, p.2) (measured-refused c.args.table.now c.args.id (not_ready _ _ _ c.in_ok-find.ensures _ _ c.in_err-check_limits.ensures))

pub returns : goal.returns
returns c = let r = ready _ _ _ c.in_ok-find.ensures _ c.in_ok-check_limits.ensures in ap ok r.sizes ∙ sym (ap measured_of r.compilable)
