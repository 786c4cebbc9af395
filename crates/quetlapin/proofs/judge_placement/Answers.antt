-- `quetlapin::judge_placement`: the function is found, then its list is judged.
use Rattle.std.proofs.Common.{◌∙◌, arith}
use Rattle.std.proofs.lemmas.Result.{err_from_is_err_and}
use Rattle.quetlapin.proofs.Choosing.{compilable-refused}
use Rattle.quetlapin.proofs.Compiling.{not_ready, ready}
use Rattle.quetlapin.proofs.Proposing.{judged-found, judged-refused, judged-promised}
use Rattle.quetlapin.proofs.judge_placement.Goals as goal

pub judge_proposed-requires : goal.judge_proposed-requires
judge_proposed-requires c = (c.args.id, ready _ _ _ c.in_ok-find.ensures _ c.in_ok-check_limits.ensures)

pub returns-clause-value : goal.returns-clause-value
returns-clause-value c = c.judge_proposed.ensures ∙ judged-found (ready _ _ _ c.in_ok-find.ensures _ c.in_ok-check_limits.ensures) c.args.code.now c.args.numbers.now

pub returns-clause-promise : goal.returns-clause-promise
returns-clause-promise c = let a = c.args in
    judged-promised a.table.now a.id a.code.now a.numbers.now (λ i. omega (arith, c.type_inv.table i)) (λ i. omega (arith, c.type_inv.code i)) _ (returns-clause-value c)

pub returns-in_err-find-clause-value : goal.returns-in_err-find-clause-value
returns-in_err-find-clause-value c =
    let p = err_from_is_err_and c.from_residual.result c.from_residual.ensures.1 in
    rw (p.1, p.2) (judged-refused c.args.table.now c.args.id c.args.code.now c.args.numbers.now (compilable-refused c.args.table.now c.args.id 1 _ _ c.in_err-find.ensures))

pub returns-in_err-find-clause-promise : goal.returns-in_err-find-clause-promise
returns-in_err-find-clause-promise c = let a = c.args in
    judged-promised a.table.now a.id a.code.now a.numbers.now (λ i. omega (arith, c.type_inv.table i)) (λ i. omega (arith, c.type_inv.code i)) _ (returns-in_err-find-clause-value c)

pub returns-in_err-check_limits-clause-value : goal.returns-in_err-check_limits-clause-value
returns-in_err-check_limits-clause-value c =
    let p = err_from_is_err_and c.from_residual-in_err-check_limits.result c.from_residual-in_err-check_limits.ensures.1 in
    rw (p.1, p.2) (judged-refused c.args.table.now c.args.id c.args.code.now c.args.numbers.now (not_ready _ _ _ c.in_ok-find.ensures _ _ c.in_err-check_limits.ensures))

pub returns-in_err-check_limits-clause-promise : goal.returns-in_err-check_limits-clause-promise
returns-in_err-check_limits-clause-promise c = let a = c.args in
    judged-promised a.table.now a.id a.code.now a.numbers.now (λ i. omega (arith, c.type_inv.table i)) (λ i. omega (arith, c.type_inv.code i)) _ (returns-in_err-check_limits-clause-value c)
