use Rattle.std.proofs.lemmas.Result.{err_from_is_err_and}
use Rattle.quetlapin.specs.Measures.{code_count}
use Rattle.quetlapin.proofs.Choosing.{count-refused, its-code}
use Rattle.quetlapin.proofs.code_length.Goals as goal

pub returns-in_err-find : goal.returns-in_err-find
returns-in_err-find c =
    let p = err_from_is_err_and c.from_residual.result c.from_residual.ensures.1 in
    rw (p.1, p.2) (count-refused code_count c.args.table.now c.args.id c.in_err-find.ensures)

pub returns : goal.returns
returns c = let f = c.in_ok-find.ensures in rw c.then_some.ensures (its-code c.args.table.now c.args.id _ f.named _ f.sizes.sizes c.within_limits.result c.within_limits.ensures)
