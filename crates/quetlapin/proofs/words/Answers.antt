use Rattle.std.proofs.lemmas.Result.{err_from_is_err_and}
use Rattle.quetlapin.specs.Measures.{word_count}
use Rattle.quetlapin.proofs.Choosing.{count-refused, its-words}
use Rattle.quetlapin.proofs.words.Goals as goal

pub returns-in_err-find : goal.returns-in_err-find
returns-in_err-find c =
    let p = err_from_is_err_and c.from_residual.result c.from_residual.ensures.1 in
    rw (p.1, p.2) (count-refused word_count c.args.table.now c.args.id c.in_err-find.ensures)

pub returns : goal.returns
returns c = let f = c.in_ok-find.ensures in its-words c.args.table.now c.args.id _ f.named _ f.sizes.sizes c.up_to.ensures
