-- `runner::written::words_written`: each word is marked.
use Rattle.std.proofs.Common.{rules, refl, arith, ◌∙◌}
use borrow.Author.Tests.{tests}
use Rattle.std.proofs.lemmas.Iterator.{YieldsList-from_range}
use Rattle.std.proofs.lemmas.Iterator.Search.{all_from_yields_List}
use Rattle.runner.specs.Checks.{marked}
use Rattle.runner.proofs.Walks.{span-all}
use Rattle.runner.proofs.written.words_written.Goals as goal

pub returns : goal.returns
returns c =
    let a = c.args in
    all_from_yields_List (marked a.marks.now) _ _ _ c.all.ensures.ran (YieldsList-from_range a.from _ a.count refl (omega arith))
    (λ x b q k. search (rules, tests))
    ∙ span-all (marked a.marks.now) a.from a.count
