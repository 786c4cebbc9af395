-- `runner::written::outputs_written`: each word is marked.
use Rattle.std.proofs.Common.{rules, refl, arith, ◌+◌, ◌*◌, ◌∙◌}
use borrow.Author.Tests.{tests}
use Rattle.std.proofs.lemmas.Iterator.{YieldsList-from_range}
use Rattle.std.proofs.lemmas.Iterator.Search.{all_from_yields_List}
use Rattle.base.specs.Bytes.{u16}
use Rattle.runner.specs.Checks.{marked}
use Rattle.runner.proofs.Walks.{walk-all}
use Rattle.runner.proofs.Marks.{marked-walk}
use Rattle.runner.proofs.written.outputs_written.Goals as goal

pub returns : goal.returns
returns c =
    let a = c.args in
    all_from_yields_List (λ i. marked a.marks.now (u16 a.s.now (a.from + 2 * i))) _ _ _ c.all.ensures.ran (YieldsList-from_range 0 a.count a.count refl (omega arith))
    (λ x b q k. search (rules, tests))
    ∙ walk-all (marked-walk (marked a.marks.now) a.s.now) a.count a.from
