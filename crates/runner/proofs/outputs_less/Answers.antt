-- `runner::outputs_less`: every address is below the word count.
use Rattle.std.proofs.Common.{rules, refl, arith, ◌+◌, ◌*◌, ◌∙◌}
use borrow.Author.Tests.{tests}
use Rattle.std.proofs.lemmas.Iterator.{YieldsList-from_range}
use Rattle.std.proofs.lemmas.Iterator.Search.{all_from_yields_List}
use lib.Dec.{ltb}
use Rattle.base.specs.Bytes.{u16}
use Rattle.runner.proofs.Walks.{walk-all}
use Rattle.runner.proofs.Checking.{outputs-walk}
use Rattle.runner.proofs.outputs_less.Goals as goal

pub returns : goal.returns
returns c =
    let a = c.args in
    all_from_yields_List (λ i. ltb (u16 a.s.now (a.from + 2 * i)) a.words) _ _ _ c.all.ensures.ran (YieldsList-from_range 0 a.count a.count refl (omega arith))
    (λ x b q k. search (rules, tests))
    ∙ walk-all (outputs-walk a.s.now a.words) a.count a.from
