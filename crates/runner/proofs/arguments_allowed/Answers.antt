-- `runner::arguments_allowed`: each word is asked.
use Rattle.std.proofs.Common.{rules, ◌∙◌}
use borrow.Author.Tests.{tests}
use Rattle.std.proofs.lemmas.Iterator.{YieldsList-from_slice}
use Rattle.std.proofs.lemmas.Iterator.Search.{all_from_yields_List}
use Rattle.value.specs.Values.{argument_word}
use Rattle.runner.proofs.Walks.{every-all}
use Rattle.runner.proofs.arguments_allowed.Goals as goal

pub returns : goal.returns
returns c =
    let xs = c.args.xs.now in
    all_from_yields_List argument_word _ _ _ c.all.ensures.ran (YieldsList-from_slice xs c.iter.ensures.rest) (λ x b q k. search (rules, tests)) ∙ every-all argument_word xs
