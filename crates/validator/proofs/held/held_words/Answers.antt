use Rattle.std.proofs.Common.{rules, tests, ◌+◌, eqb, refl, ◌∙◌, arith}
use Rattle.std.proofs.lemmas.Iterator.{YieldsList-from_range}
use Rattle.std.proofs.lemmas.Iterator.Search.{all_from_yields_List}
use Rattle.validator.specs.Tests.{held_at}
use Rattle.validator.proofs.Holding.{words-walked}
use Rattle.validator.proofs.held.held_words.Goals as goal

pub returns : goal.returns
returns c =
    let a = c.args in
    all_from_yields_List (λ i. eqb (held_at a.words.now (a.a + i)) (a.w + i)) _ _ _ c.all.ensures.ran (YieldsList-from_range 0 a.count a.count refl (omega arith))
    (λ x b q k. search (rules, tests))
    ∙ words-walked a.words.now a.a a.w a.count
