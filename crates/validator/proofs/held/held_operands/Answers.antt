use Rattle.std.proofs.Common.{rules, tests, ◌+◌, ◌*◌, refl, ◌∙◌, arith}
use Rattle.std.proofs.lemmas.Iterator.{YieldsList-from_range}
use Rattle.std.proofs.lemmas.Iterator.Search.{all_from_yields_List}
use Rattle.base.specs.Bytes.{u16}
use Rattle.ports.specs.Ports.{width}
use Rattle.validator.specs.Tests.{held_words}
use Rattle.validator.proofs.Holding.{type_of, operands-walked}
use Rattle.validator.proofs.held.held_operands.Goals as goal

pub returns : goal.returns
returns c =
    let a = c.args in
    all_from_yields_List (λ i. held_words a.words.now (u16 a.code.now (a.at + 2 * i)) (u16 a.ours.now (a.from + 2 * i)) (width (type_of a.words.now a.ours.now a.code.now a.first a.rest i))) _ _ _ c.all.ensures.ran (YieldsList-from_range 0 a.count a.count refl (omega arith))
    (λ x b q k. search (rules, tests))
    ∙ operands-walked a.words.now a.ours.now a.code.now a.from a.at a.count a.first a.rest
