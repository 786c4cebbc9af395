use Rattle.std.proofs.Common.{rules, tests, ◌+◌, ◌*◌, eqb, refl, ◌∙◌, arith}
use Rattle.std.proofs.lemmas.Iterator.{YieldsList-from_range}
use Rattle.std.proofs.lemmas.Iterator.Search.{all_from_yields_List}
use Rattle.base.specs.Bytes.{u16}
use Rattle.validator.specs.Tests.{held_at}
use Rattle.validator.proofs.Holding.{outputs-walked}
use Rattle.validator.proofs.held.held_outputs.Goals as goal

pub returns : goal.returns
returns c =
    let a = c.args in
    all_from_yields_List (λ i. eqb (held_at a.words.now (u16 a.code.now (a.at + 2 * i))) (u16 a.ours.now (a.from + 2 * i))) _ _ _ c.all.ensures.ran (YieldsList-from_range 0 a.count a.count refl (omega arith))
    (λ x b q k. search (rules, tests))
    ∙ outputs-walked a.words.now a.ours.now a.code.now a.from a.at a.count
