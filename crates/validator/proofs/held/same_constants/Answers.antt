use Rattle.std.proofs.Common.{rules, tests, ◌+◌, ◌*◌, eqb, refl, ◌∙◌, arith}
use Rattle.std.proofs.lemmas.Iterator.{YieldsList-from_range}
use Rattle.std.proofs.lemmas.Iterator.Search.{all_from_yields_List}
use Rattle.base.specs.Bytes.{u64}
use Rattle.validator.proofs.Holding.{constants-walked}
use Rattle.validator.proofs.held.same_constants.Goals as goal

pub returns : goal.returns
returns c =
    let a = c.args in
    all_from_yields_List (λ i. eqb (u64 a.code.now (a.at + 8 * i)) (u64 a.ours.now (a.from + 8 * i))) _ _ _ c.all.ensures.ran (YieldsList-from_range 0 a.count a.count refl (omega arith))
    (λ x b q k. search (rules, tests))
    ∙ constants-walked a.ours.now a.code.now a.from a.at a.count
