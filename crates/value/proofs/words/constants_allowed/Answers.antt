-- `value::constants_allowed`: `all` of the constants' numbers.
use Rattle.std.proofs.Common.{rules, refl, ◌∙◌, ap, ◌+◌, ◌*◌, arith}
use Rattle.std.proofs.lemmas.Iterator.{YieldsList-from_range}
use Rattle.std.proofs.lemmas.Iterator.Search.{all_from_yields_List}
use Rattle.base.specs.Bytes.{u64, constants}
use Rattle.base.specs.Lists.{every}
use Rattle.value.specs.Values.{constant_word}
use Rattle.value.proofs.Constants.{each-in-turn}
use Rattle.value.proofs.words.constants_allowed.Goals as goal

pub returns : goal.returns
returns c =
    let a = c.args in
    all_from_yields_List (λ i. constant_word (u64 a.s.now (a.from + 8 * i))) _ _ _ c.all.ensures.ran (YieldsList-from_range 0 a.count a.count refl (omega arith)) (λ x b q k. search rules)
    ∙ each-in-turn constant_word a.s.now a.from a.count 0
    ∙ ap (λ i. every constant_word (constants a.count a.s.now i)) (omega arith)
