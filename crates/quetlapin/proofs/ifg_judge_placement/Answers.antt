-- `quetlapin::ifg_judge_placement`: the judge's answer as a number.
use native.Mathlib.Omega.{arith}
use Rattle.base.specs.Outcome.{ok, fault}
use Rattle.acceptance.proofs.Promised.{promised}
use Rattle.quetlapin.proofs.Telling.{judged-bounded, may-judge, judge-told, told_same}
use Rattle.quetlapin.proofs.ifg_judge_placement.Goals as goal

pub tell-requires : goal.tell-requires
tell-requires c =
    let a = c.args in
    may-judge (judged-bounded a.table.now (λ i. omega (arith, c.type_inv.table i)) a.id a.code.now a.numbers.now) c.judge_placement.ensures.value

pub returns-clause-told : goal.returns-clause-told
returns-clause-told c =
    let a = c.args in
    judge-told (judged-bounded a.table.now (λ i. omega (arith, c.type_inv.table i)) a.id a.code.now a.numbers.now) c.judge_placement.ensures.value
    c.tell.ensures

pub returns-clause-promise : goal.returns-clause-promise
returns-clause-promise c =
    let a = c.args in
    let t = returns-clause-told c in
    promised a.table.now a.id a.code.now a.numbers.now (λ i. omega (arith, c.type_inv.table i)) (λ i. omega (arith, c.type_inv.code i)) (λ n. told_same t (ok n)) (λ n p. told_same t (fault n p))
