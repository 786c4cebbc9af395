use Rattle.std.proofs.Common.{◌≡◌, sym, ◌∙◌, ◌-◌, get_or, arith}
use Rattle.reader.specs.Layout.{known}
use Rattle.reader.proofs.Passed.{function-fits, function-hit, function-miss}
use Rattle.reader.proofs.lookup.find_function.Goals as goal

pub u16_at-requires : goal.u16_at-requires
u16_at-requires c = let a = c.args in
    let i = c.loop-index.index in
    let h = function-fits a.s.now (get_or a.starts.now (i - 1) 0) (c.requires.0 (i - 1) (omega (arith, c.loop-index-test.true, c.loop-index.invariant.0))) in
    omega (arith, h)

pub returns-then-u16_at-id : goal.returns-then-u16_at-id
returns-then-u16_at-id c = let a = c.args in
    let l = c.loop-index in
    sym (l.invariant.1 ∙ function-hit a.s.now a.starts.now a.id l.index c.loop-index-test.true (sym c.u16_at.ensures.0 ∙ c.if-u16_at-id.true))

pub loop-index-preserved : goal.loop-index-preserved
loop-index-preserved c = let a = c.args in
    let l = c.loop-index in (
      omega arith,
      l.invariant.1
          ∙ function-miss a.s.now a.starts.now a.id l.index c.loop-index-test.true (λ w. c.if-u16_at-id.false (c.u16_at.ensures.0 ∙ w)),
    )

pub returns : goal.returns
unfolding known
returns c =
    let l = c.loop-index in
    let z : l.index ≡ 0 = omega arith in
    sym (rw z at l.invariant.1)
