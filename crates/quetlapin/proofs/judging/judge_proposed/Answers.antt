-- `quetlapin::judge_proposed`: 18, 33, then the judge.
use mathlib.Core.Path.{◌≡◌, sym, ◌∙◌}
use native.Mathlib.Omega.{arith}
use Rattle.base.specs.Bytes.{Bytes}
use Rattle.bytecode.specs.Code.{decode}
use Rattle.runner.specs.Checks.{checked_of}
use Rattle.std.specs.Prelude.{Some}
use Rattle.quetlapin.proofs.Proposing.{malformed, other-version, header-there, other-counts, comparable}
use Rattle.quetlapin.proofs.judging.judge_proposed.Goals as goal

pub returns-in_default : goal.returns-in_default
returns-in_default c =
    let a = c.args in
    rw c.at.ensures (malformed c.requires a.code.now a.numbers.now (sym c.check_code.ensures.value ∙ c.in_default.is))

pub u16_at-requires : goal.u16_at-requires
u16_at-requires c =
    let bytes : Bytes c.args.code.now = λ i. omega (arith, c.type_inv.code i) in
    let formed : checked_of (decode c.args.code.now) ≡ Some c.in-Some.counts = sym c.check_code.ensures.value ∙ c.in-Some.is in
    let a = c.args in
    omega (arith, header-there c.requires a.code.now a.numbers.now bytes formed)

pub returns-then-u16_at-ne2 : goal.returns-then-u16_at-ne2
returns-then-u16_at-ne2 c =
    let a = c.args in
    rw c.at-then-u16_at-ne2.ensures (other-version c.requires a.code.now a.numbers.now c.u16_at.ensures.0 c.if-u16_at-ne2.true)

pub returns-then-not-same_counts : goal.returns-then-not-same_counts
returns-then-not-same_counts c =
    let bytes : Bytes c.args.code.now = λ i. omega (arith, c.type_inv.code i) in
    let formed : checked_of (decode c.args.code.now) ≡ Some c.in-Some.counts = sym c.check_code.ensures.value ∙ c.in-Some.is in
    let a = c.args in
    rw c.at-then-not-same_counts.ensures (other-counts c.requires a.code.now a.numbers.now bytes formed c.u16_at.ensures.0 c.if-u16_at-ne2.false
    (sym c.same_counts.ensures ∙ c.if-not-same_counts.true))

pub judge_counted-requires : goal.judge_counted-requires
judge_counted-requires c =
    let bytes : Bytes c.args.code.now = λ i. omega (arith, c.type_inv.code i) in
    let formed : checked_of (decode c.args.code.now) ≡ Some c.in-Some.counts = sym c.check_code.ensures.value ∙ c.in-Some.is in
    let a = c.args in (
      c.requires,
      comparable c.requires a.code.now a.numbers.now bytes formed c.u16_at.ensures.0 c.if-u16_at-ne2.false
          (sym c.same_counts.ensures ∙ c.if-not-same_counts.false),
    )
