-- `runner::run`: the refusals in their order, then the run.
use mathlib.Core.Path.{◌≡◌, sym, ◌∙◌}
use mathlib.Core.Bool.{true}
use native.Mathlib.Omega.{arith}
use Rattle.base.specs.Bytes.{Bytes}
use Rattle.base.specs.Lists.{every}
use Rattle.value.specs.Values.{argument_word}
use Rattle.runner.proofs.Decoding.{Decoded, decoded, refused-18, refused-19, refused-20, refused-work, refused-out, completed}
use Rattle.runner.proofs.Exact.{run-exact, refused-exact}
use Rattle.runner.proofs.run.Goals as goal

pub returns-in_default : goal.returns-in_default
returns-in_default c =
    let bytes : Bytes c.args.code.now = λ i. omega (arith, c.type_inv.code i) in
    let a = c.args in
    let whole =
    refused-exact a.code.now a.arguments.now a.work.now a.out.now bytes c.at.ensures (refused-18 a.code.now a.arguments.now a.work.now a.out.now (sym c.check_code.ensures.value ∙ c.in_default.is)) in
    record { answered = whole.0; refused18 = whole.1 }

pub returns-then-arguments-counts : goal.returns-then-arguments-counts
returns-then-arguments-counts c =
    let bytes : Bytes c.args.code.now = λ i. omega (arith, c.type_inv.code i) in
    let list : Decoded c.args.code.now c.in-Some.counts = decoded _ _ (sym c.check_code.ensures.value ∙ c.in-Some.is) in
    let a = c.args in
    let whole =
    refused-exact a.code.now a.arguments.now a.work.now a.out.now bytes c.at-then-arguments-counts.ensures (refused-19 a.code.now a.arguments.now a.work.now a.out.now list c.if-arguments-counts.true) in
    record { answered = whole.0; refused18 = whole.1 }

pub returns-then-not-arguments_allowed : goal.returns-then-not-arguments_allowed
returns-then-not-arguments_allowed c =
    let bytes : Bytes c.args.code.now = λ i. omega (arith, c.type_inv.code i) in
    let list : Decoded c.args.code.now c.in-Some.counts = decoded _ _ (sym c.check_code.ensures.value ∙ c.in-Some.is) in
    let a = c.args in
    let whole =
    refused-exact a.code.now a.arguments.now a.work.now a.out.now bytes c.at-then-not-arguments_allowed.ensures (refused-20 a.code.now a.arguments.now a.work.now a.out.now list c.if-arguments-counts.false
    (sym c.arguments_allowed.ensures ∙ c.if-not-arguments_allowed.true)) in
    record { answered = whole.0; refused18 = whole.1 }

pub returns-then-work-counts : goal.returns-then-work-counts
returns-then-work-counts c =
    let bytes : Bytes c.args.code.now = λ i. omega (arith, c.type_inv.code i) in
    let list : Decoded c.args.code.now c.in-Some.counts = decoded _ _ (sym c.check_code.ensures.value ∙ c.in-Some.is) in
    let finite : every argument_word c.args.arguments.now ≡ true = sym c.arguments_allowed.ensures ∙ c.if-not-arguments_allowed.false in
    let a = c.args in
    let whole =
    refused-exact a.code.now a.arguments.now a.work.now a.out.now bytes c.at-then-work-counts.ensures (refused-work a.code.now a.arguments.now a.work.now a.out.now list c.if-arguments-counts.false finite c.if-work-counts.true) in
    record { answered = whole.0; refused18 = whole.1 }

pub returns-then-out-counts : goal.returns-then-out-counts
returns-then-out-counts c =
    let bytes : Bytes c.args.code.now = λ i. omega (arith, c.type_inv.code i) in
    let list : Decoded c.args.code.now c.in-Some.counts = decoded _ _ (sym c.check_code.ensures.value ∙ c.in-Some.is) in
    let finite : every argument_word c.args.arguments.now ≡ true = sym c.arguments_allowed.ensures ∙ c.if-not-arguments_allowed.false in
    let a = c.args in
    let whole =
    refused-exact a.code.now a.arguments.now a.work.now a.out.now bytes c.at-then-out-counts.ensures (refused-out a.code.now a.arguments.now a.work.now a.out.now list c.if-arguments-counts.false finite c.if-out-counts.true) in
    record { answered = whole.0; refused18 = whole.1 }

pub returns : goal.returns
returns c =
    let bytes : Bytes c.args.code.now = λ i. omega (arith, c.type_inv.code i) in
    let list : Decoded c.args.code.now c.in-Some.counts = decoded _ _ (sym c.check_code.ensures.value ∙ c.in-Some.is) in
    let finite : every argument_word c.args.arguments.now ≡ true = sym c.arguments_allowed.ensures ∙ c.if-not-arguments_allowed.false in
    let a = c.args in
    let whole =
    run-exact a.code.now a.arguments.now a.work.now a.out.now bytes (completed a.code.now a.arguments.now a.work.now a.out.now list c.if-arguments-counts.false finite c.if-work-counts.false c.if-out-counts.false c.run_checked.ensures.0 c.run_checked.ensures.1) in
    record { answered = whole.0; refused18 = whole.1 }
