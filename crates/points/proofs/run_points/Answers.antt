-- `points::run_points`: the refusals in their order, then all points.
use mathlib.Core.Path.{◌≡◌, sym, ◌∙◌, subst}
use mathlib.Core.Bool.{true}
use Prim.Native.Nat.{ℕ, ◌*◌}
use mathlib.Core.List.{List}
use Rattle.base.specs.declared.refusal.Refusal.{Refusal}
use Rattle.base.specs.Refusals.{outcome}
use native.Mathlib.Omega.{arith}
use Rattle.base.specs.Bytes.{Bytes}
use Rattle.base.specs.Lists.{every}
use Rattle.value.specs.Values.{argument_word}
use Rattle.std.specs.Prelude.{Result, Ok, Err}
use Rattle.runner.specs.Runs.{Answered, Refused18}
use Rattle.runner.proofs.Decoding.{Decoded, decoded}
use Rattle.points.specs.Points.{ran_points}
use Rattle.points.specs.Demand3.{Demand3Points}
use Rattle.points.proofs.Judged.{refused-18, refused-22, refused-19, refused-20, refused-work, refused-out, completed, few_words, few-arguments, points-exact}
use Rattle.points.proofs.Meaning.{answered-points}
use Rattle.points.proofs.run_points.Goals as goal

-- an answer, 18 of it, and demand 3
module _ (code : List ℕ) (count : ℕ) (arguments work out : List ℕ) (small : Bytes code) where
  answered : {work' out' : List ℕ} {r : Result ℕ Refusal} → Answered (ran_points code count arguments work out) work out work' out' (outcome r)
      → Answered (ran_points code count arguments work out) work out work' out' (outcome r)
      × (Refused18 code (outcome r) × Demand3Points (λ n. r ≡ Ok n) code count arguments work out work' out')
  answered h = (h, (points-exact _ _ _ _ _ small h, answered-points _ _ _ _ _ h))

  -- of a refusal
  refused : {e f : Refusal} → e ≡ f → Answered (ran_points code count arguments work out) work out work out (outcome (Err f))
      → Answered (ran_points code count arguments work out) work out work out (outcome (Err e))
      × (Refused18 code (outcome (Err e)) × Demand3Points (λ n. Err e ≡ Ok n) code count arguments work out work out)
  refused {e} {f} q a = answered {r = Err e} (subst (λ (x : Refusal). Answered (ran_points code count arguments work out) work out work out (outcome (Err x))) (sym q) a)

pub returns-in_default : goal.returns-in_default
returns-in_default c =
    let bytes : Bytes c.args.code.now = λ i. omega (arith, c.type_inv.code i) in
    let a = c.args in
    let whole = refused a.code.now a.count a.arguments.now a.work.now a.out.now bytes c.at.ensures (refused-18 _ _ _ _ _ (sym c.check_code.ensures.value ∙ c.in_default.is)) in
    record { answered = whole.0; refused18 = whole.1.0; demand3points = whole.1.1 }

pub returns-then-count-gt-POINT_LIMIT : goal.returns-then-count-gt-POINT_LIMIT
returns-then-count-gt-POINT_LIMIT c =
    let bytes : Bytes c.args.code.now = λ i. omega (arith, c.type_inv.code i) in
    let list : Decoded c.args.code.now c.in-Some.counts = decoded _ _ (sym c.check_code.ensures.value ∙ c.in-Some.is) in
    let a = c.args in
    let whole = refused a.code.now a.count a.arguments.now a.work.now a.out.now bytes c.at-then-count-gt-POINT_LIMIT.ensures (refused-22 _ _ _ _ _ list (omega (arith, c.if-count-gt-POINT_LIMIT.true))) in
    record { answered = whole.0; refused18 = whole.1.0; demand3points = whole.1.1 }

pub overflow_mul-count : goal.overflow_mul-count
overflow_mul-count c =
    let bytes : Bytes c.args.code.now = λ i. omega (arith, c.type_inv.code i) in
    let list : Decoded c.args.code.now c.in-Some.counts = decoded _ _ (sym c.check_code.ensures.value ∙ c.in-Some.is) in
    omega (arith, few_words c.if-count-gt-POINT_LIMIT.false (few-arguments _ bytes list))

pub returns-then-arguments-count : goal.returns-then-arguments-count
returns-then-arguments-count c =
    let bytes : Bytes c.args.code.now = λ i. omega (arith, c.type_inv.code i) in
    let list : Decoded c.args.code.now c.in-Some.counts = decoded _ _ (sym c.check_code.ensures.value ∙ c.in-Some.is) in
    let a = c.args in
    let whole = refused a.code.now a.count a.arguments.now a.work.now a.out.now bytes c.at-then-arguments-count.ensures (refused-19 _ _ _ _ _ list c.if-count-gt-POINT_LIMIT.false c.if-arguments-count.true) in
    record { answered = whole.0; refused18 = whole.1.0; demand3points = whole.1.1 }

pub returns-then-not-arguments_allowed : goal.returns-then-not-arguments_allowed
returns-then-not-arguments_allowed c =
    let bytes : Bytes c.args.code.now = λ i. omega (arith, c.type_inv.code i) in
    let list : Decoded c.args.code.now c.in-Some.counts = decoded _ _ (sym c.check_code.ensures.value ∙ c.in-Some.is) in
    let a = c.args in
    let whole = refused a.code.now a.count a.arguments.now a.work.now a.out.now bytes c.at-then-not-arguments_allowed.ensures (refused-20 _ _ _ _ _ list c.if-count-gt-POINT_LIMIT.false c.if-arguments-count.false (sym c.arguments_allowed.ensures ∙ c.if-not-arguments_allowed.true)) in
    record { answered = whole.0; refused18 = whole.1.0; demand3points = whole.1.1 }

pub returns-then-work-counts : goal.returns-then-work-counts
returns-then-work-counts c =
    let bytes : Bytes c.args.code.now = λ i. omega (arith, c.type_inv.code i) in
    let list : Decoded c.args.code.now c.in-Some.counts = decoded _ _ (sym c.check_code.ensures.value ∙ c.in-Some.is) in
    let finite : every argument_word c.args.arguments.now ≡ true = sym c.arguments_allowed.ensures ∙ c.if-not-arguments_allowed.false in
    let a = c.args in
    let whole = refused a.code.now a.count a.arguments.now a.work.now a.out.now bytes c.at-then-work-counts.ensures (refused-work _ _ _ _ _ list c.if-count-gt-POINT_LIMIT.false c.if-arguments-count.false finite (omega (arith, c.if-work-counts.true))) in
    record { answered = whole.0; refused18 = whole.1.0; demand3points = whole.1.1 }

pub overflow_mul-words : goal.overflow_mul-words
overflow_mul-words c =
    let list : Decoded c.args.code.now c.in-Some.counts = decoded _ _ (sym c.check_code.ensures.value ∙ c.in-Some.is) in
    omega (arith, few_words c.if-count-gt-POINT_LIMIT.false list.small)

pub returns-then-out-words : goal.returns-then-out-words
returns-then-out-words c =
    let bytes : Bytes c.args.code.now = λ i. omega (arith, c.type_inv.code i) in
    let list : Decoded c.args.code.now c.in-Some.counts = decoded _ _ (sym c.check_code.ensures.value ∙ c.in-Some.is) in
    let finite : every argument_word c.args.arguments.now ≡ true = sym c.arguments_allowed.ensures ∙ c.if-not-arguments_allowed.false in
    let a = c.args in
    let whole = refused a.code.now a.count a.arguments.now a.work.now a.out.now bytes c.at-then-out-words.ensures (refused-out _ _ _ _ _ list c.if-count-gt-POINT_LIMIT.false c.if-arguments-count.false finite (omega (arith, c.if-out-words.true))) in
    record { answered = whole.0; refused18 = whole.1.0; demand3points = whole.1.1 }

pub returns : goal.returns
returns c =
    let bytes : Bytes c.args.code.now = λ i. omega (arith, c.type_inv.code i) in
    let list : Decoded c.args.code.now c.in-Some.counts = decoded _ _ (sym c.check_code.ensures.value ∙ c.in-Some.is) in
    let finite : every argument_word c.args.arguments.now ≡ true = sym c.arguments_allowed.ensures ∙ c.if-not-arguments_allowed.false in
    let a = c.args in
    let whole = answered a.code.now a.count a.arguments.now a.work.now a.out.now bytes {r = Ok (a.count * c.in-Some.counts.outputs)} (completed _ _ _ _ _ list c.if-count-gt-POINT_LIMIT.false c.if-arguments-count.false finite (omega (arith, c.if-work-counts.false)) (omega (arith, c.if-out-words.false)) c.run_each.ensures) in
    record { answered = whole.0; refused18 = whole.1.0; demand3points = whole.1.1 }
