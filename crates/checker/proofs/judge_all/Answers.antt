use Rattle.std.proofs.Common.{ℕ, ◌≡◌, ◌+◌, ◌-◌, ◌<◌, List, [], length, refl, ap, sym, subst, ◌∙◌, arith}
use native.Mathlib.Nat.{not-suc-le-zero}
use lib.ListN.{set, length-set, length-replicate}
use Rattle.std.proofs.lemmas.Result.{err_from_is_err_and}
use Rattle.base.specs.Limits.{node_limit, slot_limit}
use Rattle.graph.specs.Graph.{Function}
use Rattle.graph.specs.Judge.{judge_all}
use Rattle.reader.specs.Layout.{function_end, functions_at, known}
use Rattle.reader.specs.Find.{ReadsFunction}
use Rattle.checker.proofs.Whole.{first_function, rest-functions, all-fault, all-on, start-more, known_more}
use Rattle.checker.proofs.judge_all.Invariants.{Left}
use Rattle.checker.proofs.judge_all.Goals as goal

pub loop-k-init : goal.loop-k-init
unfolding known
loop-k-init c =
    let a = c.args in
    let s = a.s.now in
    let z : a.count ≡ a.count - 0 = omega arith in
    record {
      started = λ j h. absurd (not-suc-le-zero h);
      left = subst (λ (n : ℕ). Left s a.first a.count [] n a.first) z (record { reads = c.requires.0; same = refl });
      starts = refl;
      places = length-replicate {A = ℕ} node_limit 0;
      targets = length-replicate {A = ℕ} slot_limit 0;
    }

pub judge_function-requires : goal.judge_function-requires
judge_function-requires c =
    let l = c.loop-k in
    let here : ReadsFunction c.args.s.now l.at =
    first_function c.args.s.now (c.args.count - l.k) l.at (omega (arith, c.loop-k-test.true)) l.invariant.left.reads in
    (l.invariant.started, omega (arith, c.loop-k-test.true, c.requires.1), here, c.requires.2, l.invariant.places, l.invariant.targets)

pub returns-in_err-judge_function : goal.returns-in_err-judge_function
returns-in_err-judge_function c =
    let l = c.loop-k in
    let s = c.args.s.now in
    let p = err_from_is_err_and c.from_residual.result c.from_residual.ensures.1 in
    rw (p.1, p.2)
    (sym
    (l.invariant.left.same
    ∙ all-fault s (known s l.starts l.k) (c.args.count - l.k) l.at _ _ (omega (arith, c.loop-k-test.true)) (sym c.in_err-judge_function.ensures.value)))

pub function_end-at-requires : goal.function_end-at-requires
function_end-at-requires c =
    let l = c.loop-k in
    let here : ReadsFunction c.args.s.now l.at =
    first_function c.args.s.now (c.args.count - l.k) l.at (omega (arith, c.loop-k-test.true)) l.invariant.left.reads in
    (here, (c.in_ok-judge_function.ensures.filled refl).places)

pub loop-k-preserved : goal.loop-k-preserved
loop-k-preserved c =
    let l = c.loop-k in
    let a = c.args in
    let s = a.s.now in
    let n = a.count - l.k in
    let left : 0 < n = omega (arith, c.loop-k-test.true) in
    let here : ReadsFunction s l.at = first_function s n l.at left l.invariant.left.reads in
    let m : n - 1 ≡ a.count - (l.k + 1) = omega arith in
    let good = sym c.in_ok-judge_function.ensures.value in
    let filled = c.in_ok-judge_function.ensures.filled refl in
    let inside : l.k < length l.starts = omega (arith, l.invariant.starts, c.loop-k-test.true, c.requires.1) in
    let early = known s (set l.starts l.k l.at) (l.k + 1) in
    record {
      started = start-more s l.starts l.k l.at inside l.invariant.started here;
      left = subst (λ (x : ℕ). Left s a.first a.count early (a.count - (l.k + 1)) x) (sym c.function_end-at.ensures)
          (subst (λ (i : ℕ). Left s a.first a.count early i (function_end s l.at)) m
          (record {
            reads = rest-functions s n l.at left l.invariant.left.reads;
            same = l.invariant.left.same
                ∙ all-on s (known s l.starts l.k) n l.at left good
                ∙ ap (λ (fs : List Function). judge_all fs (functions_at (n - 1) s (function_end s l.at))) (known_more s l.starts l.k l.at inside);
          }));
      starts = length-set l.starts l.k l.at ∙ l.invariant.starts;
      places = filled.few;
      targets = filled.size;
    }

pub returns : goal.returns
unfolding functions_at
returns c =
    let l = c.loop-k in
    let z : c.args.count - l.k ≡ 0 = omega arith in
    sym (rw z at l.invariant.left.same)
