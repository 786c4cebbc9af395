use Rattle.std.proofs.Common.{◌≡◌, ap, ◌∙◌, ℕ, ◌+◌, ◌*◌, arith}
use Rattle.reader.specs.Layout.{input_count, nodes_place}
use Rattle.reader.proofs.Passed.{function-holds}
use Rattle.reader.proofs.lookup.nodes_place.Goals as goal

pub overflow_add-result : goal.overflow_add-result
overflow_add-result c = omega (arith, (function-holds c.args.s.now c.args.at c.requires).head)

pub overflow_add-at : goal.overflow_add-at
overflow_add-at c = omega (arith, (function-holds c.args.s.now c.args.at c.requires).head)

pub bounds-s-at : goal.bounds-s-at
bounds-s-at c = omega (arith, (function-holds c.args.s.now c.args.at c.requires).head)

pub overflow_add-result-2 : goal.overflow_add-result-2
overflow_add-result-2 c = omega (arith, (function-holds c.args.s.now c.args.at c.requires).inputs, c.from.ensures)

pub overflow_add-at-2 : goal.overflow_add-at-2
overflow_add-at-2 c = omega (arith, (function-holds c.args.s.now c.args.at c.requires).head)

pub bounds-s-at-2 : goal.bounds-s-at-2
bounds-s-at-2 c = omega (arith, (function-holds c.args.s.now c.args.at c.requires).head)

pub overflow_add-result-3 : goal.overflow_add-result-3
overflow_add-result-3 c = let a = c.args in
    let e : a.at + 6 + c.from.result + 4 * c.from-2.result ≡ nodes_place a.s.now a.at =
    ap (λ (n : ℕ). a.at + 6 + n + 4 * c.from-2.result) c.from.ensures ∙ ap (λ (n : ℕ). a.at + 6 + input_count a.s.now a.at + 4 * n) c.from-2.ensures in
    omega (arith, (function-holds c.args.s.now c.args.at c.requires).outputs, e)
