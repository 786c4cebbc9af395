use Rattle.std.proofs.Common.{◌≡◌, ap, ◌∙◌, cond, ℕ, ◌+◌, ◌*◌, Bool, arith}
use Rattle.ports.specs.Ports.{calling}
use Rattle.reader.specs.Layout.{node_end}
use Rattle.reader.proofs.AsRead.{row-end, count_fits}
use Rattle.reader.proofs.Passed.{end_fits}
use Rattle.reader.proofs.lookup.end_by.Goals as goal

pub overflow_add-at : goal.overflow_add-at
overflow_add-at c = omega (arith, count_fits c.args.s.now c.args.at c.requires.0)

pub overflow_add-at-2 : goal.overflow_add-at-2
overflow_add-at-2 c = omega (arith, count_fits c.args.s.now c.args.at c.requires.0)

pub bounds-s-at : goal.bounds-s-at
bounds-s-at c = omega (arith, count_fits c.args.s.now c.args.at c.requires.0)

pub overflow_add-result : goal.overflow_add-result
overflow_add-result c = omega (arith, count_fits c.args.s.now c.args.at c.requires.0)

pub overflow_add-result-2 : goal.overflow_add-result-2
overflow_add-result-2 c = omega (arith, count_fits c.args.s.now c.args.at c.requires.0, c.from.ensures)

pub overflow_add-result-3 : goal.overflow_add-result-3
overflow_add-result-3 c = let a = c.args in
    let e : a.at + 4 + c.from.result + c.either.result ≡ node_end a.s.now a.at =
    ap (λ (n : ℕ). a.at + 4 + n + c.either.result) c.from.ensures
    ∙ ap (λ (n : ℕ). a.at + 4 + a.row.bytes + n)
    (c.either.ensures
    ∙ ap (λ (t : Bool). cond t (3 * c.from-n.result) 0) c.is_call.ensures
    ∙ ap (λ (n : ℕ). cond (calling a.row.form) (3 * n) 0) c.from-n.ensures)
    ∙ row-end a.s.now a.at c.requires.0 a.row c.requires.1 in
    omega (arith, e, end_fits a.s.now a.at c.requires.0)

pub returns : goal.returns
returns c = let a = c.args in
    ap (λ (n : ℕ). a.at + 4 + n + c.either.result) c.from.ensures
    ∙ ap (λ (n : ℕ). a.at + 4 + a.row.bytes + n)
    (c.either.ensures
    ∙ ap (λ (t : Bool). cond t (3 * c.from-n.result) 0) c.is_call.ensures
    ∙ ap (λ (n : ℕ). cond (calling a.row.form) (3 * n) 0) c.from-n.ensures)
    ∙ row-end a.s.now a.at c.requires.0 a.row c.requires.1
