use Rattle.std.proofs.Common.{◌≡◌, refl, sym, ap, ◌∙◌, subst, cond, ℕ, ◌+◌, Bool, true, false, arith}
use Rattle.ports.specs.Ports.{calling}
use Rattle.reader.specs.Records.{arguments_at, operands_at, reads_by}
use Rattle.reader.specs.Find.{ReadsOf}
use Rattle.reader.proofs.AsRead.{row_reads, count_fits}
use Rattle.reader.proofs.nodes.reads_by.Goals as goal

-- both fields by the same choice
chosen : (b : Bool) (at n m : ℕ) → record { first = cond b (at + 4 + 3) (at + 4); count = cond b n m } ≡ cond b (record { first = at + 4 + 3; count = n }) (operands_at at m)
chosen true at n m = refl
chosen false at n m = refl

pub overflow_add-at : goal.overflow_add-at
overflow_add-at c = omega (arith, count_fits c.args.s.now c.args.at c.requires.0)

pub overflow_add-at-2 : goal.overflow_add-at-2
overflow_add-at-2 c = omega (arith, count_fits c.args.s.now c.args.at c.requires.0)

pub bounds-s-at : goal.bounds-s-at
bounds-s-at c = omega (arith, count_fits c.args.s.now c.args.at c.requires.0)

pub overflow_add-at-3 : goal.overflow_add-at-3
overflow_add-at-3 c = omega (arith, count_fits c.args.s.now c.args.at c.requires.0)

pub overflow_add-at-4 : goal.overflow_add-at-4
overflow_add-at-4 c = omega (arith, count_fits c.args.s.now c.args.at c.requires.0)

pub overflow_add-at-5 : goal.overflow_add-at-5
overflow_add-at-5 c = omega (arith, count_fits c.args.s.now c.args.at c.requires.0)

pub returns : goal.returns
returns c = let a = c.args in
    let n = c.from-n.result in
    let m = c.from.result in
    let found : record { first = c.either.result; count = c.either-2.result } ≡ reads_by a.row a.s.now a.at =
    ap (λ (x : ℕ). record { first = x; count = c.either-2.result }) c.either.ensures
    ∙ ap (λ (x : ℕ). record { first = cond c.is_call-call.result (a.at + 4 + 3) (a.at + 4); count = x }) c.either-2.ensures
    ∙ chosen c.is_call-call.result a.at n m
    ∙ ap (λ (b : Bool). cond b (record { first = a.at + 4 + 3; count = n }) (operands_at a.at m)) c.is_call-call.ensures
    ∙ ap (λ (x : ℕ). cond (calling a.row.form) (record { first = a.at + 4 + 3; count = x }) (operands_at a.at m)) c.from-n.ensures
    ∙ ap (λ (x : ℕ). cond (calling a.row.form) (arguments_at a.s.now a.at) (operands_at a.at x)) c.from.ensures in
    (found, subst (ReadsOf a.s.now a.at) (sym found) (row_reads a.s.now a.at c.requires.0 a.row c.requires.1))
