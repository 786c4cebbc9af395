use Rattle.std.proofs.Common.{ℕ, List, ◌≡◌, [], ap, sym, subst, ◌∙◌, arith}
use Rattle.std.proofs.lemmas.Result.{err_from_is_err_and}
use Rattle.base.specs.Bytes.{Bytes}
use Rattle.base.specs.Outcome.{Outcome, ok}
use Rattle.graph.specs.Format.{format_of}
use Rattle.graph.specs.Judge.{judge_all, verdict}
use Rattle.graph.proofs.Exactly.{verdict-iff}
use Rattle.reader.specs.Layout.{functions_at}
use Rattle.reader.specs.Find.{ReadsFunctions}
use Rattle.checker.specs.Answers.{Judged}
use Rattle.checker.proofs.Whole.{unread, whole, refused, accepted}
use Rattle.checker.proofs.check.Goals as goal

-- the verdict is what the rules give
both : (s : List ℕ) → Bytes s → (o : Outcome ℕ) → o ≡ verdict s → (o ≡ verdict s) × Judged s o
both s small o e = (e, (verdict-iff s small o).0 (sym e))

pub returns-in_err-read_table : goal.returns-in_err-read_table
returns-in_err-read_table c =
    let s = c.args.table.now in
    let p = err_from_is_err_and c.from_residual.result c.from_residual.ensures.1 in
    rw (p.1, p.2) (let q = both s (λ i. omega (arith, c.type_inv.table i)) _ (sym (unread s _ _ c.in_err-read_table.ensures)) in record { value = q.0; judged = q.1 })

pub bounds-table-5 : goal.bounds-table-5
bounds-table-5 c =
    let s = c.args.table.now in
    let w = whole s (λ i. omega (arith, c.type_inv.table i)) c.in_ok-read_table.ensures in
    omega (arith, w.size)

pub judge_all-requires : goal.judge_all-requires
unfolding format_of
judge_all-requires c =
    let s = c.args.table.now in
    let w = whole s (λ i. omega (arith, c.type_inv.table i)) c.in_ok-read_table.ensures in
    let e = c.from-count.ensures in
    (subst (λ (n : ℕ). ReadsFunctions n s (format_of s).header) (sym e) w.reads, omega (arith, e, w.few), let l = w.short in omega arith)

pub returns-in_err-judge_all : goal.returns-in_err-judge_all
unfolding format_of
returns-in_err-judge_all c =
    let s = c.args.table.now in
    let p = err_from_is_err_and c.from_residual-in_err-judge_all.result c.from_residual-in_err-judge_all.ensures.1 in
    let judged = c.in_err-judge_all.ensures ∙ ap (λ (n : ℕ). judge_all [] (functions_at n s (format_of s).header)) c.from-count.ensures in
    rw (p.1, p.2)
    (let q = both s (λ i. omega (arith, c.type_inv.table i)) _ (sym (refused s c.in_ok-read_table.ensures _ _ (sym judged))) in record { value = q.0; judged = q.1 })

pub returns : goal.returns
unfolding format_of
returns c =
    let s = c.args.table.now in
    let judged = c.in_ok-judge_all.ensures ∙ ap (λ (n : ℕ). judge_all [] (functions_at n s (format_of s).header)) c.from-count.ensures in
    let q = both s (λ i. omega (arith, c.type_inv.table i)) _
    (ap (λ (n : ℕ). ok n) c.from-count.ensures ∙ sym (accepted s c.in_ok-read_table.ensures (sym judged))) in
    record { value = q.0; judged = q.1 }
