-- `runner::check_code`, test by test, then by the version.
use mathlib.Core.Path.{sym, ap, ◌∙◌}
use native.Mathlib.Omega.{arith}
use lib.Dec.{leb}
use lib.ListN.{length}
use borrow.Author.Tests.{leb-true}
use Rattle.base.proofs.Bools.{and-inv}
use Rattle.base.specs.Bytes.{Bytes}
use Rattle.bytecode.specs.declared.Version.TheVariants.{V1, V2}
use Rattle.bytecode.specs.Code.{counts_fit, code_marked}
use Rattle.runner.specs.declared.Counts.{Counts}
use Rattle.runner.specs.Checks.{checked_of, list_of}
use Rattle.runner.proofs.Whole.{not-headed, over-limits, by-version, no-version}
use Rattle.runner.proofs.Exact.{check-exact}
use Rattle.runner.proofs.check_code.Goals as goal

pub returns-then-not-is_headed : goal.returns-then-not-is_headed
returns-then-not-is_headed c =
    let bytes : Bytes c.args.s.now = λ i. omega (arith, c.type_inv.s i) in
    let whole = check-exact c.args.s.now bytes (not-headed c.args.s.now (sym c.is_headed.ensures ∙ c.if-not-is_headed.true)) in
    record { value = whole.0; exactly = whole.1 }

pub returns-then-not-counts_fit : goal.returns-then-not-counts_fit
returns-then-not-counts_fit c =
    let s = c.args.s.now in
    let bytes : Bytes c.args.s.now = λ i. omega (arith, c.type_inv.s i) in
    let head = and-inv (leb 12 (length s)) (code_marked s) (sym c.is_headed.ensures ∙ c.if-not-is_headed.false) in
    let whole =
    check-exact s bytes (over-limits s (leb-true _ _ head.0) head.1
    (ap (λ (n : Counts). counts_fit n.arguments n.outputs n.instructions n.words) (sym c.header_counts-counts.ensures.0) ∙ sym c.counts_fit.ensures
    ∙ c.if-not-counts_fit.true)) in
    record { value = whole.0; exactly = whole.1 }

pub returns-in-1 : goal.returns-in-1
returns-in-1 c =
    let s = c.args.s.now in
    let bytes : Bytes c.args.s.now = λ i. omega (arith, c.type_inv.s i) in
    let head = and-inv (leb 12 (length s)) (code_marked s) (sym c.is_headed.ensures ∙ c.if-not-is_headed.false) in
    let whole =
    check-exact s bytes
    (c.check_sequential.ensures
    ∙ ap (λ (n : Counts). checked_of (list_of V1 s n)) c.header_counts-counts.ensures.0
    ∙ by-version s (leb-true _ _ head.0) head.1
    (ap (λ (n : Counts). counts_fit n.arguments n.outputs n.instructions n.words) (sym c.header_counts-counts.ensures.0) ∙ sym c.counts_fit.ensures
    ∙ c.if-not-counts_fit.false)
    V1 (sym c.u16_at.ensures.0 ∙ c.in-1.is)) in
    record { value = whole.0; exactly = whole.1 }

pub returns-in-2 : goal.returns-in-2
returns-in-2 c =
    let s = c.args.s.now in
    let bytes : Bytes c.args.s.now = λ i. omega (arith, c.type_inv.s i) in
    let head = and-inv (leb 12 (length s)) (code_marked s) (sym c.is_headed.ensures ∙ c.if-not-is_headed.false) in
    let whole =
    check-exact s bytes
    (c.check_addressed.ensures
    ∙ ap (λ (n : Counts). checked_of (list_of V2 s n)) c.header_counts-counts.ensures.0
    ∙ by-version s (leb-true _ _ head.0) head.1
    (ap (λ (n : Counts). counts_fit n.arguments n.outputs n.instructions n.words) (sym c.header_counts-counts.ensures.0) ∙ sym c.counts_fit.ensures
    ∙ c.if-not-counts_fit.false)
    V2 (sym c.u16_at.ensures.0 ∙ c.in-2.is)) in
    record { value = whole.0; exactly = whole.1 }

pub returns-in_default : goal.returns-in_default
returns-in_default c =
    let s = c.args.s.now in
    let bytes : Bytes c.args.s.now = λ i. omega (arith, c.type_inv.s i) in
    let head = and-inv (leb 12 (length s)) (code_marked s) (sym c.is_headed.ensures ∙ c.if-not-is_headed.false) in
    let whole =
    check-exact s bytes
    (no-version s (leb-true _ _ head.0) head.1 (λ q. omega (arith, q, c.u16_at.ensures.0)) (λ q. omega (arith, q, c.u16_at.ensures.0))) in
    record { value = whole.0; exactly = whole.1 }
