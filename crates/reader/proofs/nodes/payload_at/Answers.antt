use Rattle.std.proofs.Common.{sym, ap, ◌∙◌, subst, ℕ, ◌+◌, arith}
use Rattle.ports.specs.declared.Ports.{Ports}
use Rattle.ports.specs.Ports.{width}
use Rattle.base.specs.Bytes.{u16, constants}
use Rattle.value.specs.Values.{value_of}
use Rattle.reader.specs.declared.Reads.{Reads}
use Rattle.reader.specs.declared.Payload.TheVariants.{Constant, Call, References}
use Rattle.reader.specs.Records.{FiniteWords, operands_at}
use Rattle.reader.proofs.Passed.{head-fits, form-is}
use Rattle.reader.proofs.AsRead.{kept-absent, kept-constant, kept_references, kept-call, constant-finite}
use Rattle.reader.proofs.nodes.payload_at.Goals as goal

pub overflow_add-result : goal.overflow_add-result
overflow_add-result c = omega (arith, head-fits c.args.s.now c.args.at c.requires.0)

pub constant_at-requires : goal.constant_at-requires
constant_at-requires c = let a = c.args in
    subst (λ (r : Ports). FiniteWords a.s.now (a.at + 4) (width r.result)) (sym c.requires.1)
    (constant-finite a.s.now a.at (λ q. omega (arith, c.type_inv.s q)) c.requires.0 (form-is c.args.s.now c.args.at c.args.row c.requires.1 _ c.in-Constant.is))

pub returns-in-Absent : goal.returns-in-Absent
returns-in-Absent c = kept-absent c.args.s.now c.args.at (form-is c.args.s.now c.args.at c.args.row c.requires.1 _ c.in-Absent.is)

pub returns-in-Constant : goal.returns-in-Constant
returns-in-Constant c = let a = c.args in
    ap Constant c.constant_at.ensures
    ∙ ap (λ (r : Ports). Constant (value_of r.result (constants (width r.result) a.s.now (a.at + 4)))) c.requires.1
    ∙ kept-constant a.s.now a.at (form-is c.args.s.now c.args.at c.args.row c.requires.1 _ c.in-Constant.is)

pub returns-in-References : goal.returns-in-References
returns-in-References c = let a = c.args in
    ap References c.references_at.ensures.0
    ∙ ap (λ (r : Ports). References (operands_at a.at r.operands)) c.requires.1
    ∙ kept_references a.s.now a.at (form-is c.args.s.now c.args.at c.args.row c.requires.1 _ c.in-References.is)

pub returns-in-Call : goal.returns-in-Call
returns-in-Call c = let a = c.args in
    ap (λ (n : ℕ). Call n c.arguments_at-arguments.result) c.callee_at.ensures
    ∙ ap (λ (r : Reads). Call (u16 a.s.now (a.at + 4)) r) c.arguments_at-arguments.ensures.0
    ∙ kept-call a.s.now a.at (form-is c.args.s.now c.args.at c.args.row c.requires.1 _ c.in-Call.is)
