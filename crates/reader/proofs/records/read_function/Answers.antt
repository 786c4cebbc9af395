use Rattle.std.proofs.Common.{◌≡◌, refl, sym, ◌∙◌, ◌+◌, ◌*◌, arith}
use Rattle.base.specs.Outcome.{ok}
use Rattle.base.specs.Bytes.{byte, u16}
use Rattle.graph.specs.Read.{in_range, inputs, outputs}
use Rattle.reader.specs.Layout.{outputs_place, nodes_place}
use Rattle.reader.specs.Records.{behind}
use Rattle.std.proofs.lemmas.Result.{err_from_is_err_and}
use Rattle.reader.proofs.Extents.{ends, short}
use Rattle.reader.proofs.Functions.{Head, function-short, function-bad, inputs-fault, outputs-fault, function-nodes, behind-place}
use Rattle.reader.proofs.records.read_function.Goals.{After-in_range, Else-not-in_range, In_ok-outputs}
use Rattle.reader.proofs.records.read_function.Goals as goal

-- the head's fields as they stand
ranged : (c : After-in_range) → let a = c.args in c.in_range.result ≡ in_range a.limit (u16 a.s.now a.at) (byte a.s.now (a.at + 2)) (byte a.s.now (a.at + 3)) (u16 a.s.now (a.at + 4))
ranged c = c.in_range.ensures ∙ rw (c.u16_at-id.ensures.0, c.from-input_count.ensures, c.from-output_count.ensures, c.u16_at-node_count.ensures.0) refl

passed : (c : Else-not-in_range) → let a = c.args in c.in_range.result ≡ in_range a.limit (u16 a.s.now a.at) (byte a.s.now (a.at + 2)) (byte a.s.now (a.at + 3)) (u16 a.s.now (a.at + 4)) → Head a.limit a.s.now a.at
passed c r = record { fits = (ends c.args.s.now _ _ c.read_record.ensures c.in-Some.is).0; ranged = sym r ∙ c.if-not-in_range.false }

-- the inputs passed
went-in : (c : In_ok-outputs) → let a = c.args in
    (ok c.in_ok-outputs.outputs ≡ behind (a.at + 6 + 1 * byte a.s.now (a.at + 2)) (inputs (byte a.s.now (a.at + 2)) a.s.now (a.at + 6)))
went-in c = rw ((ends c.args.s.now _ _ c.read_record.ensures c.in-Some.is).1, c.from-input_count.ensures) at c.in_ok-outputs.ensures

pub returns-in_default : goal.returns-in_default
returns-in_default c =
    rw c.at.ensures (function-short c.args.limit c.args.s.now c.args.at (short c.args.s.now _ _ c.read_record.ensures c.in_default.is))

pub u16_at-id-requires : goal.u16_at-id-requires
u16_at-id-requires c = let h = (ends c.args.s.now _ _ c.read_record.ensures c.in-Some.is).0 in omega arith

pub overflow_add-at : goal.overflow_add-at
overflow_add-at c = let h = (ends c.args.s.now _ _ c.read_record.ensures c.in-Some.is).0 in omega arith

pub bounds-s-at : goal.bounds-s-at
bounds-s-at c = let h = (ends c.args.s.now _ _ c.read_record.ensures c.in-Some.is).0 in omega arith

pub overflow_add-at-2 : goal.overflow_add-at-2
overflow_add-at-2 c = let h = (ends c.args.s.now _ _ c.read_record.ensures c.in-Some.is).0 in omega arith

pub bounds-s-at-2 : goal.bounds-s-at-2
bounds-s-at-2 c = let h = (ends c.args.s.now _ _ c.read_record.ensures c.in-Some.is).0 in omega arith

pub overflow_add-at-3 : goal.overflow_add-at-3
overflow_add-at-3 c = let h = (ends c.args.s.now _ _ c.read_record.ensures c.in-Some.is).0 in omega arith

pub u16_at-node_count-requires : goal.u16_at-node_count-requires
u16_at-node_count-requires c = let h = (ends c.args.s.now _ _ c.read_record.ensures c.in-Some.is).0 in omega arith

pub returns-then-not-in_range : goal.returns-then-not-in_range
returns-then-not-in_range c = let a = c.args in
    rw c.at-then-not-in_range.ensures (sym (function-bad a.limit a.s.now a.at (ends c.args.s.now _ _ c.read_record.ensures c.in-Some.is).0
    (sym (ranged (goal.at.returns-then-not-in_range c).After-in_range) ∙ c.if-not-in_range.true)))

pub returns-in_err-outputs : goal.returns-in_err-outputs
returns-in_err-outputs c = let a = c.args in
    let g = rw ((ends c.args.s.now _ _ c.read_record.ensures c.in-Some.is).1, c.from-input_count.ensures) at c.in_err-outputs.ensures in
    let p = err_from_is_err_and c.from_residual.result c.from_residual.ensures.1 in
    rw (p.1, p.2) (sym (inputs-fault (passed (goal.at.returns-in_err-outputs c).Else-not-in_range (ranged (goal.at.returns-in_err-outputs c).After-in_range)) _ _ _ g))

pub returns-in_err-nodes : goal.returns-in_err-nodes
returns-in_err-nodes c = let a = c.args in
    let i = went-in (goal.at.returns-in_err-nodes c).In_ok-outputs in
    let p = behind-place _ _ (inputs (byte a.s.now (a.at + 2)) a.s.now (a.at + 6)) i in
    let e : c.in_ok-outputs.outputs ≡ outputs_place a.s.now a.at = omega (arith, p) in
    let g = rw (e, c.from-output_count.ensures) at c.in_err-nodes.ensures in
    let q = err_from_is_err_and c.from_residual-in_err-nodes.result c.from_residual-in_err-nodes.ensures.1 in
    rw (q.1, q.2) (sym (outputs-fault (passed (goal.at.returns-in_err-nodes c).Else-not-in_range (ranged (goal.at.returns-in_err-nodes c).After-in_range)) _ _ i _ _ _ g))

pub returns : goal.returns
returns c = let a = c.args in
    let i = went-in (goal.at.returns c).In_ok-outputs in
    let p = behind-place _ _ (inputs (byte a.s.now (a.at + 2)) a.s.now (a.at + 6)) i in
    let e : c.in_ok-outputs.outputs ≡ outputs_place a.s.now a.at = omega (arith, p) in
    let q : ok c.in_ok-nodes.nodes ≡ behind (nodes_place a.s.now a.at) (outputs (byte a.s.now (a.at + 3)) a.s.now (outputs_place a.s.now a.at)) =
    rw (e, c.from-output_count.ensures) at c.in_ok-nodes.ensures in
    let u = c.u16_at-node_count.ensures.0 in
    let w = behind-place _ _ (outputs (byte a.s.now (a.at + 3)) a.s.now (outputs_place a.s.now a.at)) q in
    c.read_nodes.ensures ∙ rw (u, w) (sym (function-nodes (passed (goal.at.returns c).Else-not-in_range (ranged (goal.at.returns c).After-in_range)) _ _ i _ _ q))
