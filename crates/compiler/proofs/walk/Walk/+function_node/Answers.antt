use Prim.Native.Nat.{ℕ, ◌+◌, ◌-◌}
use mathlib.Core.Path.{refl, ap, ◌∙◌}
use native.Mathlib.Omega.{arith}
use Rattle.base.specs.Bytes.{u16}
use Rattle.reader.proofs.Passed.{callee-fits, function-fits}
use Rattle.sums.specs.Position.{place_of}
use Rattle.sums.proofs.Nodes.{call-form}
use Rattle.sums.proofs.Tabulate.{fewer-starts}
use Rattle.compiler.specs.Emit.{naming_of}
use Rattle.compiler.proofs.References.{call-is, constant-untyped}
use Rattle.compiler.proofs.Single.{same-room, same_walks, constant-inlined, operation-part}
use Rattle.compiler.proofs.Inlining.{count-is, callee-part, nothing-walks}
use Rattle.compiler.proofs.Filling.{part-length}
use Rattle.compiler.proofs.Emission.{words-fit, start, node-ready, advance}
use Rattle.compiler.proofs.walk.Walk.+function_node.Goals as goal

-- ---- a function

pub function-overflow_add-self : goal.function-overflow_add-self
function-overflow_add-self t c =
    let a = c.args in
    let (k16, starts, small) = c.requires.k_lt_function_limit in
    let p = starts.places a.k (omega arith) in
    let l = function-fits a.self.table.now (place_of a.self.table.now a.k) (starts.reads a.k (omega arith)) in
    omega (arith, p, l)

pub function-u16_at-n-requires : goal.function-u16_at-n-requires
function-u16_at-n-requires t c =
    let a = c.args in
    let (k16, starts, small) = c.requires.k_lt_function_limit in
    let p = starts.places a.k (omega arith) in
    let l = function-fits a.self.table.now (place_of a.self.table.now a.k) (starts.reads a.k (omega arith)) in
    omega (arith, p, l)

pub function-loop-i-init : goal.function-loop-i-init
function-loop-i-init t c =
    let a = c.args in
    let y = a.self.layout.now in
    let (k16, starts, small) = c.requires.k_lt_function_limit in
    let p = starts.places a.k (omega arith) in
    let (near, fit) = words-fit a.self.pass a.self.table.now y.order y.locations a.k a.ins.now a.self.inputs a.code.now a.place.now a.wide.now a.at a.next c.requires.code_room in
    let allocated = c.requires.all_allocated a.k (omega arith) fit in (
      start _ _ _ _ _ _ _ _ _ _ _ _ c.requires.code_room allocated c.from-cell.ensures (c.u16_at-n.ensures.0 ∙ ap (λ (q : ℕ). u16 a.self.table.now (q + 4)) p),
      refl,
      refl,
    )

pub function-node-reached-requires : goal.function-node-reached-requires
function-node-reached-requires t c =
    let a = c.args in
    let y = a.self.layout.now in
    let (near, fit) = words-fit a.self.pass a.self.table.now y.order y.locations a.k a.ins.now a.self.inputs a.code.now a.place.now a.wide.now a.at a.next c.requires.code_room in
    let (room, read, locations) = node-ready c.loop-i.invariant.0 c.loop-i-test.true c.from-p.ensures c.requires.code_room in
    let (k16, starts, small) = c.requires.k_lt_function_limit in (
      omega (arith, c.decreases),
      (
        (k16, fewer-starts _ _ _ _ starts (omega arith), read, small),
        ((near, locations), ((λ j lt. c.requires.all_allocated j (omega arith)), room)),
      ),
    )

pub function-loop-i-preserved : goal.function-loop-i-preserved
function-loop-i-preserved t c =
    let (st, places, widths) = c.loop-i.invariant in
    let v = c.node-reached in (
      advance st c.loop-i-test.true c.from-p.ensures v.ensures.walks v.ensures.cell_value,
      v.auto.place ∙ places,
      v.auto.wide ∙ widths,
    )

-- ---- a node: a constant

pub node-constant-requires-clause-code_room : goal.node-constant-requires-clause-code_room
node-constant-requires-clause-code_room t c =
    let a = c.args in
    let (o, l, finite) =
    constant-inlined (naming_of a.self.pass) a.self.table.now a.self.layout.now.locations a.k a.p a.from.cell a.frame.ins.now a.frame.first a.from.next c.node_at-node.result c.node_at-node.ensures
    c.requires.k_lt_function_limit.3 c.requires.k_lt_function_limit.2 c.in-Constant.v c.in-Constant.is in
    (same-room o c.requires.code_room, finite)

pub node-constant-requires-clause-untyped : goal.node-constant-requires-clause-untyped
node-constant-requires-clause-untyped t c =
    let a = c.args in
    let (k16, starts, read, small) = c.requires.k_lt_function_limit in
    constant-untyped a.self.table.now a.p c.node_at-node.result c.node_at-node.ensures small read c.in-Constant.v c.in-Constant.is

pub node-returns-in-Constant-clause-walks : goal.node-returns-in-Constant-clause-walks
node-returns-in-Constant-clause-walks t c =
    let a = c.args in
    let (o, l, finite) =
    constant-inlined (naming_of a.self.pass) a.self.table.now a.self.layout.now.locations a.k a.p a.from.cell a.frame.ins.now a.frame.first a.from.next c.node_at-node.result c.node_at-node.ensures
    c.requires.k_lt_function_limit.3 c.requires.k_lt_function_limit.2 c.in-Constant.v c.in-Constant.is in
    same_walks o c.constant.ensures.walks

-- ---- an operation

pub node-operation-requires-clause-code_room : goal.node-operation-requires-clause-code_room
node-operation-requires-clause-code_room t c =
    let a = c.args in
    let (l, o) = operation-part (naming_of a.self.pass) a.self.table.now a.self.layout.now.locations a.k a.p a.from.cell a.frame.ins.now a.frame.first a.from.next c.node_at-node.result c.node_at-node.ensures c.in-References.reads c.in-References.is in
    same-room (o (omega arith) _ (omega arith)) c.requires.code_room

pub node-returns-in-References-clause-walks : goal.node-returns-in-References-clause-walks
node-returns-in-References-clause-walks t c =
    let a = c.args in
    let (l, o) = operation-part (naming_of a.self.pass) a.self.table.now a.self.layout.now.locations a.k a.p a.from.cell a.frame.ins.now a.frame.first a.from.next c.node_at-node.result c.node_at-node.ensures c.in-References.reads c.in-References.is in
    same_walks (o (omega arith) _ (omega arith)) c.operation.ensures.walks

-- ---- a call

pub node-arguments-requires : goal.node-arguments-requires
node-arguments-requires t c =
    let a = c.args in
    let (f, i, n) = call-is a.self.table.now a.p c.node_at-node.result c.node_at-node.ensures c.in-Call.callee c.in-Call.reads c.in-Call.is in
    let x = (callee-fits a.self.table.now a.p c.requires.k_lt_function_limit.2 (call-form _ f)).1 in
    let l = count-is (naming_of a.self.pass) a.self.table.now a.self.layout.now.locations a.k a.p a.from.cell a.frame.ins.now a.frame.first a.from.next f c.in-Call.reads.count c.in-Call.callee n i in
    let (first, locations) = c.requires.first_le_unit_bound in
    let m = part-length a.self.layout.now.locations c.in-Call.reads.count a.from.cell (omega arith) {k = a.from.cell + c.in-Call.reads.count - a.from.cell} (omega arith) in
    (first, omega (arith, m, n, x))

-- the call is the function at its callee's position
pub node-function-reached-requires : goal.node-function-reached-requires
node-function-reached-requires t c =
    let a = c.args in
    let (k16, starts, read, small) = c.requires.k_lt_function_limit in
    let (f, i, n) = call-is a.self.table.now a.p c.node_at-node.result c.node_at-node.ensures c.in-Call.callee c.in-Call.reads c.in-Call.is in
    let x = (callee-fits a.self.table.now a.p read (call-form _ f)).1 in
    let l = count-is (naming_of a.self.pass) a.self.table.now a.self.layout.now.locations a.k a.p a.from.cell a.frame.ins.now a.frame.first a.from.next f c.in-Call.reads.count c.in-Call.callee n i in
    let (eg, lt) = c.in-Some.ensures in
    let (on, off) =
    callee-part (naming_of a.self.pass) a.self.table.now a.self.layout.now.locations a.k a.p a.from.cell a.frame.ins.now a.frame.first a.from.next f c.in-Call.reads.count c.in-Call.callee n i
    (omega arith) (omega arith) c.arguments.ensures (omega (arith, n, x)) eg in (
      omega (arith, c.decreases),
      (
        (omega arith, fewer-starts _ _ _ _ starts (omega arith), small),
        ((λ j lt. c.requires.all_allocated j (omega arith)), same-room (on (omega arith) lt) c.requires.code_room),
      ),
    )

pub node-returns-in-Some-clause-walks : goal.node-returns-in-Some-clause-walks
node-returns-in-Some-clause-walks t c =
    let a = c.args in
    let (k16, starts, read, small) = c.requires.k_lt_function_limit in
    let (f, i, n) = call-is a.self.table.now a.p c.node_at-node.result c.node_at-node.ensures c.in-Call.callee c.in-Call.reads c.in-Call.is in
    let y = (callee-fits a.self.table.now a.p read (call-form _ f)).1 in
    let l = count-is (naming_of a.self.pass) a.self.table.now a.self.layout.now.locations a.k a.p a.from.cell a.frame.ins.now a.frame.first a.from.next f c.in-Call.reads.count c.in-Call.callee n i in
    let (eg, lt) = c.in-Some.ensures in
    let (on, off) =
    callee-part (naming_of a.self.pass) a.self.table.now a.self.layout.now.locations a.k a.p a.from.cell a.frame.ins.now a.frame.first a.from.next f c.in-Call.reads.count c.in-Call.callee n i
    (omega arith) (omega arith) c.arguments.ensures (omega (arith, n, y)) eg in
    let x = same_walks (on (omega arith) lt) c.function-reached.ensures in
    record { written = x.written; noted = x.noted; measured = x.measured; end = x.end; next = x.next }

pub node-returns-in-None-clause-walks : goal.node-returns-in-None-clause-walks
node-returns-in-None-clause-walks t c =
    let a = c.args in
    let (k16, starts, read, small) = c.requires.k_lt_function_limit in
    let (f, i, n) = call-is a.self.table.now a.p c.node_at-node.result c.node_at-node.ensures c.in-Call.callee c.in-Call.reads c.in-Call.is in
    let x = (callee-fits a.self.table.now a.p read (call-form _ f)).1 in
    let l = count-is (naming_of a.self.pass) a.self.table.now a.self.layout.now.locations a.k a.p a.from.cell a.frame.ins.now a.frame.first a.from.next f c.in-Call.reads.count c.in-Call.callee n i in
    let (on, off) =
    callee-part (naming_of a.self.pass) a.self.table.now a.self.layout.now.locations a.k a.p a.from.cell a.frame.ins.now a.frame.first a.from.next f c.in-Call.reads.count c.in-Call.callee n i
    (omega arith) (omega arith) c.arguments.ensures (omega (arith, n, x)) refl in
    same_walks (off c.in-None.ensures.1) (nothing-walks a.self.pass)
