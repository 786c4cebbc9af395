use Prim.Native.Nat.{ℕ, ◌+◌, ◌*◌, ◌≤◌, ◌<◌}
use mathlib.Core.Path.{◌≡◌, refl, ap, ◌∙◌}
use mathlib.Core.Option.{some}
use native.Mathlib.Omega.{arith}
use lib.ListN.{length}
use lib.Seq.{sets}
use Rattle.base.proofs.Stores.{run_step, run-done, none_left}
use Rattle.graph.specs.Read.{reference}
use Rattle.reader.specs.Layout.{nodes_at, output_count, outputs_place}
use Rattle.reader.proofs.Passed.{Holds, function-holds}
use Rattle.sums.proofs.Accepted.{few-ports}
use Rattle.order.specs.Resolve as Resolve
use Rattle.compiler.specs.Locating.{port_code, output_codes}
use Rattle.compiler.proofs.Filling.{outputs-next}
use Rattle.base.specs.Limits.{port_limit}
use Rattle.compiler.proofs.allocate.allocate_outputs.Goals as goal

pub overflow_add-p : goal.overflow_add-p
overflow_add-p c =
    let holds : Holds c.args.table.now c.args.p =
    function-holds c.args.table.now c.args.p c.requires.1 in
    omega (arith, holds.head)

pub bounds-table-p : goal.bounds-table-p
bounds-table-p c =
    let holds : Holds c.args.table.now c.args.p =
    function-holds c.args.table.now c.args.p c.requires.1 in
    omega (arith, holds.head)

pub overflow_add-q : goal.overflow_add-q
overflow_add-q c =
    let holds : Holds c.args.table.now c.args.p =
    function-holds c.args.table.now c.args.p c.requires.1 in
    omega (arith, holds.head)

pub overflow_add-p-2 : goal.overflow_add-p-2
overflow_add-p-2 c =
    let holds : Holds c.args.table.now c.args.p =
    function-holds c.args.table.now c.args.p c.requires.1 in
    omega (arith, holds.head)

pub bounds-table-p-2 : goal.bounds-table-p-2
bounds-table-p-2 c =
    let holds : Holds c.args.table.now c.args.p =
    function-holds c.args.table.now c.args.p c.requires.1 in
    omega (arith, holds.head)

pub overflow_add-q-2 : goal.overflow_add-q-2
overflow_add-q-2 c =
    let holds : Holds c.args.table.now c.args.p =
    function-holds c.args.table.now c.args.p c.requires.1 in
    omega (arith, holds.inputs, c.from.ensures)

pub target-requires : goal.target-requires
target-requires c =
    let holds : Holds c.args.table.now c.args.p =
    function-holds c.args.table.now c.args.p c.requires.1 in
    let few : let n = c.from-count.result in
    let a = c.args in
    (n ≡ output_count a.table.now a.p) × (n ≤ 8) × (a.p + 6 + c.from.result ≡ outputs_place a.table.now a.p) =
    let x = c.from-count.ensures in
    let y = (few-ports c.args.table.now c.args.p c.requires.1).1 in
    (x, omega arith, ap (λ (m : ℕ). c.args.p + 6 + m) c.from.ensures) in
    let near : (c.loop-j.q + 4 ≤ length c.args.table.now) × (c.loop-j.j < 8) =
    let (x, y, z) = few in
    let t = c.loop-j-test.true in
    let q = c.loop-j.invariant.0 in
    let h = holds.outputs in
    (omega (arith, x, z, t, q, h), omega arith) in
    let (z, j) = near in let (k, p, few, read) = c.requires in (few, omega arith, read)

pub bounds-table-q : goal.bounds-table-q
bounds-table-q c =
    let holds : Holds c.args.table.now c.args.p =
    function-holds c.args.table.now c.args.p c.requires.1 in
    let few : let n = c.from-count.result in
    let a = c.args in
    (n ≡ output_count a.table.now a.p) × (n ≤ 8) × (a.p + 6 + c.from.result ≡ outputs_place a.table.now a.p) =
    let x = c.from-count.ensures in
    let y = (few-ports c.args.table.now c.args.p c.requires.1).1 in
    (x, omega arith, ap (λ (m : ℕ). c.args.p + 6 + m) c.from.ensures) in
    let near : (c.loop-j.q + 4 ≤ length c.args.table.now) × (c.loop-j.j < 8) =
    let (x, y, z) = few in
    let t = c.loop-j-test.true in
    let q = c.loop-j.invariant.0 in
    let h = holds.outputs in
    (omega (arith, x, z, t, q, h), omega arith) in
    let (z, j) = near in omega arith

pub bounds-outs-k : goal.bounds-outs-k
bounds-outs-k c =
    let holds : Holds c.args.table.now c.args.p =
    function-holds c.args.table.now c.args.p c.requires.1 in
    let few : let n = c.from-count.result in
    let a = c.args in
    (n ≡ output_count a.table.now a.p) × (n ≤ 8) × (a.p + 6 + c.from.result ≡ outputs_place a.table.now a.p) =
    let x = c.from-count.ensures in
    let y = (few-ports c.args.table.now c.args.p c.requires.1).1 in
    (x, omega arith, ap (λ (m : ℕ). c.args.p + 6 + m) c.from.ensures) in
    let near : (c.loop-j.q + 4 ≤ length c.args.table.now) × (c.loop-j.j < 8) =
    let (x, y, z) = few in
    let t = c.loop-j-test.true in
    let q = c.loop-j.invariant.0 in
    let h = holds.outputs in
    (omega (arith, x, z, t, q, h), omega arith) in
    let outs-fit : port_limit * c.args.k + c.loop-j.j < 128 =
    let (z, j) = near in let k = c.requires.0 in omega arith in
    let l = outs-fit in omega arith

pub loop-j-preserved : goal.loop-j-preserved
loop-j-preserved c =
    let l = c.loop-j in
    let a = c.args in
    let s = a.table.now in
    let ns = nodes_at a.n s a.at in
    let e =
    c.location_of.ensures ∙ ap (λ (v : ℕ). port_code a.allocated.now v c.from-port.result) (c.from-v.ensures ∙ c.target.ensures)
    ∙ ap (port_code a.allocated.now (Resolve.target ns (some (reference s (l.q + 1))))) c.from-port.ensures in
    (omega arith, run_step l.invariant.1 (outputs-next s a.allocated.now ns l.q c.loop-j-test.true e) (omega arith))

pub returns : goal.returns
unfolding output_codes
returns c =
    let few : let n = c.from-count.result in
    let a = c.args in
    (n ≡ output_count a.table.now a.p) × (n ≤ 8) × (a.p + 6 + c.from.result ≡ outputs_place a.table.now a.p) =
    let x = c.from-count.ensures in
    let y = (few-ports c.args.table.now c.args.p c.requires.1).1 in
    (x, omega arith, ap (λ (m : ℕ). c.args.p + 6 + m) c.from.ensures) in
    let a = c.args in
    let s = a.table.now in
    let ns = nodes_at a.n s a.at in
    let (x, y, z) = few in
    run-done c.loop-j.invariant.1 (none_left (λ m. output_codes s a.allocated.now ns m c.loop-j.q) c.loop-j-test.false refl)
    ∙ ap (λ (m : ℕ). sets a.outs.now (8 * a.k) (output_codes s a.allocated.now ns m (a.p + 6 + c.from.result))) x
    ∙ ap (λ (q : ℕ). sets a.outs.now (8 * a.k) (output_codes s a.allocated.now ns (output_count s a.p) q)) z
