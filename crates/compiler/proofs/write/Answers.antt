use Prim.Native.Nat.{ℕ, ◌+◌, ◌-◌, ◌*◌}
use mathlib.Core.Path.{◌≡◌, ap, ◌∙◌, sym}
use mathlib.Core.List.{List, []}
use native.Mathlib.Omega.{arith}
use lib.ListN.{length}
use lib.Seq.{sets}
use Rattle.bytecode.specs.Version.{number}
use Rattle.bytecode.specs.Code.{header_code}
use Rattle.sums.specs.Position.{function_in}
use Rattle.compiler.specs.declared.Pass.{Pass}
use Rattle.compiler.specs.Emit.{naming_of, function_inlined, Walks}
use Rattle.compiler.specs.Whole.{first_behind, first_by, Measured}
use Rattle.compiler.proofs.Head.{low, place, holds, input-count, output-count, inputs, entries}
use Rattle.compiler.proofs.Filling.{addresses-part, part-length}
use Rattle.compiler.proofs.Assembly.{text-length, walk-room, first-low, out-room, assembled}
use Rattle.compiler.proofs.write.Goals as goal

-- the first address behind the inputs
first-is : (pass : Pass) {s : List ℕ} {k count words outputs : ℕ} → Measured (naming_of pass) s k count words outputs → {n first : ℕ}
    → first ≡ first_behind (naming_of pass) words n → n ≡ length (function_in s k).inputs → first ≡ first_by (naming_of pass) (function_in s k).inputs
first-is pass m {n} e en = e ∙ ap (λ (w : ℕ). first_behind (naming_of pass) w n) m.arguments ∙ ap (first_behind (naming_of pass) _) en

pub offset_bounds-starts-k : goal.offset_bounds-starts-k
offset_bounds-starts-k c = omega (arith, low c.args.chosen.table.now c.args.chosen.k c.requires.accepted.0)

pub bounds-starts-k : goal.bounds-starts-k
bounds-starts-k c = omega (arith, low c.args.chosen.table.now c.args.chosen.k c.requires.accepted.0)

pub overflow_add-p : goal.overflow_add-p
overflow_add-p c = omega (arith, place c.requires.accepted.1, (holds c.requires.accepted.1).head)

pub bounds-table-p : goal.bounds-table-p
bounds-table-p c = omega (arith, place c.requires.accepted.1, (holds c.requires.accepted.1).head)

pub overflow_add-p-2 : goal.overflow_add-p-2
overflow_add-p-2 c = omega (arith, place c.requires.accepted.1, (holds c.requires.accepted.1).head)

pub bounds-table-p-2 : goal.bounds-table-p-2
bounds-table-p-2 c = omega (arith, place c.requires.accepted.1, (holds c.requires.accepted.1).head)

pub overflow_add-p-3 : goal.overflow_add-p-3
overflow_add-p-3 c = omega (arith, place c.requires.accepted.1, (holds c.requires.accepted.1).head)

pub overflow_mul-cells : goal.overflow_mul-cells
overflow_mul-cells c =
    let k = low c.args.chosen.table.now c.args.chosen.k c.requires.accepted.0 in
    let (n, l) = output-count c.requires.accepted.1 c.from-outputs.ensures in
    omega arith

pub overflow_mul-cells-2 : goal.overflow_mul-cells-2
overflow_mul-cells-2 c =
    let k = low c.args.chosen.table.now c.args.chosen.k c.requires.accepted.0 in
    let (n, l) = output-count c.requires.accepted.1 c.from-outputs.ensures in
    omega arith

pub overflow_add-cells : goal.overflow_add-cells
overflow_add-cells c =
    let k = low c.args.chosen.table.now c.args.chosen.k c.requires.accepted.0 in
    let (n, l) = output-count c.requires.accepted.1 c.from-outputs.ensures in
    omega arith

pub offset_bounds-outs-k : goal.offset_bounds-outs-k
offset_bounds-outs-k c =
    let k = low c.args.chosen.table.now c.args.chosen.k c.requires.accepted.0 in
    let (n, l) = output-count c.requires.accepted.1 c.from-outputs.ensures in
    omega arith

pub slice_bounds-cells-end : goal.slice_bounds-cells-end
slice_bounds-cells-end c =
    let k = low c.args.chosen.table.now c.args.chosen.k c.requires.accepted.0 in
    let (n, l) = output-count c.requires.accepted.1 c.from-outputs.ensures in
    omega arith

pub overflow_add-p-4 : goal.overflow_add-p-4
overflow_add-p-4 c = omega (arith, entries c.requires.accepted.1 c.from-inputs.ensures, (holds c.requires.accepted.1).inputs)

pub first_behind-first-requires : goal.first_behind-first-requires
first_behind-first-requires c = (input-count c.requires.accepted.1 c.from-inputs.ensures).1

pub put_header-requires : goal.put_header-requires
put_header-requires c =
    let e = text-length c.args.pass c.requires.accepted.0 c.requires.measured.0 c.requires.accepted.2 c.args.place.now c.args.words in
    let l = c.requires.measured.2 in
    omega arith

pub function-r-requires : goal.function-r-requires
function-r-requires c =
    let (accepted, started, prepared) = c.requires.accepted in
    let (measured, few, room) = c.requires.measured in
    let first = first-is c.args.pass measured c.first_behind-first.ensures (inputs started c.from-inputs.ensures) in
    let e = c.put_header.auto.code in
    record {
      k_lt_function_limit = (low c.args.chosen.table.now c.args.chosen.k accepted, started, accepted.small);
      all_allocated = prepared.allocated;
      code_room = rw first (walk-room c.args.pass accepted measured prepared c.args.place.now c.args.words (omega arith));
    }

pub put_outputs-requires : goal.put_outputs-requires
put_outputs-requires c =
    let a = c.args in
    let (accepted, started, prepared) = c.requires.accepted in
    let (measured, few, room) = c.requires.measured in
    let k = low a.chosen.table.now a.chosen.k accepted in
    let (n, l) = output-count started c.from-outputs.ensures in
    let first = first-is a.pass measured c.first_behind-first.ensures (inputs started c.from-inputs.ensures) in
    let at = entries started c.from-inputs.ensures in
    let q = (holds started).outputs in
    let w = first-low a.pass accepted measured prepared in
    let cells = part-length a.layout.now.outs c.from-outputs.result (8 * a.chosen.k) (omega arith) {k = 8 * a.chosen.k + c.from-outputs.result - 8 * a.chosen.k} (omega arith) in
    let header : c.put_header.new.code ≡ sets a.code.now 0 (header_code (number (naming_of a.pass)) a.chosen.sizes.arguments a.chosen.sizes.outputs a.chosen.sizes.instructions a.words) =
    c.put_header.ensures
    ∙ ap (λ (v : ℕ). sets a.code.now 0 (header_code v a.chosen.sizes.arguments a.chosen.sizes.outputs a.chosen.sizes.instructions a.words)) c.version_number.ensures in
    let walked : Walks a.pass c.from-inputs.result c.put_header.new.code a.place.now [] c.function-r.new.code c.function-r.new.place c.function-r.new.wide 12
    (function_inlined (naming_of a.pass) a.chosen.table.now a.chosen.k a.layout.now.ins (first_by (naming_of a.pass) (function_in a.chosen.table.now a.chosen.k).inputs)) c.function-r.result =
    rw (sym first) c.function-r.ensures in
    record {
      n_in_bounds = (omega (arith, cells, n, at, q), omega (arith, cells, l), omega (arith, first, w));
      entries_in_bounds = rw cells (out-room a.pass accepted measured prepared a.code.now a.place.now [] a.words n at header walked room);
    }

pub returns : goal.returns
returns c =
    let a = c.args in
    let (accepted, started, prepared) = c.requires.accepted in
    let (measured, few, room) = c.requires.measured in
    let k = low a.chosen.table.now a.chosen.k accepted in
    let (n, l) = output-count started c.from-outputs.ensures in
    let first = first-is a.pass measured c.first_behind-first.ensures (inputs started c.from-inputs.ensures) in
    let at = entries started c.from-inputs.ensures in
    let parted = addresses-part a.layout.now.outs a.layout.now.ins c.first_behind-first.result c.from-outputs.result (8 * a.chosen.k) (omega arith) {k = 8 * a.chosen.k + c.from-outputs.result - 8 * a.chosen.k} (omega arith) in
    let cells = part-length a.layout.now.outs c.from-outputs.result (8 * a.chosen.k) (omega arith) {k = 8 * a.chosen.k + c.from-outputs.result - 8 * a.chosen.k} (omega arith) in
    let header : c.put_header.new.code ≡ sets a.code.now 0 (header_code (number (naming_of a.pass)) a.chosen.sizes.arguments a.chosen.sizes.outputs a.chosen.sizes.instructions a.words) =
    c.put_header.ensures
    ∙ ap (λ (v : ℕ). sets a.code.now 0 (header_code v a.chosen.sizes.arguments a.chosen.sizes.outputs a.chosen.sizes.instructions a.words)) c.version_number.ensures in
    let walked : Walks a.pass c.from-inputs.result c.put_header.new.code a.place.now [] c.function-r.new.code c.function-r.new.place c.function-r.new.wide 12
    (function_inlined (naming_of a.pass) a.chosen.table.now a.chosen.k a.layout.now.ins (first_by (naming_of a.pass) (function_in a.chosen.table.now a.chosen.k).inputs)) c.function-r.result =
    rw (sym first) c.function-r.ensures in
    assembled a.pass accepted measured prepared a.code.now a.place.now [] a.words n at header walked (rw (sym first) (sym parted)) cells c.put_outputs.ensures
