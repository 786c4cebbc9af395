use Prim.Native.Nat.{ℕ, suc, ◌+◌, ◌*◌}
use mathlib.Core.Path.{◌≡◌, refl, ap, ◌∙◌, sym}
use mathlib.Core.List.{List, map}
use native.Mathlib.Omega.{arith}
use lib.ListN.{get_or, replicate}
use lib.Seq.{sets}
use Rattle.base.specs.Limits.{placed_limit}
use Rattle.base.specs.Bytes.{byte}
use Rattle.ports.specs.Ports.{width}
use Rattle.reader.specs.Layout.{input_count, function_at}
use Rattle.bytecode.specs.declared.Version.TheVariants.{V2}
use Rattle.lowering.specs.Naming.{name_step}
use Rattle.sums.specs.Position.{place_of, function_in, Started}
use Rattle.sums.specs.Answers.{types_by}
use Rattle.sums.proofs.Widths.{inputs_are}
use Rattle.compiler.specs.Whole.{first_by}
use Rattle.compiler.proofs.Assembly.{survey-room}
use Rattle.compiler.proofs.Filling.{addresses-part}
use Rattle.compiler.proofs.Head.{low, place, holds, input-count, output-count, inputs}
use Rattle.compiler.proofs.Texts.{surveyed}
use Rattle.compiler.proofs.placed.survey.Goals as goal

module _ {s starts : List ℕ} {k : ℕ} (b : Started s starts (suc k)) where
  first : {n : ℕ} → n ≡ byte s (get_or starts k 0 + 2) → name_step * n ≡ first_by V2 (function_in s k).inputs
  first e = ap (λ (n : ℕ). name_step * n) (inputs b e)

  -- the widths of the inputs
  input-widths : {n : ℕ} {old new : List ℕ} → n ≡ byte s (get_or starts k 0 + 2) → old ≡ replicate placed_limit 0 → new ≡ sets old 0 (map width (types_by 1 n s (get_or starts k 0 + 6)))
      → new ≡ sets (replicate placed_limit 0) 0 (map width (function_in s k).inputs)
  unfolding function_at
  input-widths {n} {old} {new} en eo e =
      let p = place_of s k in
      e
      ∙ ap (λ (ws : List ℕ). sets ws 0 (map width (types_by 1 n s (get_or starts k 0 + 6)))) eo
      ∙ ap (λ (q : ℕ). sets (replicate placed_limit 0) 0 (map width (types_by 1 n s (q + 6)))) (place b)
      ∙ ap (λ (m : ℕ). sets (replicate placed_limit 0) 0 (map width (types_by 1 m s (p + 6)))) (input-count b en).0
      ∙ ap (λ (ts : List ℕ). sets (replicate placed_limit 0) 0 (map width ts)) (inputs_are (input_count s p) s (p + 6))

-- ---- needs

pub offset_bounds-starts-k : goal.offset_bounds-starts-k
offset_bounds-starts-k c = omega (arith, low c.args.chosen.table.now c.args.chosen.k c.requires.accepted.0)

pub bounds-starts-k : goal.bounds-starts-k
bounds-starts-k c = omega (arith, low c.args.chosen.table.now c.args.chosen.k c.requires.accepted.0)

pub overflow_add-p : goal.overflow_add-p
overflow_add-p c = omega (arith, place c.requires.accepted.1, (holds c.requires.accepted.1).head)

pub bounds-table-p : goal.bounds-table-p
bounds-table-p c = omega (arith, place c.requires.accepted.1, (holds c.requires.accepted.1).head)

pub overflow_add-p-2 : goal.overflow_add-p-2
overflow_add-p-2 c = omega (arith, place c.requires.accepted.1, (holds c.requires.accepted.1).head)

pub bounds-table-p-2 : goal.bounds-table-p-2
bounds-table-p-2 c = omega (arith, place c.requires.accepted.1, (holds c.requires.accepted.1).head)

pub overflow_add-p-3 : goal.overflow_add-p-3
overflow_add-p-3 c = omega (arith, place c.requires.accepted.1, (holds c.requires.accepted.1).head)

pub input_widths-requires : goal.input_widths-requires
input_widths-requires c =
    let b = c.requires.accepted.1 in
    let (e, l) = input-count b c.from-inputs.ensures in
    let p = place b in
    let h = (holds b).inputs in
    (omega (arith, e, p, h), l)

pub function-requires-clause-k_lt_function_limit : goal.function-requires-clause-k_lt_function_limit
function-requires-clause-k_lt_function_limit c = (low c.args.chosen.table.now c.args.chosen.k c.requires.accepted.0, c.requires.accepted.1, c.requires.accepted.0.small)

pub function-requires-clause-code_room : goal.function-requires-clause-code_room
function-requires-clause-code_room c =
    let (accepted, started, prepared) = c.requires.accepted in
    rw (first started c.from-inputs.ensures) (survey-room accepted c.requires.measured.0 prepared)

pub overflow_mul-cells : goal.overflow_mul-cells
overflow_mul-cells c =
    let k = low c.args.chosen.table.now c.args.chosen.k c.requires.accepted.0 in
    let (n, l) = output-count c.requires.accepted.1 c.from-outputs.ensures in
    omega arith

pub overflow_mul-cells-2 : goal.overflow_mul-cells-2
overflow_mul-cells-2 c =
    let k = low c.args.chosen.table.now c.args.chosen.k c.requires.accepted.0 in
    let (n, l) = output-count c.requires.accepted.1 c.from-outputs.ensures in
    omega arith

pub overflow_add-cells : goal.overflow_add-cells
overflow_add-cells c =
    let k = low c.args.chosen.table.now c.args.chosen.k c.requires.accepted.0 in
    let (n, l) = output-count c.requires.accepted.1 c.from-outputs.ensures in
    omega arith

pub offset_bounds-outs-k : goal.offset_bounds-outs-k
offset_bounds-outs-k c =
    let k = low c.args.chosen.table.now c.args.chosen.k c.requires.accepted.0 in
    let (n, l) = output-count c.requires.accepted.1 c.from-outputs.ensures in
    omega arith

pub slice_bounds-cells-end : goal.slice_bounds-cells-end
slice_bounds-cells-end c =
    let k = low c.args.chosen.table.now c.args.chosen.k c.requires.accepted.0 in
    let (n, l) = output-count c.requires.accepted.1 c.from-outputs.ensures in
    omega arith

pub note_operands-requires : goal.note_operands-requires
note_operands-requires c =
    let (e, l) = input-count c.requires.accepted.1 c.from-inputs.ensures in
    omega arith

pub returns : goal.returns
returns c =
    let (accepted, started, prepared) = c.requires.accepted in
    let (measured, places, widths) = c.requires.measured in
    let e = c.from-inputs.ensures in
    let (n, l) = output-count started c.from-outputs.ensures in
    let k = low c.args.chosen.table.now c.args.chosen.k accepted in
    surveyed accepted measured prepared places (inputs started e) (first started e) (input-widths started e widths c.input_widths.ensures) c.function.ensures n refl
    (sym (addresses-part c.args.layout.now.outs c.args.layout.now.ins (name_step * c.from-inputs.result) c.from-outputs.result (8 * c.args.chosen.k) (omega arith) (omega arith))) c.note_operands.ensures
