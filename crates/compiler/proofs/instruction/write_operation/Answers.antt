-- `instruction::write_operation`: the head, then the addresses of the operands.
use Prim.Native.Nat.{ℕ, ◌+◌}
use mathlib.Core.Path.{refl, sym, ap, ◌∙◌}
use mathlib.Core.List.{List, [], map, append-nil}
use native.Mathlib.Omega.{arith}
use lib.ListN.{set, length-set, length-map}
use lib.Seq.{sets}
use Rattle.std.proofs.lemmas.List.{map-id}
use Rattle.base.specs.Bytes.{all_bytes}
use Rattle.compiler.specs.Emit.{address_of}
use Rattle.compiler.proofs.Single.{single-fits, emitted}
use Rattle.compiler.proofs.instruction.write_operation.Goals as goal

pub operands-requires : goal.operands-requires
operands-requires c =
    let a = c.args in
    let address = address_of a.frame.ins.now a.frame.first in
    let l = length-map a.cells.now address in
    let (x, y) = single-fits a.kind a.ty (map address a.cells.now) [] c.ports_of.ensures c.result_words-w.ensures.value c.requires.code_room in
    let (first, cells) = c.requires.first_le_unit_bound in
    (first, simp length-set (omega arith))

pub returns : goal.returns
returns c =
    let a = c.args in
    let read = map (address_of a.frame.ins.now a.frame.first) a.cells.now in
    let l = length-map a.cells.now (address_of a.frame.ins.now a.frame.first) in
    let stored =
    c.operands.ensures
    ∙ ap (λ (xs : List ℕ). sets (set (set a.code.now a.from.at a.kind) (a.from.at + 1) a.ty) (a.from.at + 2) (all_bytes 2 xs)) (map-id read)
    ∙ ap (sets (set (set a.code.now a.from.at a.kind) (a.from.at + 1) a.ty) (a.from.at + 2)) (sym (append-nil (all_bytes 2 read))) in
    ((λ m place wide. emitted a.kind a.ty read [] c.ports_of.ensures c.result_words-w.ensures.value stored (omega arith)), refl)
