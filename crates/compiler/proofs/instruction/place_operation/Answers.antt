-- `instruction::place_operation`: the head, then the places of the operands.
use mathlib.Core.Path.{refl, sym, ap, ◌∙◌}
use mathlib.Core.List.{[], ◌∷◌, map, append-nil}
use native.Mathlib.Omega.{arith}
use lib.ListN.{length, length-map}
use lib.Seq.{sets, length-sets}
use Rattle.base.specs.Bytes.{all_bytes, bytes_of}
use Rattle.compiler.specs.Emit.{address_of, relocate}
use Rattle.compiler.proofs.Single.{placed-fits, placed}
use Rattle.compiler.proofs.instruction.place_operation.Goals as goal

pub operands-requires : goal.operands-requires
operands-requires c =
    let a = c.args in
    let address = address_of a.frame.ins.now a.frame.first in
    let l = length-map a.cells.now address in
    let (x, y) = placed-fits a.place.now a.kind a.ty (map address a.cells.now) [] a.from.next c.requires.code_room in
    let (first, cells) = c.requires.first_le_unit_bound in
    let k = ap length c.put_addressed-start.ensures.0 ∙ length-sets a.code.now a.from.at (a.kind ∷ a.ty ∷ bytes_of 2 c.relocate.result) in
    let f = c.put_addressed-start.ensures.1 in
    (first, omega arith)

pub returns : goal.returns
returns c =
    let a = c.args in
    let read = map (address_of a.frame.ins.now a.frame.first) a.cells.now in
    let l = length-map a.cells.now (address_of a.frame.ins.now a.frame.first) in
    let stored = c.operands.ensures ∙ ap (sets c.put_addressed-start.new.code c.put_addressed-start.result) (sym (append-nil (all_bytes 2 (map (relocate a.place.now) read)))) in (
      (λ m wide. placed a.place.now a.kind a.ty read [] a.from.next c.relocate.ensures c.put_addressed-start.ensures.0 c.put_addressed-start.ensures.1 stored (omega arith)),
      refl,
    )
