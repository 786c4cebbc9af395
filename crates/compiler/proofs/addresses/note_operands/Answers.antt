use mathlib.Core.Path.{sym, ◌∙◌}
use lib.Seq.{set_out}
use Rattle.compiler.specs.Emit.{address_of}
use Rattle.compiler.proofs.Filling.{map-next, map-none, note-more, note-done}
use Rattle.compiler.proofs.addresses.note_operands.Goals as goal
use Rattle.compiler.proofs.addresses.note_operands.Goals.{then-v-place, else-v-place}

pub loop-e-preserved : goal.loop-e-preserved
loop-e-preserved c =
    let f = c.args.frame in
    let e = map-next (address_of f.ins.now f.first) c.args.cells.now c.loop-e-test.true c.address.ensures in
    note-more c.loop-e.invariant e c.from-v.ensures (elim c.if-v-place.branch [ then-v-place w ↦ w.place-is | else-v-place w ↦ w.place-is ∙ sym (set_out _ _ _ w.if-v-place.false) ])

pub returns : goal.returns
returns c =
    let f = c.args.frame in
    note-done c.loop-e.invariant (map-none (address_of f.ins.now f.first) c.args.cells.now c.loop-e-test.false)
