use mathlib.Core.Path.{refl}
use mathlib.Core.List.{map}
use Rattle.compiler.specs.Emit.{address_of}
use Rattle.compiler.proofs.Single.{surveyed}
use Rattle.compiler.proofs.instruction.survey_instruction.Goals as goal

pub returns : goal.returns
returns c =
    let a = c.args in (
      (λ code constants. surveyed a.kind a.ty (map (address_of a.frame.ins.now a.frame.first) a.cells.now) constants c.ports_of.ensures c.result_words-w.ensures.value c.reader_number.ensures c.note_operands.ensures c.note_width.ensures),
      refl,
    )
