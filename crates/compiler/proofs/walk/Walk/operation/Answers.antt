-- `walk::Walk::operation`, by the pass.
use mathlib.Core.List.{[], map}
use Rattle.compiler.specs.Emit.{address_of}
use Rattle.compiler.proofs.Single.{walks-in}
use Rattle.compiler.proofs.walk.Walk.operation.Goals as goal

pub returns-in-Survey-clause-walks : goal.returns-in-Survey-clause-walks
returns-in-Survey-clause-walks c =
    let a = c.args in
    walks-in c.in-Survey.is a.kind a.ty (map (address_of a.frame.ins.now a.frame.first) a.cells.now) [] (c.survey_instruction.ensures.0 a.code.now [])

pub returns-in-Sequential-clause-walks : goal.returns-in-Sequential-clause-walks
returns-in-Sequential-clause-walks c =
    let a = c.args in
    walks-in c.in-Sequential.is a.kind a.ty (map (address_of a.frame.ins.now a.frame.first) a.cells.now) [] (c.write_operation.ensures.0 a.self.inputs a.place.now a.wide.now)

pub returns-in-Addressed-clause-walks : goal.returns-in-Addressed-clause-walks
returns-in-Addressed-clause-walks c =
    let a = c.args in
    walks-in c.in-Addressed.is a.kind a.ty (map (address_of a.frame.ins.now a.frame.first) a.cells.now) [] (c.place_operation.ensures.0 a.self.inputs a.wide.now)
