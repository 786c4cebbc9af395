-- `walk::Walk::constant`, by the pass.
use mathlib.Core.List.{[]}
use Rattle.value.specs.Values.{words_of}
use Rattle.compiler.proofs.Single.{walks-in}
use Rattle.compiler.proofs.walk.Walk.constant.Goals as goal

pub returns-in-Survey-clause-walks : goal.returns-in-Survey-clause-walks
returns-in-Survey-clause-walks c =
    let a = c.args in
    walks-in c.in-Survey.is a.kind a.ty [] (words_of a.v) (c.survey_instruction.ensures.0 a.code.now (words_of a.v))

pub returns-in-Sequential-clause-walks : goal.returns-in-Sequential-clause-walks
returns-in-Sequential-clause-walks c =
    let a = c.args in
    walks-in c.in-Sequential.is a.kind a.ty [] (words_of a.v) (c.write_constant.ensures.0 a.self.inputs a.place.now a.wide.now)

pub returns-in-Addressed-clause-walks : goal.returns-in-Addressed-clause-walks
returns-in-Addressed-clause-walks c =
    let a = c.args in
    walks-in c.in-Addressed.is a.kind a.ty [] (words_of a.v) (c.place_constant.ensures.0 a.self.inputs a.wide.now)
