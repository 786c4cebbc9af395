-- `executor::operators::operand`: the operand of the list.
use Prim.Native.Nat.{◌+◌, ◌*◌, ◌<◌}
use mathlib.Core.Path.{ap, sym, ◌∙◌}
use native.Mathlib.Omega.{arith}
use Rattle.base.specs.Bytes.{u16}
use Rattle.value.specs.Steps.{operands_of}
use Rattle.executor.proofs.Stored.{given-at, loadable-at}
use Rattle.executor.proofs.operators.operand.Goals as goal

pub operand_at-requires : goal.operand_at-requires
operand_at-requires g c =
    let n = operands_of g.T.Step.operator in
    let within : c.args.i < n = omega (arith, g.met.T.Step.operands_are, c.OPERANDS.ensures, c.if-i-OPERANDS.true) in
    (omega (arith, c.requires.fits), loadable-at c.args.work.now c.args.code.now _ n c.args.at c.args.i c.requires.operands within)

pub returns-then-i-OPERANDS : goal.returns-then-i-OPERANDS
returns-then-i-OPERANDS g c =
    let m = c.args.work.now in
    let s = c.args.code.now in
    let shape = g.S.Shape in
    let laws = g.met.S.Shape in
    let n = operands_of g.T.Step.operator in
    let within : c.args.i < n = omega (arith, g.met.T.Step.operands_are, c.OPERANDS.ensures, c.if-i-OPERANDS.true) in
    c.operand_at.ensures ∙ sym (laws.of_is _)
    ∙ ap shape.of (sym (given-at m s shape.type_byte n c.args.at c.args.i within ∙ laws.at_is m (u16 s (c.args.at + 2 * c.args.i))))
