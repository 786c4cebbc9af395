use Rattle.std.proofs.Common.{ap, ◌∙◌, arith}
use Rattle.value.specs.declared.Value.TheVariants.{Matrix}
use Rattle.reader.proofs.Words.{other_constant}
use Rattle.reader.proofs.constants.constant_at.Goals as goal

pub returns-in_default : goal.returns-in_default
returns-in_default c = ap Matrix c.matrix_at.ensures ∙ other_constant c.args.s.now c.args.at c.args.ty (λ e. omega (arith, c.in_default)) (λ e. omega (arith, c.in_default))
