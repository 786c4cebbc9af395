use Rattle.std.proofs.Common.{◌≡◌, sym, ap, arith}
use Rattle.base.specs.Outcome.{fault}
use Rattle.base.specs.Refusals.{number}
use Rattle.lowering.specs.Answers.{compiled}
use Rattle.quetlapin.specs.Compiling.{answer_of, code_after}
use Rattle.quetlapin.proofs.Choosing.{unknown-number}
use Rattle.quetlapin.proofs.Compiling.{refused}
use Rattle.quetlapin.proofs.compile.Goals.{After-unknown_version}
use Rattle.quetlapin.proofs.compile.Goals as goal

-- there is no such version
unknown : (c : After-unknown_version) → let r = c.unknown_version.result in compiled c.args.table.now c.args.id c.args.version c.args.code.now ≡ fault (number r.fault) r.place
unknown c =
    refused c.args.table.now c.args.id c.args.version c.args.code.now _ _
    (c.unknown_version.ensures c.args.version (unknown-number c.args.version (λ e. omega (arith, c.in_default)) (λ e. omega (arith, c.in_default))))

pub returns-in_default-clause-value : goal.returns-in_default-clause-value
returns-in_default-clause-value c = sym (ap answer_of (unknown (goal.at.returns-in_default-clause-value c).After-unknown_version))

pub returns-in_default-clause-code_after : goal.returns-in_default-clause-code_after
returns-in_default-clause-code_after c = sym (ap (code_after c.args.code.now) (unknown (goal.at.returns-in_default-clause-code_after c).After-unknown_version))
