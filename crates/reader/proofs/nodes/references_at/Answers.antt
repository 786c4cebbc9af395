use Rattle.std.proofs.Common.{ap, ◌∙◌}
use Rattle.ports.specs.declared.Ports.{Ports}
use Rattle.reader.specs.Records.{operands_at}
use Rattle.reader.proofs.Passed.{form-is}
use Rattle.reader.proofs.AsRead.{operand-reads}
use Rattle.reader.proofs.nodes.references_at.Goals as goal

pub returns : goal.returns
returns c = let a = c.args in
    let s = a.s.now in
    let e = c.from.ensures ∙ ap (λ (r : Ports). r.operands) c.requires.1 in
    (ap (operands_at a.at) c.from.ensures, operand-reads s a.at c.requires.0 (form-is s a.at a.row c.requires.1 _ c.requires.2) c.from.result e)
