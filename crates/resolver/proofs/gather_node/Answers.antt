use Rattle.std.proofs.Common.{sym, ◌∙◌, length, arith, rules}
use Rattle.std.proofs.lemmas.Grind.{same_number_lists}
use Rattle.graph.specs.Read.{references}
use Rattle.resolver.specs.Groups.{ids_of}
use Rattle.resolver.proofs.Gathering.{ids-size, ids-at}
use Rattle.resolver.proofs.gather_node.Goals as goal

pub returns : goal.returns
returns c =
    let a = c.args in
    let n = length a.wanted.now in
    same_number_lists c.loop-j.wanted (ids_of (references n a.s.now a.first)) (omega (arith, ids-size a.s.now n a.first))
    (λ k h. c.loop-j.invariant k (search rules) ∙ sym (ids-at a.s.now n a.first k (omega arith)))
