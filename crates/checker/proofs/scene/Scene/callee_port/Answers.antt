use Rattle.std.proofs.Common.{ap, sym, ◌∙◌}
use Rattle.std.proofs.Math.ListN.{get_elem?}
use Rattle.std.proofs.Math.Option.{Option}
use Rattle.graph.specs.Graph.{Function}
use Rattle.graph.specs.Types.{outputs_of}
use Rattle.checker.specs.Answers.{port_of}
use Rattle.checker.proofs.scene.Scene.callee_port.Goals as goal

pub output_port-requires : goal.output_port-requires
output_port-requires c = c.in_ok-place.ensures.0

pub returns : goal.returns
returns c =
    c.output_port.ensures ∙ ap (λ (o : Option Function). port_of (get_elem? (outputs_of o) c.args.port)) (sym c.in_ok-place.ensures.1)
