-- The types that a node wants at its references and gives at its ports, and the type of a reference.
use Rattle.std.specs.Prelude.{ℕ, cond, List, [], map, eqb}
use Rattle.std.proofs.Math.Option.{Option, none, some}
use Rattle.std.proofs.Math.ListN.{get_elem?}
use Rattle.ports.specs.Kinds.{kind_of}
use Rattle.ports.specs.Ports.{takes, gives}
use Rattle.graph.specs.Graph.{Ref, Payload, consts, refs, calls, Node, Output, Function}
use Rattle.graph.specs.Look.{find_node, find_function}

-- the inputs and outputs of the function i among the earlier ones
abbrev pub inputs_of : Option Function → List ℕ
inputs_of none = []
inputs_of (some f) = f.inputs

abbrev pub output_types : List Output → List ℕ
output_types = map (λ o. o.type)

abbrev pub outputs_of : Option Function → List ℕ
outputs_of none = []
outputs_of (some f) = output_types f.outputs

abbrev pub wants_of : List Function → Node → Payload → List ℕ
wants_of early n (consts ws) = []
wants_of early n (refs rs) = takes (kind_of n.kind) n.type
wants_of early n (calls c rs) = inputs_of (find_function c early)

abbrev pub gives_of : List Function → Node → Payload → List ℕ
gives_of early n (consts ws) = gives (kind_of n.kind) n.type
gives_of early n (refs rs) = gives (kind_of n.kind) n.type
gives_of early n (calls c rs) = outputs_of (find_function c early)

abbrev pub gives_at : List Function → Option Node → List ℕ
gives_at early none = []
gives_at early (some n) = gives_of early n n.payload

-- the type that a reference has in the function f, if it has one
abbrev pub ref_type : List Function → Function → Ref → Option ℕ
ref_type early f r = get_elem? (cond (eqb r.node 0) f.inputs (gives_at early (find_node r.node f.nodes))) r.port
