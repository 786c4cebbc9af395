-- 01's equations for what a graph means, as a statement: with no depth, no order of the nodes and no order of the functions.
use Rattle.std.specs.Prelude.{◌≡◌, List}
use Rattle.std.proofs.Math.Option.{some}
use Rattle.base.specs.Lists.{Is}
use Rattle.value.specs.declared.Value.{Value}
use Rattle.value.specs.Typed.{Typed}
use Rattle.graph.specs.Graph.{Node, Function}
use Rattle.graph.specs.Look.{reads, output_refs}
use Rattle.graph.specs.Types.{output_types}
use Rattle.graph.specs.Meaning.{all, Call, Env, ref_means, payload_means}

-- a node's result on its references' meanings, or for a call the callee's outputs on the arguments' meanings
pub record Equation (call : Call) (args : List Value) (env : Env) (n : Node) : Type 0 where
  pub operands : List Value
  pub meant : all (ref_means args env) (reads n) ≡ some operands
  pub result : env n.id ≡ payload_means call n.kind n.payload operands

-- an assignment of values to nodes that is right at each of them
abbrev pub Solves : Call → List Value → Env → List Node → Type 0
Solves call args env ns = (n : Node) → Is n ns → Equation call args env n

-- a function on arguments: some assignment is right at its nodes, and what it means are its outputs' meanings there
pub record Meant (call : Call) (f : Function) (args : List Value) : Type 0 where
  pub env : Env
  pub solves : Solves call args env f.nodes
  pub outputs : call f.id args ≡ all (ref_means args env) (output_refs f.outputs)

-- every function of a table, on all arguments of its types
abbrev pub Model : List Function → Call → Type 0
Model fs call = (f : Function) → Is f fs → (args : List Value) → Typed f.inputs args → Meant call f args

-- the one meaning of the functions, on all arguments of their types: it has values of their outputs' types, it satisfies the
-- equations, and whatever satisfies them agrees with it
pub record OneMeaning (fs : List Function) (call : Call) : Type 0 where
  pub defined : (f : Function) → Is f fs → (args : List Value) → Typed f.inputs args
      → (vs : List Value) × (call f.id args ≡ some vs) × Typed (output_types f.outputs) vs
  pub model : Model fs call
  pub only : (other : Call) → Model fs other → (f : Function) → Is f fs → (args : List Value) → Typed f.inputs args
      → other f.id args ≡ call f.id args
