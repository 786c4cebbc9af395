-- What is asked of the parts of a table by themselves: ranges of counts, ids and type bytes, kinds and their payloads, and constants.
use Rattle.std.specs.Prelude.{ℕ, ◌≤◌, ◌≡◌, true, List, length}
use Rattle.base.specs.Lists.{Each, Word, every}
use Rattle.ports.specs.Kinds.{Kind, kind_of}
use Rattle.ports.specs.declared.Form.TheVariants.{Constant, References, Call}
use Rattle.ports.specs.Ports.{arity, constant_words, form_of, legal}
use Rattle.value.specs.Values.{constant_word}
use Rattle.value.specs.Typed.{TypeCode}
use Rattle.graph.specs.Graph.{Payload, consts, refs, calls, Node, Function}
use Rattle.graph.specs.Types.{output_types}
use Rattle.base.specs.Limits.{port_limit}

abbrev pub FormedPayload : Kind → Payload → Type 0
FormedPayload k (consts ws) = (form_of k ≡ Constant) × (length ws ≡ constant_words k) × (every constant_word ws ≡ true) × Each Word ws
FormedPayload k (refs rs) = (form_of k ≡ References) × (length rs ≡ arity k)
FormedPayload k (calls c rs) = (form_of k ≡ Call) × (length rs ≤ port_limit)

pub record FormedNode (n : Node) : Type 0 where
  pub id : 1 ≤ n.id
  pub legal : legal (kind_of n.kind) n.type ≡ true
  pub payload : FormedPayload (kind_of n.kind) n.payload

pub record Formed (f : Function) : Type 0 where
  pub id : 1 ≤ f.id
  pub inputs : length f.inputs ≤ port_limit
  pub input_types : Each TypeCode f.inputs
  pub some-output : 1 ≤ length f.outputs
  pub outputs : length f.outputs ≤ port_limit
  pub output_types : Each TypeCode (output_types f.outputs)
  pub nodes : Each FormedNode f.nodes

abbrev pub AllFormed : List Function → Type 0
AllFormed = Each Formed

-- no function has more nodes than the limit
abbrev pub AllWithin : ℕ → List Function → Type 0
AllWithin limit = Each (λ f. length f.nodes ≤ limit)
