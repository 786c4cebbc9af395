-- What a graph means.
use Rattle.std.specs.Prelude.{ℕ, zero, suc, cond, List, [], ◌∷◌, eqb, length}
use Rattle.std.proofs.Math.Option.{Option, none, some}
use Rattle.std.proofs.Math.ListN.{get_elem?}
use Rattle.value.specs.declared.Value.{Value}
use Rattle.value.specs.Values.{all_words, values_of}
use Rattle.ports.specs.Kinds.{kind_of}
use Rattle.value.specs.Results.{results}
use Rattle.graph.specs.Graph.{Ref, Payload, consts, refs, calls, Node, Function}
use Rattle.graph.specs.Table.{chosen}
use Rattle.graph.specs.Look.{find_node, reads, output_refs}

module _ {A B : Type 0} where
  abbrev pub bind : Option A → (A → Option B) → Option B
  bind none k = none
  bind (some a) k = k a

-- all of them, if each is defined
module _ {A B : Type 0} where
  abbrev pub all : (A → Option B) → List A → Option (List B)
  all g [] = some []
  all g (x ∷ xs) = bind (g x) (λ y. bind (all g xs) (λ ys. some (y ∷ ys)))

-- what the function of an id means on arguments
abbrev pub Call : Type 0
Call = ℕ → List Value → Option (List Value)

-- what the node of an id gives at its ports
abbrev pub Env : Type 0
Env = ℕ → Option (List Value)

-- a reference: the input's argument, or the node's value at the port
abbrev pub ref_means : List Value → Env → Ref → Option Value
ref_means args env r = bind (cond (eqb r.node 0) (some args) (env r.node)) (λ vs. get_elem? vs r.port)

abbrev pub payload_means : Call → ℕ → Payload → List Value → Option (List Value)
payload_means call k (consts ws) vs = some (results (kind_of k) ws vs)
payload_means call k (refs rs) vs = some (results (kind_of k) [] vs)
payload_means call k (calls c rs) vs = call c vs

abbrev pub node_step : Call → List Node → List Value → Env → Env
node_step call ns args env i =
    bind (find_node i ns) (λ n. bind (all (ref_means args env) (reads n)) (payload_means call n.kind n.payload))

-- by depth: `none` where the chain of references is longer
unfoldable pub node_means : Call → List Node → List Value → ℕ → Env
node_means call ns args zero i = none
node_means call ns args (suc k) i = node_step call ns args (node_means call ns args k) i

-- no chain of references without a loop is longer than the nodes are many
abbrev pub function_means : Call → Function → List Value → Option (List Value)
function_means call f args = all (ref_means args (node_means call f.nodes args (length f.nodes))) (output_refs f.outputs)

-- the functions stand the last first, so that a callee stands behind its caller
unfoldable pub meaning_of : List Function → Call
meaning_of [] c vs = none
meaning_of (f ∷ early) c vs = let r = meaning_of early c vs in cond (eqb f.id c) (function_means (meaning_of early) f vs) r

-- ---- as words

abbrev pub words : Option (List Value) → Option (List ℕ)
words none = none
words (some vs) = some (all_words vs)

-- what a function of a table means on the words of its arguments: the meanings of its outputs, as words, in their order
abbrev pub graph_means : List Function → ℕ → List ℕ → Option (List ℕ)
graph_means fs c arguments = bind (chosen c fs) (λ x. words (meaning_of fs c (values_of x.function.inputs arguments)))
