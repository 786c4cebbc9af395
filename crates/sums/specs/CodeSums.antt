-- Instructions and bytes of a function's code, as sums over its nodes.
use Rattle.std.specs.Prelude.{ℕ, ◌+◌, ◌*◌, cond, List, [], ◌∷◌, eqb}
use Rattle.ports.specs.Kinds.{kind_of}
use Rattle.ports.specs.Ports.{arity, constant_words}
use Rattle.graph.specs.Graph.{Payload, consts, refs, calls, Node, Function}
use Rattle.graph.specs.Sums.{sum}

-- instructions of a node, and their bytes
abbrev pub node_instructions : (ℕ → ℕ) → Payload → ℕ
node_instructions callee (consts ws) = 1
node_instructions callee (refs rs) = 1
node_instructions callee (calls c rs) = callee c

abbrev pub node_bytes : (ℕ → ℕ) → Node → Payload → ℕ
node_bytes callee n (consts ws) = 2 + 2 * arity (kind_of n.kind) + 8 * constant_words (kind_of n.kind)
node_bytes callee n (refs rs) = 2 + 2 * arity (kind_of n.kind) + 8 * constant_words (kind_of n.kind)
node_bytes callee n (calls c rs) = callee c

abbrev pub function_instructions : (ℕ → ℕ) → Function → ℕ
function_instructions callee f = sum (λ n. node_instructions callee n.payload) f.nodes

abbrev pub function_bytes : (ℕ → ℕ) → Function → ℕ
function_bytes callee f = sum (λ n. node_bytes callee n n.payload) f.nodes

unfoldable pub instructions_of : List Function → ℕ → ℕ
instructions_of [] c = 0
instructions_of (f ∷ early) c = let r = instructions_of early c in cond (eqb f.id c) (function_instructions (instructions_of early) f) r

unfoldable pub bytes_of_function : List Function → ℕ → ℕ
bytes_of_function [] c = 0
bytes_of_function (f ∷ early) c = let r = bytes_of_function early c in cond (eqb f.id c) (function_bytes (bytes_of_function early) f) r
