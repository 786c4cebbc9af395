-- Operations and words of a function.
use Rattle.std.specs.Prelude.{ℕ, ◌+◌, cond, List, [], ◌∷◌, eqb}
use Rattle.ports.specs.Kinds.{kind_of}
use Rattle.ports.specs.Ports.{widths, gives}
use Rattle.graph.specs.Graph.{Payload, consts, refs, calls, Node, Function}

abbrev pub sum : {A : Type 0} → (A → ℕ) → List A → ℕ
sum g [] = 0
sum g (x ∷ xs) = g x + sum g xs

-- 1, or for a call 1 plus the callee's
abbrev pub node_operations : (ℕ → ℕ) → Payload → ℕ
node_operations callee (consts ws) = 1
node_operations callee (refs rs) = 1
node_operations callee (calls c rs) = 1 + callee c

abbrev pub function_operations : (ℕ → ℕ) → Function → ℕ
function_operations callee f = sum (λ n. node_operations callee n.payload) f.nodes

-- of the function of an id; the functions stand the last first
unfoldable pub operations_of : List Function → ℕ → ℕ
operations_of [] c = 0
operations_of (f ∷ early) c = let r = operations_of early c in cond (eqb f.id c) (function_operations (operations_of early) f) r

-- the words of the results; for a call those of all that it opens
abbrev pub node_words : (ℕ → ℕ) → Node → Payload → ℕ
node_words callee n (consts ws) = widths (gives (kind_of n.kind) n.type)
node_words callee n (refs rs) = widths (gives (kind_of n.kind) n.type)
node_words callee n (calls c rs) = callee c

abbrev pub result_words : (ℕ → ℕ) → Function → ℕ
result_words callee f = sum (λ n. node_words callee n n.payload) f.nodes

unfoldable pub result_words_of : List Function → ℕ → ℕ
result_words_of [] c = 0
result_words_of (f ∷ early) c = let r = result_words_of early c in cond (eqb f.id c) (result_words (result_words_of early) f) r

abbrev pub function_words : List Function → Function → ℕ
function_words early f = widths f.inputs + result_words (result_words_of early) f
