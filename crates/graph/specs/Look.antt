-- Looking up nodes, functions and ids.
use Rattle.std.specs.Prelude.{ℕ, Bool, true, false, cond, List, [], ◌∷◌, map, eqb}
use Rattle.std.proofs.Math.Option.{Option, none, some}
use Rattle.graph.specs.Graph.{Ref, Payload, consts, refs, calls, Node, Output, Function}

-- ---- looking up

abbrev pub find_node : ℕ → List Node → Option Node
find_node i [] = none
find_node i (n ∷ ns) = let r = find_node i ns in cond (eqb n.id i) (some n) r

abbrev pub find_function : ℕ → List Function → Option Function
find_function i [] = none
find_function i (f ∷ fs) = let r = find_function i fs in cond (eqb f.id i) (some f) r

abbrev pub found : {A : Type 0} → Option A → Bool
found none = false
found (some a) = true

-- ---- what a node reads, what it wants there, what it gives

abbrev pub reads_of : Payload → List Ref
reads_of (consts ws) = []
reads_of (refs rs) = rs
reads_of (calls c rs) = rs

abbrev pub reads : Node → List Ref
reads n = reads_of n.payload

abbrev pub output_refs : List Output → List Ref
output_refs = map (λ o. o.ref)

-- ---- ids

abbrev pub ids : List Node → List ℕ
ids = map (λ n. n.id)

-- the ids that the nodes with these ids read
abbrev pub read_ids : Option Node → List ℕ
read_ids none = []
read_ids (some n) = map (λ r. r.node) (reads n)
