-- What the slots of a function's nodes hold, `operand_limit` for each node.
use Rattle.std.specs.Prelude.{ℕ, zero, suc, ◌+◌, ◌<◌, ◌≡◌, Bool, true, false, List, [], ◌∷◌, ◌++◌, map, get_or}
use Rattle.std.proofs.Math.Option.{some}
use Rattle.base.specs.Outcome.{Outcome, ok, fault}
use Rattle.graph.specs.Graph.{Node}
use Rattle.graph.specs.Read.{node}
use Rattle.graph.specs.Look.{reads}
use Rattle.reader.specs.Layout.{node_at, node_place}
use Rattle.reader.specs.Find.{ReadsNode}
use Rattle.order.specs.Resolve.{target}
use Rattle.base.specs.Limits.{operand_limit, no_node}

-- the first n of some numbers, and `no_node` behind the last
unfoldable pub padded : ℕ → List ℕ → List ℕ
padded zero xs = []
padded (suc n) [] = no_node ∷ padded n []
padded (suc n) (x ∷ xs) = x ∷ padded n xs

-- the slots of a node: the target of each of its references, and `no_node` behind the last
unfoldable pub row_of : List Node → Node → List ℕ
row_of ns n = padded operand_limit (map (λ r. target ns (some r)) (reads n))

-- the rows of some nodes, one after another
unfoldable pub rows_of : List Node → List Node → List ℕ
rows_of ns [] = []
rows_of ns (n ∷ rest) = row_of ns n ++ rows_of ns rest

-- the places of some nodes
abbrev pub places_of : List Node → List ℕ
places_of ns = map (λ n. n.place) ns

-- `ps` has the places of the n nodes from `first` on
abbrev pub PlacesAre : List ℕ → ℕ → ℕ → List ℕ → Type 0
PlacesAre s first n ps = (i : ℕ) → i < n → get_or ps i 0 ≡ node_place s first i

-- the nodes at the n places that an array has from i on
unfoldable pub nodes_by : List ℕ → List ℕ → ℕ → ℕ → List Node
nodes_by s ps i zero = []
nodes_by s ps i (suc n) = node_at s (get_or ps i 0) ∷ nodes_by s ps (i + 1) n

-- a reading or a check that passed, as a test
abbrev pub passed : {A : Type 0} → Outcome A → Bool
passed (ok a) = true
passed (fault n p) = false

-- each node at the first n places that an array has was read
abbrev pub NodesRead : List ℕ → List ℕ → ℕ → Type 0
NodesRead s ps n = (j : ℕ) → j < n → passed (node s (get_or ps j 0)) ≡ true

-- the n nodes at the places from i on were read
abbrev pub PlacesRead : List ℕ → List ℕ → ℕ → ℕ → Type 0
PlacesRead s ps i n = (j : ℕ) → j < n → ReadsNode s (get_or ps (i + j) 0)
