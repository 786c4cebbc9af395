-- Where the checks of a function stand, and what the arrays hold that they read.
use Rattle.std.specs.Prelude.{ℕ, ◌+◌, ◌*◌, ◌≤◌, ◌<◌, ◌≡◌, List, length, Some, None}
use Rattle.std.specs.Prelude.{Option as Answer}
use Rattle.std.proofs.Math.Option.{none, some}
use Rattle.std.proofs.Math.ListN.{get_elem?}
use Rattle.graph.specs.Graph.{Node, Function}
use Rattle.graph.specs.Look.{find_node, find_function, reads}
use Rattle.graph.specs.Read.{reference}
use Rattle.base.specs.Lists.{Is}
use Rattle.order.specs.Indices.{slot}
use Rattle.order.specs.Resolve.{target, Resolves}
use Rattle.resolver.specs.Slots.{PlacesAre}
use Rattle.reader.specs.Layout.{node_at, node_place, node_count, nodes_place, function_at}
use Rattle.reader.specs.Find.{ReadsFunction, ReadsStarts}
use Rattle.checker.specs.declared.scene.Head.{Head}
use Rattle.base.specs.Limits.{function_limit, node_limit, operand_limit, slot_limit}

-- the function f is judged after those at the first k places of `starts`
pub record SceneHeld (s starts : List ℕ) (k : ℕ) (f : Head) : Type 0 where
  pub started : ReadsStarts s starts k
  pub few : k ≤ function_limit
  pub reads : ReadsFunction s f.place
  pub first : f.first ≡ nodes_place s f.place
  pub count : f.count ≡ node_count s f.place

-- the place of the function of an id among some, or that there is none
abbrev pub CalleeIs : List ℕ → List Function → ℕ → Answer ℕ → Type 0
CalleeIs s early id None = find_function id early ≡ none
CalleeIs s early id (Some p) = ReadsFunction s p × (find_function id early ≡ some (function_at s p))

-- ---- the places and the slots of its nodes

-- `ps` has their places
abbrev pub PlacesHeld : List ℕ → Head → List ℕ → Type 0
PlacesHeld s f ps = PlacesAre s f.first f.count ps

-- the slots of node i have the n references at `begin`
abbrev pub RowIs : List ℕ → ℕ → ℕ → ℕ → ℕ → List ℕ → Type 0
RowIs s f begin n i ts = (j : ℕ) → j < n → slot ts i j ≡ target (function_at s f).nodes (some (reference s (begin + 3 * j)))

-- those of the first n nodes of the function at f have what they read
pub record RowsAre (s : List ℕ) (f n : ℕ) (ts : List ℕ) : Type 0 where
  pub size : length ts ≡ slot_limit
  pub slots : (i j : ℕ) → i < n → j < operand_limit
      → slot ts i j ≡ target (function_at s f).nodes (get_elem? (reads (node_at s (node_place s (nodes_place s f) i))) j)

-- all is known of a function but its loops
pub record SlotsReady (s : List ℕ) (f : Head) (ts : List ℕ) : Type 0 where
  pub reads : ReadsFunction s f.place
  pub first : f.first ≡ nodes_place s f.place
  pub count : f.count ≡ node_count s f.place
  pub resolves : Resolves ts (function_at s f.place).nodes
  pub own : (n : Node) → Is n (function_at s f.place).nodes → find_node n.id (function_at s f.place).nodes ≡ some n

-- what a function at f that is good leaves
pub record Filled (s : List ℕ) (f : ℕ) (ps ts : List ℕ) : Type 0 where
  pub few : length ps ≡ node_limit
  pub size : length ts ≡ slot_limit
  pub places : PlacesAre s (nodes_place s f) (node_count s f) ps
