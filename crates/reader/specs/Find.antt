-- What the lookups answer, and where they may look.
use Rattle.std.specs.Prelude.{ℕ, ◌+◌, ◌*◌, ◌≤◌, ◌<◌, ◌≡◌, cond, List, [], ◌∷◌, eqb, length, get_or, Option, Some, None}
use Rattle.base.specs.Limits.{node_limit, operand_limit}
use Rattle.base.specs.Outcome.{ok, Part}
use Rattle.graph.specs.Graph.{Node, Function}
use Rattle.graph.specs.Look.{reads}
use Rattle.graph.specs.Read.{references, node, nodes, function, functions}
use Rattle.reader.specs.Layout.{node_at}
use Rattle.reader.specs.declared.Reads.{Reads}
use Rattle.reader.specs.declared.Found.{Found}

-- ---- places where the reading passed

abbrev pub ReadsNode : List ℕ → ℕ → Type 0
ReadsNode s at = (x : Part Node) × (node s at ≡ ok x)

abbrev pub ReadsNodes : ℕ → List ℕ → ℕ → Type 0
ReadsNodes n s at = (x : Part (List Node)) × (nodes n s at ≡ ok x)

-- the references of the node at a place: at most `operand_limit`, from `first` on
pub record ReadsOf (s : List ℕ) (at : ℕ) (r : Reads) : Type 0 where
  pub refs : reads (node_at s at) ≡ references r.count s r.first
  pub few : r.count ≤ operand_limit
  pub fits : r.first + 3 * r.count ≤ length s

abbrev pub ReadsFunction : List ℕ → ℕ → Type 0
ReadsFunction s at = (x : Part Function) × (function node_limit s at ≡ ok x)

abbrev pub ReadsFunctions : ℕ → List ℕ → ℕ → Type 0
ReadsFunctions n s at = (x : Part (List Function)) × (functions node_limit n s at ≡ ok x)

-- at each of the first k places of `starts` a function was read
abbrev pub ReadsStarts : List ℕ → List ℕ → ℕ → Type 0
ReadsStarts s starts k = (j : ℕ) → j < k → ReadsFunction s (get_or starts j 0)

-- ---- answers

abbrev pub found_at : ℕ → ℕ → Option Found
found_at i p = Some (record { index = i; place = p })

-- the first node with an id: its index, counted from i, and its place
abbrev pub node_found : ℕ → ℕ → List Node → Option Found
node_found i id [] = None
node_found i id (n ∷ ns) = let r = node_found (i + 1) id ns in cond (eqb n.id id) (found_at i n.place) r

-- the function of an id among some of which the last stands first: its index and its place
abbrev pub function_found : ℕ → List Function → Option Found
function_found id [] = None
function_found id (f ∷ fs) = let r = function_found id fs in cond (eqb f.id id) (found_at (length fs) f.place) r
