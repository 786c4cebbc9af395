-- What the layout fills in: the numbers of locations, by what its arrays hold.
use Rattle.std.specs.Prelude.{ℕ, zero, suc, ◌+◌, ◌*◌, ◌%◌, ◌≤◌, ◌<◌, ◌≡◌, cond, List, [], ◌∷◌, ltb, leb, length, get_or}
use Rattle.std.proofs.Math.Option.{some}
use Rattle.std.proofs.Math.ListN.{get_elem?}
use Rattle.base.specs.Limits.{node_limit, operand_limit, port_limit, slot_limit, address_limit}
use Rattle.ports.specs.Ports.{width, own, ports_of, form_of, calling}
use Rattle.base.specs.Bytes.{byte, u16}
use Rattle.graph.specs.Graph.{Node}
use Rattle.graph.specs.Look.{reads}
use Rattle.graph.specs.Read.{reference}
use Rattle.graph.specs.Schedule.{schedule}
use Rattle.graph.specs.Sums.{sum}
use Rattle.reader.specs.Layout.{kind_at, nodes_at, output_count}
use Rattle.order.specs.Indices.{slot}
use Rattle.order.specs.Resolve.{target}
use Rattle.compiler.specs.Static.{Location, nowhere, input, offset, Located, locations_of, summary, allocate}
use Rattle.sums.specs.Position.{place_of, function_in, before, position_of}
use Rattle.bytecode.specs.declared.Version.{Version}
use Rattle.compiler.specs.declared.Layout.{Layout}
use Rattle.compiler.specs.Units.{units_at, unit_limit}
use Rattle.compiler.specs.Emit.{location_table, Placed, summary_at, AllAllocated}

-- ---- arrays that are read

-- the slots of the n nodes from `at` on
pub record Slots (s : List ℕ) (at n : ℕ) (ts : List ℕ) : Type 0 where
  pub size : length ts ≡ slot_limit
  pub slots : (i j : ℕ) (x : Node) → get_elem? (nodes_at n s at) i ≡ some x → j < operand_limit → slot ts i j ≡ target (nodes_at n s at) (get_elem? (reads x) j)

-- ---- numbers of locations

-- a port of the node with the index v, or of the inputs
abbrev pub port_code : List ℕ → ℕ → ℕ → ℕ
port_code allocated v port = cond (leb port_limit port) 0 (cond (ltb v node_limit) (get_or allocated (port_limit * v + port) 0) port)

-- the n references at q, whose slots stand from b on
unfoldable pub read_codes : List ℕ → List ℕ → List ℕ → ℕ → ℕ → ℕ → List ℕ
read_codes s ts allocated b zero q = []
read_codes s ts allocated b (suc n) q = port_code allocated (get_or ts b 0) (byte s (q + 2)) ∷ read_codes s ts allocated (b + 1) n (q + 3)

-- the n outputs at q, over these nodes
unfoldable pub output_codes : List ℕ → List ℕ → List Node → ℕ → ℕ → List ℕ
output_codes s allocated ns zero q = []
output_codes s allocated ns (suc n) q = port_code allocated (target ns (some (reference s (q + 1)))) (byte s (q + 1 + 2)) ∷ output_codes s allocated ns n (q + 4)

-- a callee's location seen from its caller: the call's n arguments stand from `location` on, and its results begin at d
abbrev pub rebased_code : List ℕ → ℕ → ℕ → ℕ → ℕ → ℕ
rebased_code locations cell n d e = cond (ltb e port_limit) (cond (ltb e n) (get_or locations (cell + e) 0) 0) ((e + d) % address_limit)

unfoldable pub rebased_codes : List ℕ → List ℕ → ℕ → ℕ → ℕ → ℕ → ℕ → List ℕ
rebased_codes outs locations cell n d b zero = []
rebased_codes outs locations cell n d b (suc m) = rebased_code locations cell n d (get_or outs b 0) ∷ rebased_codes outs locations cell n d (b + 1) m

-- results of w words each
unfoldable pub result_codes : ℕ → ℕ → ℕ → List ℕ
result_codes e w zero = []
result_codes e w (suc m) = e ∷ result_codes (e + w) w m

abbrev pub callee_codes : List ℕ → List ℕ → List ℕ → ℕ → ℕ → ℕ → ℕ → ℕ → List ℕ
callee_codes s outs locations k g cell n d = cond (ltb g k) (rebased_codes outs locations cell n d (port_limit * g) (output_count s (place_of s g))) []

-- the ports of the node at p, whose results begin at d
unfoldable pub node_codes : List ℕ → List ℕ → List ℕ → ℕ → ℕ → ℕ → ℕ → List ℕ
node_codes s outs locations k p cell d =
    cond (calling (form_of (kind_at s p)))
    (callee_codes s outs locations k (position_of s k (u16 s (p + 4))) cell (byte s (p + 4 + 2)) d)
    (result_codes (port_limit + d) (width (own (byte s (p + 3)) (ports_of (kind_at s p)).result)) (ports_of (kind_at s p)).results)

-- ---- what the numbers mean

abbrev pub Codes : ℕ → Location → Type 0
Codes e nowhere = Unit {0}
Codes e (input i) = i < port_limit → e ≡ i
Codes e (offset d) = e ≡ port_limit + d

-- the locations of ports stand from b on
pub record PortsCoded (xs : List Location) (codes : List ℕ) (b : ℕ) : Type 0 where
  pub few : length xs ≤ port_limit
  pub coded : (q : ℕ) → q < port_limit → Codes (get_or codes (b + q) 0) (get_or xs q nowhere)

-- the outputs of the functions before k that are within the limit
abbrev pub AllOuts : Version → List ℕ → List ℕ → ℕ → Type 0
AllOuts v s outs k = (g : ℕ) → g < k → units_at v s g ≤ unit_limit v → PortsCoded (summary_at v s g).outputs outs (port_limit * g)

-- the nodes that have their locations, by their indices
abbrev pub PortsKnown : List Node → List ℕ → List Located → Type 0
PortsKnown ns allocated located = (v : ℕ) (x : Node) → get_elem? ns v ≡ some x → PortsCoded (locations_of x.id located) allocated (port_limit * v)

-- how many references the function at position k has in its nodes
abbrev pub read_count : List ℕ → ℕ → ℕ
read_count s k = sum (λ n. length (reads n)) (function_in s k).nodes

-- all nodes in their order are allocated
pub record NodesAllocated (v : Version) (s : List ℕ) (k c : ℕ) (l₀ l : Layout) (allocated : List ℕ) (r : ℕ) : Type 0 where
  pub placed : Placed s l.order l.locations (location_table v s k) (node_limit * k) c (schedule (function_in s k).nodes)
  pub known : PortsKnown (function_in s k).nodes allocated (allocate v (summary v (before s k)) (schedule (function_in s k).nodes) [] 0).located
  pub end : r ≡ c + read_count s k
  pub same : (l.outs ≡ l₀.outs) × (l.begins ≡ l₀.begins)
  pub old-order : (q : ℕ) → q < node_limit * k → get_or l.order q 0 ≡ get_or l₀.order q 0
  pub old-locations : (q : ℕ) → q < c → get_or l.locations q 0 ≡ get_or l₀.locations q 0

-- the function at position k is allocated
pub record FunctionAllocated (v : Version) (s : List ℕ) (k c : ℕ) (l₀ l : Layout) (r : ℕ) : Type 0 where
  pub placed : Placed s l.order l.locations (location_table v s k) (node_limit * k) c (schedule (function_in s k).nodes)
  pub ports : PortsCoded (summary_at v s k).outputs l.outs (port_limit * k)
  pub end : r ≡ c + read_count s k
  pub same : l.begins ≡ l₀.begins
  pub old-order : (q : ℕ) → q < node_limit * k → get_or l.order q 0 ≡ get_or l₀.order q 0
  pub old-locations : (q : ℕ) → q < c → get_or l.locations q 0 ≡ get_or l₀.locations q 0
  pub old-outs : (q : ℕ) → q < port_limit * k → get_or l.outs q 0 ≡ get_or l₀.outs q 0

-- all functions before j that are within the limit are allocated, and their locations end at `location`
pub record AllocatedTo (v : Version) (s : List ℕ) (j : ℕ) (l : Layout) (cell : ℕ) : Type 0 where
  pub allocated : AllAllocated v s l j
  pub ports : AllOuts v s l.outs j
  pub room : 13 * cell ≤ 4 * place_of s j
  pub ends : (g : ℕ) → g < j → (summary_at v s g).words ≤ unit_limit v → get_or l.begins g 0 + read_count s g ≤ cell
