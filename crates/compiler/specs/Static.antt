-- Where each value of a function stands in relation to the opening.
use Rattle.std.specs.Prelude.{ℕ, ◌+◌, cond, ◌≡◌, List, [], ◌∷◌, ◌++◌, map, eqb, get_or}
use Rattle.ports.specs.Kinds.{kind_of}
use Rattle.ports.specs.Ports.{gives}
use Rattle.graph.specs.Graph.{Ref, Payload, consts, refs, calls, Node, Function}
use Rattle.base.specs.Lists.{Each}
use Rattle.graph.specs.Look.{reads, output_refs}
use Rattle.graph.specs.Schedule.{schedule}
use Rattle.bytecode.specs.Run.{Instruction, places}
use Rattle.bytecode.specs.declared.Version.{Version}
use Rattle.lowering.specs.Compile.{Inline, inline_node}
use Rattle.lowering.specs.Naming.{sizing}

-- ---- locations

-- where a value stands: at the i-th input's address, or so many addresses behind the first of the function's results
pub data Location : Type 0 where
  nowhere : Location
  input : ℕ → Location
  offset : ℕ → Location

-- the address of a location, where the function is inlined with these inputs and from this word on
abbrev pub address_at : List ℕ → ℕ → Location → ℕ
address_at ins next nowhere = 0
address_at ins next (input i) = get_or ins i 0
address_at ins next (offset d) = next + d

-- a callee's location seen from its caller: the call's results begin at d, and its arguments stand at these locations
abbrev pub rebase : ℕ → List Location → Location → Location
rebase d args nowhere = nowhere
rebase d args (input i) = get_or args i nowhere
rebase d args (offset e) = offset (d + e)

-- a node that has its place, and the locations of its ports
pub record Located : Type 0 where
  pub id : ℕ
  pub locations : List Location

abbrev pub locations_of : ℕ → List Located → List Location
locations_of i [] = []
locations_of i (w ∷ ws) = cond (eqb w.id i) w.locations (locations_of i ws)

-- the location of a reference
abbrev pub location_of : List Located → Ref → Location
location_of located r = cond (eqb r.node 0) (input r.port) (get_or (locations_of r.node located) r.port nowhere)

-- ---- a function as its callers see it

-- the addresses that its results take (words in version 1, names in version 2), and the locations of its outputs
pub record Summary : Type 0 where
  pub words : ℕ
  pub outputs : List Location

-- the function of an id
abbrev pub Callee : Type 0
Callee = ℕ → Summary

-- nodes in their order, from d on: what lies behind them, and all that have their place
pub record Allocation : Type 0 where
  pub words : ℕ
  pub located : List Located

module _ (v : Version) where
  -- a node whose results begin at d: what it takes, and its ports' locations
  abbrev pub node_summary : Callee → List Located → ℕ → Node → Payload → Summary
  node_summary go located d n (consts ws) =
      let out = gives (kind_of n.kind) n.type in record { words = sizing v out; outputs = map offset (places d out) }
  node_summary go located d n (refs rs) =
      let out = gives (kind_of n.kind) n.type in record { words = sizing v out; outputs = map offset (places d out) }
  node_summary go located d n (calls c rs) =
      record { words = (go c).words; outputs = map (rebase d (map (location_of located) rs)) (go c).outputs }

  abbrev pub allocate : Callee → List Node → List Located → ℕ → Allocation
  allocate go [] located d = record { words = d; located = located }
  allocate go (n ∷ ns) located d =
      let c = node_summary go located d n n.payload in
      allocate go ns (record { id = n.id; locations = c.outputs } ∷ located) (d + c.words)

  abbrev pub function_summary : Callee → Function → Summary
  function_summary go f =
      let b = allocate go (schedule f.nodes) [] 0 in
      record { words = b.words; outputs = map (location_of b.located) (output_refs f.outputs) }

  -- the functions stand the last first
  unfoldable pub summary : List Function → Callee
  summary [] c = record { words = 0; outputs = [] }
  summary (f ∷ early) c =
      let r = summary early c in
      cond (eqb f.id c) (function_summary (summary early) f) r

  -- ---- one table of locations for a whole function

  -- the code of nodes in their order, from `next` on, where a reference's location is the one that the table has
  abbrev pub emit_nodes : Inline → (Ref → Location) → List ℕ → ℕ → List Node → ℕ → List Instruction
  emit_nodes go table ins base [] next = []
  emit_nodes go table ins base (n ∷ ns) next =
      let o = inline_node (sizing v) go (λ r. address_at ins base (table r)) next n n.payload in
      o.code ++ emit_nodes go table ins base ns o.next

  -- the table has, for each node of the order, the locations of what it reads as they are at its turn
  abbrev pub Agrees : Callee → (Ref → Location) → List Node → List Located → ℕ → Type 0
  Agrees go table [] located d = Unit {0}
  Agrees go table (n ∷ ns) located d =
      let c = node_summary go located d n n.payload in
      Each (λ r. table r ≡ location_of located r) (reads n) × Agrees go table ns (record { id = n.id; locations = c.outputs } ∷ located) (d + c.words)
