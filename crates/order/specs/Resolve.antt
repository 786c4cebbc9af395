-- What the slots hold for the nodes of a table.
use Rattle.std.specs.Prelude.{ℕ, ◌+◌, ◌≤◌, ◌<◌, ◌≡◌, true, cond, List, [], ◌∷◌, map, ◌⊎◌, eqb, length}
use Rattle.std.proofs.Math.Option.{Option, none, some}
use Rattle.std.proofs.Math.ListN.{get_elem?}
use Rattle.graph.specs.Graph.{Ref, Node}
use Rattle.base.specs.Lists.{member, Is}
use Rattle.graph.specs.Look.{reads, ids}
use Rattle.order.specs.Indices.{slot}
use Rattle.base.specs.Limits.{node_limit, operand_limit, slot_limit, no_node}

-- the index of the first node of an id, counted from i, or `no_node` where no node has it
abbrev pub index_from : ℕ → ℕ → List Node → ℕ
index_from i id [] = no_node
index_from i id (n ∷ ns) = let r = index_from (i + 1) id ns in cond (eqb n.id id) i r

abbrev pub index_of : ℕ → List Node → ℕ
index_of id ns = index_from 0 id ns

-- what the slot of a reference holds: the index of the node that it names; an input's id, 0, is no node's
abbrev pub target : List Node → Option Ref → ℕ
target ns none = no_node
target ns (some r) = index_of r.node ns

pub record Resolves (ts : List ℕ) (ns : List Node) : Type 0 where
  pub few : length ns ≤ node_limit
  pub size : length ts ≡ slot_limit
  pub named : (n : Node) → Is n ns → 1 ≤ n.id
  -- a node has at most `operand_limit` references, each to an input or a node
  pub narrow : (n : Node) → Is n ns → length (reads n) ≤ operand_limit
  pub closed : (n : Node) (j : ℕ) → Is n ns → member j (map (λ r. r.node) (reads n)) ≡ true → (j ≡ 0) ⊎ Is j (ids ns)
  pub slots : (i j : ℕ) (n : Node) → get_elem? ns i ≡ some n → j < operand_limit → slot ts i j ≡ target ns (get_elem? (reads n) j)
