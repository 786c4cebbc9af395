-- A group of references: the ids that they name, and what is found for them.
use Rattle.std.specs.Prelude.{ℕ, zero, suc, ◌+◌, ◌-◌, ◌*◌, ◌≤◌, ◌<◌, ◌≡◌, cond, List, [], ◌∷◌, ◌++◌, map, eqb, length, get_or}
use Rattle.std.proofs.lemmas.List.Edits.{sets}
use Rattle.graph.specs.Graph.{Ref, Node}
use Rattle.graph.specs.Look.{reads}
use Rattle.order.specs.Resolve.{index_of}
use Rattle.resolver.specs.declared.Group.{Group}
use Rattle.resolver.specs.Slots.{padded, rows_of, nodes_by}
use Rattle.base.specs.Limits.{node_limit, operand_limit, no_node}

-- the ids that references name
abbrev pub ids_of : List Ref → List ℕ
ids_of rs = map (λ r. r.node) rs

-- those of some nodes, one after another
unfoldable pub named : List Node → List ℕ
named [] = []
named (n ∷ ns) = ids_of (reads n) ++ named ns

-- the n entries of an array from m on
unfoldable pub entries : ℕ → List ℕ → ℕ → List ℕ
entries zero xs m = []
entries (suc n) xs m = get_or xs m 0 ∷ entries n xs (m + 1)

-- the rows of some nodes, where an array has an entry for each of their references, from m on
unfoldable pub rows_from : List ℕ → ℕ → List Node → List ℕ
rows_from found m [] = []
rows_from found m (n ∷ ns) = padded operand_limit (entries (length (reads n)) found m) ++ rows_from found (m + length (reads n)) ns

-- the first of the `left` nodes from i on have their ids in the array, from its begin
pub record Gathered (s ps : List ℕ) (i left : ℕ) (p q : List ℕ) (r : Group) : Type 0 where
  pub some : 0 < r.nodes
  pub most : r.nodes ≤ left
  pub fits : r.refs ≤ node_limit
  pub size : r.refs ≡ length (named (nodes_by s ps i r.nodes))
  pub ids : q ≡ sets p 0 (named (nodes_by s ps i r.nodes))

-- nothing was found for an id
abbrev pub Unfound : List ℕ → ℕ → List ℕ → Type 0
Unfound wanted id p = (r : ℕ) → r < length wanted → get_or wanted r 0 ≡ id → get_or p r 0 ≡ no_node

-- what is found after a node of an id was met at the index i
pub record Marked (wanted : List ℕ) (id i : ℕ) (p q : List ℕ) : Type 0 where
  pub size : length q ≡ length wanted
  pub marks : (r : ℕ) → r < length wanted → get_or q r 0 ≡ cond (eqb id (get_or wanted r 0)) i (get_or p r 0)

-- the indices of the ids
abbrev pub FoundAll : List Node → List ℕ → List ℕ → Type 0
FoundAll ns wanted q = (r : ℕ) → r < length wanted → get_or q r 0 ≡ index_of (get_or wanted r 0) ns

-- the rows from node i to the index reached are done
pub record GroupDone (s ps : List ℕ) (count i : ℕ) (p q : List ℕ) (r : ℕ) : Type 0 where
  pub on : i < r
  pub most : r ≤ count
  pub rows : q ≡ sets p (operand_limit * i) (rows_of (nodes_by s ps 0 count) (nodes_by s ps i (r - i)))
