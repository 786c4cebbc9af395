-- The first node that lies on a loop, and orders of a function's nodes in which each stands after all that it reads.
use Rattle.std.specs.Prelude.{ℕ, ◌≡◌, true, List, [], ◌∷◌, ◌++◌}
use Rattle.graph.specs.Graph.{Node}
use Rattle.graph.specs.Look.{reads, ids}
use Rattle.base.specs.Lists.{Is, Distinct}
use Rattle.graph.specs.Loops.{Leads}
use Rattle.graph.specs.Schedule.{ready}

-- the first node in the table that lies on a loop: following references from it can return to it
pub record FirstOnLoop (ns : List Node) (m : Node) : Type 0 where
  pub before : List Node
  pub behind : List Node
  pub stands : ns ≡ before ++ m ∷ behind
  pub first : (n : Node) → Is n before → Leads ns n.id n.id → ⊥
  pub lies : Leads ns m.id m.id

-- each node after all that it reads; `done` has the ids before
abbrev pub Ordered : List ℕ → List Node → Type 0
Ordered done [] = Unit {0}
Ordered done (n ∷ ns) = (ready done (reads n) ≡ true) × Ordered (n.id ∷ done) ns

-- the nodes of the table, each once, after all that it reads
pub record Orders (ns os : List Node) : Type 0 where
  pub within : (n : Node) → Is n os → Is n ns
  pub has : (n : Node) → Is n ns → Is n os
  pub once : Distinct (ids os)
  pub ordered : Ordered [] os
