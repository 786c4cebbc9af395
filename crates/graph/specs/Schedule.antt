-- The order: always the first node in the table, among those not yet written, whose references are all done.
use Rattle.std.specs.Prelude.{ℕ, zero, suc, Bool, true, ◌&&◌, ◌||◌, cond, List, [], ◌∷◌, eqb, length}
use Rattle.std.proofs.Math.Option.{Option, none, some}
use Rattle.graph.specs.Graph.{Ref, Node}
use Rattle.base.specs.Lists.{member}
use Rattle.graph.specs.Look.{reads}

-- all that it reads is done; id 0 stands for the inputs
abbrev pub ready : List ℕ → List Ref → Bool
ready done [] = true
ready done (r ∷ rs) = (eqb r.node 0 || member r.node done) && ready done rs

pub record Picked : Type 0 where
  pub node : Node
  pub rest : List Node

abbrev pub before : Node → Option Picked → Option Picked
before n none = none
before n (some p) = some (record { node = p.node; rest = n ∷ p.rest })

-- the first that is ready, and the others
abbrev pub pick : List ℕ → List Node → Option Picked
pick done [] = none
pick done (n ∷ ns) = cond (ready done (reads n)) (some (record { node = n; rest = ns })) (before n (pick done ns))

abbrev pub order : ℕ → List ℕ → List Node → List Node
order zero done left = []
order (suc k) done left =
    elim (pick done left) [ none ↦ [] | some p ↦ p.node ∷ order k (p.node.id ∷ done) p.rest ]

unfoldable pub schedule : List Node → List Node
schedule ns = order (length ns) [] ns
