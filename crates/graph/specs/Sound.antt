-- What an accepted function is.
use Rattle.std.specs.Prelude.{ℕ, ◌≡◌, List, [], ◌∷◌}
use Rattle.std.proofs.Math.Option.{Option, none, some}
use Rattle.ports.specs.Kinds.{kind_of}
use Rattle.ports.specs.Ports.{takes}
use Rattle.base.specs.Lists.{Is}
use Rattle.graph.specs.Graph.{Ref, Payload, consts, refs, calls, Node, Function}
use Rattle.graph.specs.Look.{find_node, find_function, reads, output_refs}
use Rattle.graph.specs.Loops.{Leads}
use Rattle.graph.specs.Types.{wants_of, ref_type, output_types}
use Rattle.graph.specs.Formed.{Formed}

-- ---- what the reading ensures

-- ---- what the checks ensure

-- each reference has the type wanted at its place
abbrev pub Wired : (Ref → Option ℕ) → List ℕ → List Ref → Type 0
Wired g [] [] = Unit {0}
Wired g [] (r ∷ rs) = ⊥
Wired g (w ∷ ws) [] = ⊥
Wired g (w ∷ ws) (r ∷ rs) = (g r ≡ some w) × Wired g ws rs

-- a constant takes nothing, and a callee is an earlier function
abbrev pub Shaped : List Function → Node → Payload → Type 0
Shaped early n (consts ws) = takes (kind_of n.kind) n.type ≡ []
Shaped early n (refs rs) = Unit {0}
Shaped early n (calls c rs) = (g : Function) × (find_function c early ≡ some g)

-- the checks before the loops
pub record Resolved (early : List Function) (f : Function) : Type 0 where
  pub formed : Formed f
  pub fresh : find_function f.id early ≡ none
  pub own : (n : Node) → Is n f.nodes → find_node n.id f.nodes ≡ some n
  pub shaped : (n : Node) → Is n f.nodes → Shaped early n n.payload
  pub wired : (n : Node) → Is n f.nodes → Wired (ref_type early f) (wants_of early n n.payload) (reads n)
  pub answers : Wired (ref_type early f) (output_types f.outputs) (output_refs f.outputs)

pub record Sound (early : List Function) (f : Function) : Type 0 where
  pub resolved : Resolved early f
  pub free : (i : ℕ) → Leads f.nodes i i → ⊥

-- every function over those before it; the last stands first
abbrev pub AllSound : List Function → Type 0
AllSound [] = Unit {0}
AllSound (f ∷ early) = Sound early f × AllSound early
