-- The checks 9 to 13 in 01's order, each with its number, its place, what it asks and how it fails; and what checks say in turn.
use Rattle.std.specs.Prelude.{ℕ, ◌≤◌, ◌≡◌, List, [], ◌∷◌, ◌++◌, ◌≢◌, ◌⊎◌, length}
use Rattle.std.proofs.Math.Option.{none, some}
use Rattle.base.specs.Outcome.{Outcome, ok, fault}
use Rattle.graph.specs.Graph.{Ref, Payload, consts, refs, calls, Node, Function}
use Rattle.graph.specs.Look.{find_node, find_function, reads, output_refs}
use Rattle.graph.specs.Loops.{Leads}
use Rattle.graph.specs.Types.{wants_of, gives_of, ref_type, output_types}

pub record Check : Type 1 where
  pub number : ℕ
  pub place : ℕ
  -- what is asked, and what stands where it is not so
  pub Asks : Type 0
  pub Fails : Type 0

abbrev pub check : ℕ → ℕ → Type 0 → Type 0 → Check
check n p A F = record { number = n; place = p; Asks = A; Fails = F }

-- all that is asked is so
abbrev pub All : List Check → Type 0
All [] = Unit {0}
All (c ∷ cs) = c.Asks × All cs

-- the first check that fails has this number and this place
abbrev pub First : List Check → ℕ → ℕ → Type 0
First [] n p = ⊥
First (c ∷ cs) n p = (c.Fails × (c.number ≡ n) × (c.place ≡ p)) ⊎ (c.Asks × First cs n p)

abbrev pub Says : List Check → Outcome (Unit {0}) → Type 0
Says cs (ok u) = All cs
Says cs (fault n p) = First cs n p

-- ---- a function's checks

-- 9: no earlier node has the id, or one has
abbrev pub id_checks : List Node → List Node → List Check
id_checks before [] = []
id_checks before (n ∷ ns) =
    check 9 n.place (find_node n.id before ≡ none) ((m : Node) × (find_node n.id before ≡ some m)) ∷ id_checks (n ∷ before) ns

-- 10: a callee is a function standing earlier, and the arguments are as many as its inputs
abbrev pub CalleeThere : List Function → Payload → Type 0
CalleeThere early (consts ws) = Unit {0}
CalleeThere early (refs rs) = Unit {0}
CalleeThere early (calls c rs) = (g : Function) × (find_function c early ≡ some g) × (length rs ≡ length g.inputs)

-- or it is no function standing earlier, or the argument count differs from its inputs
abbrev pub CalleeWrong : List Function → Payload → Type 0
CalleeWrong early (consts ws) = ⊥
CalleeWrong early (refs rs) = ⊥
CalleeWrong early (calls c rs) =
    (find_function c early ≡ none) ⊎ ((g : Function) × (find_function c early ≡ some g) × (length rs ≢ length g.inputs))

abbrev pub call_checks : List Function → List Node → List Check
call_checks early [] = []
call_checks early (n ∷ ns) = check 10 n.place (CalleeThere early n.payload) (CalleeWrong early n.payload) ∷ call_checks early ns

-- no such input; no such node; or no such port of it
pub data NoPort (early : List Function) (f : Function) (r : Ref) : Type 0 where
  no-input : r.node ≡ 0 → length f.inputs ≤ r.port → NoPort early f r
  no_node : r.node ≢ 0 → find_node r.node f.nodes ≡ none → NoPort early f r
  no-port : r.node ≢ 0 → (n : Node) → find_node r.node f.nodes ≡ some n → length (gives_of early n n.payload) ≤ r.port → NoPort early f r

-- 11, then 12: each reference has a type, the one wanted, or another
abbrev pub ref_checks : List Function → Function → List ℕ → List Ref → List Check
ref_checks early f [] rs = []
ref_checks early f (w ∷ ws) [] = []
ref_checks early f (w ∷ ws) (r ∷ rs) =
    check 11 r.place ((t : ℕ) × (ref_type early f r ≡ some t)) (NoPort early f r)
    ∷ check 12 r.place (ref_type early f r ≡ some w) ((t : ℕ) × (ref_type early f r ≡ some t) × (t ≢ w))
    ∷ ref_checks early f ws rs

abbrev pub node_ref_checks : List Function → Function → List Node → List Check
node_ref_checks early f [] = []
node_ref_checks early f (n ∷ ns) = ref_checks early f (wants_of early n n.payload) (reads n) ++ node_ref_checks early f ns

-- 13: following references from the node does not return to it, or it does
abbrev pub loop_checks : List Node → List Node → List Check
loop_checks all [] = []
loop_checks all (n ∷ ns) = check 13 n.place (Leads all n.id n.id → ⊥) (Leads all n.id n.id) ∷ loop_checks all ns

-- its id, its node ids, its calls, its references in table order, outputs' first
abbrev pub link_checks : List Function → Function → List Check
link_checks early f =
    check 9 f.place (find_function f.id early ≡ none) ((g : Function) × (find_function f.id early ≡ some g))
    ∷ (id_checks [] f.nodes
    ++ (call_checks early f.nodes
    ++ (ref_checks early f (output_types f.outputs) (output_refs f.outputs) ++ node_ref_checks early f f.nodes)))

-- and its loops
abbrev pub function_checks : List Function → Function → List Check
function_checks early f = link_checks early f ++ loop_checks f.nodes f.nodes

-- function by function; `early` has those before, the last first
abbrev pub table_checks : List Function → List Function → List Check
table_checks early [] = []
table_checks early (f ∷ fs) = function_checks early f ++ table_checks (f ∷ early) fs
