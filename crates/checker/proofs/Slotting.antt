-- References by their slots, and the slots of a node.
use Prim.Native.Nat.{ℕ, zero, suc, ◌+◌, ◌*◌, ◌<◌, ◌≤◌}
use mathlib.Core.Path.{◌≡◌, refl, ap, sym, ◌∙◌, subst}
use mathlib.Core.Bool.{true}
use mathlib.Core.List.{List}
use Rattle.std.specs.Prelude.{Some, None}
use mathlib.Core.Option.{Option, none, some}
use native.Mathlib.Omega.{arith}
use native.Mathlib.Nat.{not-suc-le-zero}
use lib.ListN.{length, get_or, get_elem?}
use lib.Seq.{sets}
use Rattle.base.specs.Bytes.{u16}
use Rattle.base.specs.Outcome.{Outcome, ok, fault}
use Rattle.graph.specs.Graph.{Ref, Node}
use Rattle.graph.specs.Look.{find_node, reads}
use Rattle.graph.specs.Read.{reference, references}
use Rattle.order.specs.Indices.{slot}
use Rattle.order.specs.Resolve.{target}
use Rattle.order.proofs.Nodes.{index-of, no_index}
use Rattle.reader.specs.Layout.{node_at, nodes_at, node_place, node_count, nodes_place, function_at}
use Rattle.reader.specs.Find.{ReadsNode, ReadsNodes, ReadsOf, node_found}
use Rattle.reader.specs.declared.Reads.{Reads}
use Rattle.reader.specs.declared.Found.{Found}
use Rattle.reader.proofs.Passed.{function-holds, found-node, no_node}
use Rattle.checker.specs.declared.scene.Head.{Head}
use Rattle.checker.specs.declared.scene.Scene.{Scene}
use Rattle.resolver.specs.Slots.{rows_of, places_of, PlacesAre, nodes_by, PlacesRead, passed}
use Rattle.resolver.proofs.ByPlaces.{all-by, all_read}
use Rattle.resolver.proofs.Rows.{row-slot, rows-size, place_at, places-size}
use Rattle.checker.specs.Slots.{SceneHeld, PlacesHeld, RowIs, RowsAre}
use Rattle.checker.proofs.Wiring.{nodes-of}
use Rattle.checker.proofs.Whole.{nodes-count, node_of, stands_at}
use Rattle.base.specs.Limits.{node_limit, slot_limit, operand_limit}

-- ---- the function that is judged

module _ {A : Type 0} where
  -- a step that gave a value
  it_gave : (g : Outcome A) → passed g ≡ true → (x : A) × (g ≡ ok x)
  it_gave (ok x) e = (x, refl)
  it_gave (fault n p) e = let z : ◌≡◌ {A = ℕ} 0 1 = cc in absurd (omega arith)

  pub it-went : (g : Outcome A) → (x : A) × (g ≡ ok x) → passed g ≡ true
  it-went g (x, e) = rw e refl

-- what a scene holds
pub held : (c : Scene) → SceneHeld c.s.now c.starts.now c.k c.head
held c = record {
  started = λ j h. it_gave _ (c.started j h);
  few = c.few;
  reads = it_gave _ c.reads;
  first = c.first;
  count = c.count;
}

module _ {s starts : List ℕ} {k : ℕ} {f : Head} (h : SceneHeld s starts k f) where
  pub few-nodes : f.count ≤ node_limit
  few-nodes =
      let l = (function-holds s f.place h.reads).few in
      let e = h.count in
      omega (arith, l, e)

  pub nodes-read : ReadsNodes f.count s f.first
  nodes-read =
      subst (λ (n : ℕ). ReadsNodes n s f.first) (sym h.count)
      (subst (ReadsNodes (node_count s f.place) s) (sym h.first) (function-holds s f.place h.reads).nodes)

  pub same_nodes : nodes_at f.count s f.first ≡ (function_at s f.place).nodes
  same_nodes =
      ap (λ (n : ℕ). nodes_at n s f.first) h.count
      ∙ ap (nodes_at (node_count s f.place) s) h.first
      ∙ sym (nodes-of s f.place)

  -- what a lookup among them found
  pub found_here :
      (id : ℕ) (x : Found) → Some x ≡ node_found 0 id (nodes_at f.count s f.first)
      → ReadsNode s x.place × (find_node id (function_at s f.place).nodes ≡ some (node_at s x.place))
  found_here id x e =
      let r = found-node s id f.count f.first 0 x.index x.place nodes-read (sym e) in
      (r.reads, ap (find_node id) (sym same_nodes) ∙ r.find)

  pub none-here : (id : ℕ) → None ≡ node_found 0 id (nodes_at f.count s f.first) → find_node id (function_at s f.place).nodes ≡ none
  none-here id e = ap (find_node id) (sym same_nodes) ∙ no_node s id f.count f.first 0 (sym e)

  -- the nodes by their places
  module _ (ps : List ℕ) (p : PlacesHeld s f ps) where
    pub by_read : PlacesRead s ps 0 f.count
    by_read = all_read s ps f.count f.first p nodes-read

    pub same_by : nodes_by s ps 0 f.count ≡ (function_at s f.place).nodes
    same_by = all-by s ps f.count f.first p ∙ same_nodes

  -- what the resolver fills
  pub rows_are :
      (ps : List ℕ) → PlacesHeld s f ps → (ts us : List ℕ) → us ≡ sets ts 0 (rows_of (nodes_by s ps 0 f.count) (nodes_by s ps 0 f.count)) → length ts ≡ slot_limit
      → RowsAre s f.place f.count us
  rows_are ps p ts us e size =
      let q : us ≡ sets ts 0 (rows_of (function_at s f.place).nodes (function_at s f.place).nodes) =
      e ∙ ap (λ (ns : List Node). sets ts 0 (rows_of ns ns)) (same_by ps p) in
      let c = nodes-count s f.place in
      let n = h.count in
      let few = few-nodes in
      record {
        size = ap length q ∙ rows-size (function_at s f.place).nodes ts ∙ size;
        slots = λ i j b l.
            ap (λ (v : List ℕ). slot v i j) q
            ∙ row-slot (function_at s f.place).nodes ts i j (node_at s (node_place s (nodes_place s f.place) i)) (node_of s f.place i (omega (arith, b, n))) l
            (omega (arith, c, n, few)) size;
      }

  -- ---- the node that a slot tells

  module _ (at i : ℕ) (e : i ≡ target (function_at s f.place).nodes (some (reference s at))) where
    pub slot-found : i < f.count → find_node (u16 s at) (function_at s f.place).nodes ≡ some (node_at s (node_place s f.first i))
    slot-found l =
        let ns = (function_at s f.place).nodes in
        let c : length ns ≡ f.count = nodes-count s f.place ∙ sym h.count in
        let few = few-nodes in
        let (m, a, b, q) = index-of (u16 s at) ns (omega (arith, few, c)) (omega (arith, l, c, e)) in
        b ∙ ap some (stands_at s f.place i m (ap (get_elem? ns) e ∙ a)) ∙ ap (λ (p : ℕ). some (node_at s (node_place s p i))) (sym h.first)

    pub slot-lost : f.count ≤ i → find_node (u16 s at) (function_at s f.place).nodes ≡ none
    slot-lost l =
        let c = nodes-count s f.place in
        let n = h.count in
        no_index (u16 s at) (function_at s f.place).nodes (omega (arith, l, c, n, e))

module _ (s : List ℕ) (first count : ℕ) (ps qs : List ℕ) (e : qs ≡ sets ps 0 (places_of (nodes_at count s first))) (size : length ps ≡ node_limit) where
  pub places-length : length qs ≡ node_limit
  places-length = ap length e ∙ places-size (nodes_at count s first) ps ∙ size

  pub places-are : count ≤ node_limit → PlacesAre s first count qs
  places-are l = λ i h. ap (λ (v : List ℕ). get_or v i 0) e ∙ place_at s first count ps i h (omega (arith, l, size))

-- ---- the slots of a node

reference-at : (n : ℕ) (s : List ℕ) (at j : ℕ) → j < n → get_elem? (references n s at) j ≡ some (reference s (at + 3 * j))
reference-at zero s at j h = absurd (not-suc-le-zero h)
reference-at (suc n) s at zero h = let e : at + 3 * 0 ≡ at = omega arith in ap (λ (p : ℕ). some (reference s p)) (sym e)
reference-at (suc n) s at (suc j) h =
    let e : at + 3 + 3 * j ≡ at + 3 * suc j = omega arith in
    reference-at n s (at + 3) j (omega arith) ∙ ap (λ (p : ℕ). some (reference s p)) e

pub row_is :
    (s : List ℕ) (f begin m i count : ℕ) (ts : List ℕ) → RowsAre s f count ts → i < count → m ≤ operand_limit
    → reads (node_at s (node_place s (nodes_place s f) i)) ≡ references m s begin → RowIs s f begin m i ts
row_is s f begin m i count ts h b l e = λ j c.
    h.slots i j b (omega arith)
    ∙ ap (λ (r : Option Ref). target (function_at s f).nodes r) (ap (λ (rs : List Ref). get_elem? rs j) e ∙ reference-at m s begin j c)

-- of what a node reads
pub reads_row :
    {s starts : List ℕ} {k : ℕ} {f : Head} → SceneHeld s starts k f → (ts : List ℕ) → RowsAre s f.place f.count ts
    → (i at : ℕ) → i < f.count → at ≡ node_place s f.first i → (r : Reads) → ReadsOf s at r → RowIs s f.place r.first r.count i ts
reads_row {s = s} {f = f} h ts rows i at l place r o =
    row_is s f.place r.first r.count i f.count ts rows l o.few
    (ap (λ (p : ℕ). reads (node_at s p)) (ap (λ (x : ℕ). node_place s x i) (sym h.first) ∙ sym place) ∙ o.refs)
