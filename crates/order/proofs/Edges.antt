-- Paths by indices are paths by ids.
use Prim.Native.Nat.{ℕ, ◌<◌}
use mathlib.Core.Path.{◌≡◌, refl, ap, sym, ◌∙◌, subst}
use mathlib.Core.Bool.{true}
use mathlib.Core.List.{List, map}
use mathlib.Core.Option.{Option, none, some}
use native.Mathlib.Omega.{arith}
use lib.ListN.{length, get_elem?}
use Rattle.graph.specs.Graph.{Ref, Node}
use Rattle.graph.specs.Look.{find_node, read_ids, reads, ids}
use Rattle.base.specs.Lists.{member, Is}
use Rattle.graph.specs.Loops.{reads_id, Leads}
use Rattle.graph.specs.Loops as Ids
use Rattle.graph.proofs.Loops.{leads-node}
use Rattle.order.specs.Paths.{reads_index, Path, one, more}
use Rattle.order.specs.Resolve.{index_of, target, Resolves}
use Rattle.order.proofs.Closure.{read_below, read-slot, slot_read}
use Rattle.order.proofs.Nodes.{at-is, at-below, index-of, in-index, ref-member, member-ref}

module _ (ts : List ℕ) (ns : List Node) (r : Resolves ts ns) where
  -- ---- one step

  abbrev Read : Node → ℕ → Type 0
  Read a y = (b : Node) × (get_elem? ns y ≡ some b) × (member b.id (map (λ q. q.node) (reads a)) ≡ true)

  -- a slot that holds a node is that of a reference to it
  slot-ref : (a : Node) (y s : ℕ) (o : Option Ref) → get_elem? (reads a) s ≡ o → target ns o ≡ y → y < length ns → Read a y
  slot-ref a y s none q t l = absurd (omega (arith, r.few))
  slot-ref a y s (some p) q t l =
      let (m, stands, found, same) = index-of p.node ns r.few (subst (λ (k : ℕ). k < length ns) (sym t) l) in (
        m,
        subst (λ (k : ℕ). get_elem? ns k ≡ some m) t stands,
        subst (λ (k : ℕ). member k (map (λ q. q.node) (reads a)) ≡ true) (sym same) (ref-member (reads a) s p q),
      )

  edge-ref : (x y : ℕ) (a : Node) → get_elem? ns x ≡ some a → reads_index ts (length ns) x y ≡ true → Read a y
  edge-ref x y a e h =
      let (s, l, q) = read-slot ts (length ns) x y h in
      slot-ref a y s (get_elem? (reads a) s) refl (sym (r.slots x s a e l) ∙ q) (read_below ts (length ns) x y h)

  ref-edge : (x j : ℕ) (a : Node) → get_elem? ns x ≡ some a → member j (map (λ q. q.node) (reads a)) ≡ true → Is j (ids ns)
      → reads_index ts (length ns) x (index_of j ns) ≡ true
  ref-edge x j a e h i =
      let (s, p, q, same) = member-ref (reads a) j h in
      let l = at-below (reads a) s p q in
      let w = r.narrow a (at-is ns x a e) in
      slot_read ts (length ns) x (index_of j ns) s (omega arith)
      (r.slots x s a e (omega arith) ∙ (ap (target ns) q ∙ ap (λ (k : ℕ). index_of k ns) same)) (in-index j ns i)

  -- ---- paths

  module _ (own : (n : Node) → Is n ns → find_node n.id ns ≡ some n) where
    reads-id : (x : ℕ) (a : Node) (j : ℕ) → get_elem? ns x ≡ some a → member j (map (λ q. q.node) (reads a)) ≡ true → reads_id ns a.id j ≡ true
    reads-id x a j e h = ap (λ (o : Option Node). member j (read_ids o)) (own a (at-is ns x a e)) ∙ h

    pub path-leads : {x y : ℕ} → Path ts (length ns) x y → (a : Node) → get_elem? ns x ≡ some a
        → (b : Node) × (get_elem? ns y ≡ some b) × Leads ns a.id b.id
    path-leads (one {i = x} {j = y} s) a e =
        let (b, stands, h) = edge-ref x y a e s in
        (b, stands, Ids.one (reads-id x a b.id e h))
    path-leads (more {i = x} {k = z} s p) a e =
        let (b, stands, h) = edge-ref x z a e s in
        let (d, ends, q) = path-leads p b stands in
        (d, ends, Ids.more (reads-id x a b.id e h) q)

  step : (i j : ℕ) → reads_id ns i j ≡ true → Is j (ids ns) → reads_index ts (length ns) (index_of i ns) (index_of j ns) ≡ true
  step i j s k =
      let (m, stands, found, same) = index-of i ns r.few (in-index i ns (leads-node ns (Ids.one s))) in
      ref-edge (index_of i ns) j m stands (ap (λ (o : Option Node). member j (read_ids o)) (sym found) ∙ s) k

  leads-path : {i j : ℕ} → Leads ns i j → Is j (ids ns) → Path ts (length ns) (index_of i ns) (index_of j ns)
  leads-path (Ids.one {i = i} {j = j} s) h = one (step i j s h)
  leads-path (Ids.more {i = i} {k = k} s p) h = more (step i k s (leads-node ns p)) (leads-path p h)

  -- a loop by ids is one by indices
  pub loop-path : (i : ℕ) → Leads ns i i → Path ts (length ns) (index_of i ns) (index_of i ns)
  loop-path i p = leads-path p (leads-node ns p)
