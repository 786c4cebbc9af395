-- Nodes by index and by id, and what the slots of a node hold.
use Prim.Native.Nat.{ℕ, zero, suc, ◌+◌, ◌≤◌, ◌<◌}
use mathlib.Core.Path.{◌≡◌, refl, ap, sym, ◌∙◌, subst}
use mathlib.Core.Bool.{Bool, true, false, cond}
use mathlib.Core.List.{List, [], ◌∷◌, map}
use mathlib.Core.Option.{Option, none, some}
use mathlib.Core.Logic.{◌⊎◌, inl, inr, ⊎_elim}
use native.Mathlib.Omega.{arith}
use native.Mathlib.Nat.{zero-add}
use lib.Dec.{eqb}
use lib.ListN.{length, get_elem?}
use borrow.Author.Tests.{eqb-true, eqb-false, eq-eqb}
use Rattle.graph.specs.Graph.{Ref, Node}
use Rattle.graph.specs.Look.{find_node, ids}
use Rattle.base.specs.Lists.{member, Is}
use Rattle.base.specs.Limits.{node_limit, no_node}
use Rattle.order.specs.Resolve.{index_from, index_of}
use Rattle.base.proofs.Lists.{some_is, member-first, member-later, member-inv}

-- ---- what stands at an index

module _ {A : Type 0} where
  pub at-is : (xs : List A) (i : ℕ) (x : A) → get_elem? xs i ≡ some x → Is x xs
  at-is [] i x e = let z : ◌≡◌ {A = ℕ} 0 1 = cc in absurd (omega arith)
  at-is (y ∷ ys) zero x e = inl (cc)
  at-is (y ∷ ys) (suc i) x e = inr (at-is ys i x e)

  pub at-below : (xs : List A) (i : ℕ) (x : A) → get_elem? xs i ≡ some x → i < length xs
  at-below [] i x e = let z : ◌≡◌ {A = ℕ} 0 1 = cc in absurd (omega arith)
  at-below (y ∷ ys) zero x e = omega arith
  at-below (y ∷ ys) (suc i) x e = let h = at-below ys i x e in omega arith

  pub below_at : (xs : List A) (i : ℕ) → i < length xs → (x : A) × (get_elem? xs i ≡ some x)
  below_at [] i h = absurd (omega arith)
  below_at (y ∷ ys) zero h = (y, refl)
  below_at (y ∷ ys) (suc i) h = below_at ys i (omega arith)

-- ---- the index of an id

-- v and o are the index, counted from i, and the node of the id j, or both are none
abbrev Indexed : ℕ → ℕ → List Node → ℕ → Option Node → Type 0
Indexed i j ns v o =
    ((k : ℕ) × (m : Node) × (v ≡ i + k) × (get_elem? ns k ≡ some m) × (o ≡ some m) × (m.id ≡ j)) ⊎ ((v ≡ no_node) × (o ≡ none))

indexed : (i j : ℕ) (ns : List Node) → Indexed i j ns (index_from i j ns) (find_node j ns)
indexed i j [] = inr (refl, refl)
indexed i j (n ∷ ns) = pick_one (eqb n.id j) refl (indexed (i + 1) j ns)
  where
    pick_one :
        (b : Bool) → eqb n.id j ≡ b → Indexed (i + 1) j ns (index_from (i + 1) j ns) (find_node j ns)
        → Indexed i j (n ∷ ns) (cond b i (index_from (i + 1) j ns)) (cond b (some n) (find_node j ns))
    pick_one true q h = inl (0, n, omega arith, refl, refl, eqb-true n.id j q)
    pick_one false q (inl (k, m, e, stands, found, same)) = inl (suc k, m, omega arith, stands, found, same)
    pick_one false q (inr h) = inr h

-- the node at the index of an id
pub index-of : (j : ℕ) (ns : List Node) → length ns ≤ node_limit → index_of j ns < length ns
    → (m : Node) × (get_elem? ns (index_of j ns) ≡ some m) × (find_node j ns ≡ some m) × (m.id ≡ j)
index-of j ns few l =
    ⊎_elim (λ (k, m, e, stands, found, same). (m, ap (get_elem? ns) (e ∙ zero-add k) ∙ stands, found, same)) (λ (e, h). absurd (omega arith))
    (indexed 0 j ns)

-- an index behind the last node
pub no_index : (j : ℕ) (ns : List Node) → length ns ≤ index_of j ns → find_node j ns ≡ none
no_index j ns l =
    ⊎_elim (λ (k, m, e, stands, found, same). let h = at-below ns k m stands in absurd (omega arith)) (λ (e, h). h) (indexed 0 j ns)

-- an id that no node has
pub index-none : (j : ℕ) (ns : List Node) → ((n : Node) → Is n ns → n.id ≡ j → ⊥) → index_of j ns ≡ no_node
index-none j ns h =
    ⊎_elim (λ (k, m, e, stands, found, same). absurd (h m (at-is ns k m stands) same)) (λ (e, found). e) (indexed 0 j ns)

index_below : (i j : ℕ) (ns : List Node) → Is j (ids ns) → index_from i j ns < i + length ns
index_below i j [] h = absurd h
index_below i j (n ∷ ns) h = pick_one (eqb n.id j) refl (λ k. index_below (i + 1) j ns k) h
  where
    pick_one :
        (b : Bool) → eqb n.id j ≡ b → (Is j (ids ns) → index_from (i + 1) j ns < i + 1 + length ns) → (j ≡ n.id) ⊎ Is j (ids ns)
        → cond b i (index_from (i + 1) j ns) < i + suc (length ns)
    pick_one true q ih h = omega arith
    pick_one false q ih (inl e) = absurd (eqb-false n.id j q (sym e))
    pick_one false q ih (inr k) = let l = ih k in omega arith

pub in-index : (j : ℕ) (ns : List Node) → Is j (ids ns) → index_of j ns < length ns
in-index j ns h = let l = index_below 0 j ns h in omega arith

-- the index of an id is that of the first node that has it
first-from : (i : ℕ) (ns : List Node) (v : ℕ) (x : Node) → get_elem? ns v ≡ some x → index_from i x.id ns ≤ i + v
first-from i [] v x e = let z : ◌≡◌ {A = ℕ} 0 1 = cc in absurd (omega arith)
first-from i (n ∷ ns) zero x e =
    let q : n ≡ x = cc in
    subst (λ (b : Bool). cond b i (index_from (i + 1) x.id ns) ≤ i + 0) (sym (eq-eqb n.id x.id (ap (λ (m : Node). m.id) q))) (omega arith)
first-from i (n ∷ ns) (suc v) x e = pick_one (eqb n.id x.id) (first-from (i + 1) ns v x e)
  where
    pick_one : (b : Bool) → index_from (i + 1) x.id ns ≤ i + 1 + v → cond b i (index_from (i + 1) x.id ns) ≤ i + suc v
    pick_one true h = omega arith
    pick_one false h = omega arith

pub index-first : (ns : List Node) (v : ℕ) (x : Node) → get_elem? ns v ≡ some x → index_of x.id ns ≤ v
index-first ns v x e = let l = first-from 0 ns v x e in omega arith

-- ---- references by index

abbrev nodes : List Ref → List ℕ
nodes = map (λ r. r.node)

pub ref-member : (rs : List Ref) (s : ℕ) (r : Ref) → get_elem? rs s ≡ some r → member r.node (nodes rs) ≡ true
ref-member [] s r e = let z : ◌≡◌ {A = ℕ} 0 1 = cc in absurd (omega arith)
ref-member (x ∷ rs) zero r e = subst (λ (y : Ref). member y.node (nodes (x ∷ rs)) ≡ true) (some_is e) (member-first x.node (nodes rs))
ref-member (x ∷ rs) (suc s) r e = member-later r.node x.node (nodes rs) (ref-member rs s r e)

pub member-ref : (rs : List Ref) (j : ℕ) → member j (nodes rs) ≡ true → (s : ℕ) × (r : Ref) × (get_elem? rs s ≡ some r) × (r.node ≡ j)
member-ref [] j e = let z : ◌≡◌ {A = ℕ} 0 1 = cc in absurd (omega arith)
member-ref (x ∷ rs) j e =
    ⊎_elim (λ q. (0, x, refl, q)) (λ h. let (s, r, a, b) = member-ref rs j h in (suc s, r, a, b)) (member-inv j x.node (nodes rs) e)
