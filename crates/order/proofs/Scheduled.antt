-- The order by indices is the schedule of the nodes.
use Prim.Native.Nat.{ℕ, zero, suc, ◌+◌, ◌≤◌, ◌<◌}
use mathlib.Core.Path.{◌≡◌, refl, ap, sym, ◌∙◌, subst}
use mathlib.Core.Bool.{Bool, true, false, not, ◌&&◌, ◌||◌, cond}
use mathlib.Core.List.{List, [], ◌∷◌, map}
use mathlib.Core.Option.{Option, none, some}
use mathlib.Core.Logic.{◌⊎◌, inl, inr, ⊎_elim}
use native.Mathlib.Omega.{arith}
use lib.Dec.{eqb, ltb}
use lib.ListN.{length, get_elem?}
use borrow.Author.Tests.{eqb-true, eqb-false, eq-eqb, ne_eqb, le-leb, lt-leb, lt-ltb, le-ltb}
use Rattle.graph.specs.Graph.{Ref, Node}
use Rattle.graph.specs.Look.{find_node, reads, ids}
use Rattle.base.specs.Lists.{member, Is}
use Rattle.graph.specs.Schedule.{Picked, before, pick, order, schedule}
use Rattle.graph.specs.Schedule as Graph
use Rattle.base.proofs.Bools.{and-inv}
use Rattle.order.specs.Indices.{first_of, all_of, slot, settled, ready, eligible, next, order_from, index_order}
use Rattle.order.specs.Resolve.{index_of, target, Resolves}
use Rattle.order.proofs.Range.{First, first-is, all_same}
use Rattle.order.proofs.Nodes.{at-is, index-of, index-none, in-index, index-first, ref-member}
use Rattle.base.specs.Limits.{no_node, operand_limit}
use Rattle.base.proofs.Lists.{some_is}

-- ---- the references one by one

abbrev all_refs : (Option Ref → Bool) → List Ref → Bool
all_refs test [] = true
all_refs test (r ∷ rs) = test (some r) && all_refs test rs

module _ (test : Option Ref → Bool) (pass : test none ≡ true) where
  -- the k slots from i on are those of rs, and the others hold no reference
  slots-refs : (all : List Ref) (k i : ℕ) (rs : List Ref) → ((w : ℕ) → get_elem? all (i + w) ≡ get_elem? rs w) → length rs ≤ k
      → all_of (λ j. test (get_elem? all j)) i k ≡ all_refs test rs
  unfolding all_of
  slots-refs all zero i [] h l = refl
  slots-refs all zero i (r ∷ rs) h l = absurd (omega arith)
  slots-refs all (suc k) i rs h l =
      ap (λ (o : Option Ref). test o && all_of (λ j. test (get_elem? all j)) (suc i) k) (ap (λ (m : ℕ). get_elem? all m) here ∙ h 0)
      ∙ pick_one rs h l (λ xs a b. slots-refs all k (suc i) xs a b)
    where
      here : i ≡ i + 0
      here = omega arith

      after : (w : ℕ) → suc i + w ≡ i + suc w
      after w = omega arith

      pick_one :
          (rs : List Ref) → ((w : ℕ) → get_elem? all (i + w) ≡ get_elem? rs w) → length rs ≤ suc k
          → ((xs : List Ref) → ((w : ℕ) → get_elem? all (suc i + w) ≡ get_elem? xs w) → length xs ≤ k → all_of (λ j. test (get_elem? all j)) (suc i) k ≡ all_refs test xs)
          → test (get_elem? rs 0) && all_of (λ j. test (get_elem? all j)) (suc i) k ≡ all_refs test rs
      pick_one [] h l ih =
          ap (λ (b : Bool). b && all_of (λ j. test (get_elem? all j)) (suc i) k) pass
          ∙ ih [] (λ w. ap (λ (m : ℕ). get_elem? all m) (after w) ∙ h (suc w)) (omega arith)
      pick_one (r ∷ xs) h l ih =
          ap (λ (b : Bool). test (some r) && b) (ih xs (λ w. ap (λ (m : ℕ). get_elem? all m) (after w) ∙ h (suc w)) (omega arith))

abbrev taking : Node → List Node → Picked
taking x xs = record { node = x; rest = xs }

-- the order that goes on with what was picked
abbrev onward : ℕ → List ℕ → Option Picked → List Node
onward k done o = elim o as (λ q. List Node) [ none ↦ [] | some p ↦ p.node ∷ order k (p.node.id ∷ done) p.rest ]

-- ---- what is left

-- the nodes that are not taken, from the index i on
abbrev left_from : List ℕ → ℕ → List Node → List Node
left_from is i [] = []
left_from is i (x ∷ xs) = cond (member i is) (left_from is (suc i) xs) (x ∷ left_from is (suc i) xs)

left-all : (i : ℕ) (xs : List Node) → left_from [] i xs ≡ xs
left-all i [] = refl
left-all i (x ∷ xs) = ap (λ (l : List Node). x ∷ l) (left-all (suc i) xs)

-- an index before them says nothing
left-past : (f : ℕ) (is : List ℕ) (i : ℕ) (xs : List Node) → f < i → left_from (f ∷ is) i xs ≡ left_from is i xs
left-past f is i [] h = refl
left-past f is i (x ∷ xs) h = rw (ne_eqb f i (λ e. omega arith), left-past f is (suc i) xs (omega arith))

module _ (ts : List ℕ) (ns : List Node) (r : Resolves ts ns) where
  -- ---- a node is ready by its slots where it is by its references

  -- an id is done where the first node that has it is
  abbrev Agree : List ℕ → List ℕ → Type 0
  Agree is done = (j : ℕ) → Is j (ids ns) → member (index_of j ns) is ≡ member j done

  nothing-settled : (is : List ℕ) → settled (length ns) (λ v. member v is) no_node ≡ true
  nothing-settled is = ap (λ (b : Bool). b || member no_node is) (le-leb (length ns) no_node (let f = r.few in omega arith))

  target-settled :
      (is done : List ℕ) → Agree is done → (x : Node) → Is x ns → (s : ℕ) (q : Ref) → get_elem? (reads x) s ≡ some q
      → settled (length ns) (λ v. member v is) (target ns (some q)) ≡ eqb q.node 0 || member q.node done
  target-settled is done h x i s q e = pick_one (eqb q.node 0) refl
    where
      pick_one :
          (b : Bool) → eqb q.node 0 ≡ b → settled (length ns) (λ v. member v is) (index_of q.node ns) ≡ b || member q.node done
      pick_one true w =
          let z = eqb-true q.node 0 w in
          ap (settled (length ns) (λ v. member v is)) (index-none q.node ns (λ n k e. let l = r.named n k in omega arith)) ∙ nothing-settled is
      pick_one false w =
          let j : Is q.node (ids ns) =
          ⊎_elim (λ z. absurd (eqb-false q.node 0 w z)) (λ a. a) (r.closed x q.node i (ref-member (reads x) s q e)) in
          ap (λ (b : Bool). b || member (index_of q.node ns) is) (lt-leb (length ns) (index_of q.node ns) (in-index q.node ns j)) ∙ h q.node j

  refs-ready :
      (is done : List ℕ) → Agree is done → (x : Node) → Is x ns → (rs : List Ref) (k : ℕ) → ((w : ℕ) → get_elem? (reads x) (k + w) ≡ get_elem? rs w)
      → all_refs (λ o. settled (length ns) (λ v. member v is) (target ns o)) rs ≡ Graph.ready done rs
  refs-ready is done h x i [] k f = refl
  refs-ready is done h x i (q ∷ rs) k f =
      let g : k ≡ k + 0 = omega arith in
      let a = target-settled is done h x i k q (ap (λ (m : ℕ). get_elem? (reads x) m) g ∙ f 0) in
      let b = refs-ready is done h x i rs (suc k) (λ w. let e : suc k + w ≡ k + suc w = omega arith in ap (λ (m : ℕ). get_elem? (reads x) m) e ∙ f (suc w)) in
      rw (a, b)

  pub ready-is : (is done : List ℕ) → Agree is done → (v : ℕ) (x : Node) → get_elem? ns v ≡ some x
      → ready ts (length ns) (λ w. member w is) v ≡ Graph.ready done (reads x)
  ready-is is done h v x e =
      let n = length ns in
      let i = at-is ns v x e in
      all_same (λ j. settled n (λ w. member w is) (slot ts v j)) (λ j. settled n (λ w. member w is) (target ns (get_elem? (reads x) j))) operand_limit 0
      (λ j a b. ap (λ (t : ℕ). settled n (λ w. member w is) t) (r.slots v j x e (omega arith)))
      ∙ (slots-refs (λ o. settled n (λ w. member w is) (target ns o)) (nothing-settled is) (reads x) operand_limit 0 (reads x)
      (λ w. let e : 0 + w ≡ w = omega arith in ap (λ (m : ℕ). get_elem? (reads x) m) e) (r.narrow x i)
      ∙ refs-ready is done h x i (reads x) 0 (λ w. let e : 0 + w ≡ w = omega arith in ap (λ (m : ℕ). get_elem? (reads x) m) e))

  -- ---- the first that is ready

  -- the node at f is picked
  record Chosen (is done : List ℕ) (i : ℕ) (xs left : List Node) (f : ℕ) : Type 0 where
    node : Node
    stands : get_elem? ns f ≡ some node
    picked : pick done left ≡ some (taking node (left_from (f ∷ is) i xs))
    within : f < i + length xs

  abbrev Picks : List ℕ → List ℕ → ℕ → List Node → List Node → ℕ → Type 0
  Picks is done i xs left f = ((f ≡ i + length xs) × (pick done left ≡ none)) ⊎ Chosen is done i xs left f

  pick-step :
      (is done : List ℕ) (x : Node) (xs : List Node) (i f : ℕ) → get_elem? ns i ≡ some x → suc i ≤ f → (a b : Bool) → member i is ≡ a
      → Graph.ready done (reads x) ≡ b → Picks is done (suc i) xs (left_from is (suc i) xs) f
      → Picks is done i (x ∷ xs) (cond a (left_from is (suc i) xs) (x ∷ left_from is (suc i) xs)) (cond (not a && b) i f)
  pick-step is done x xs i f st l true b ea eb (inl (p, q)) = inl (omega arith, q)
  pick-step is done x xs i f st l true b ea eb (inr c) =
      let rest = left_from (f ∷ is) (suc i) xs in
      inr
      (record {
        node = c.node;
        stands = c.stands;
        picked = c.picked ∙ ap (λ (d : Bool). some (taking c.node (cond d rest (x ∷ rest)))) (sym (stays (eqb f i)));
        within = omega (arith, c.within);
      })
    where
      stays : (b : Bool) → cond b true (member i is) ≡ true
      stays true = refl
      stays false = ea
  pick-step is done x xs i f st l false true ea eb ih =
      let left = left_from is (suc i) xs in
      inr
      (record {
        node = x;
        stands = st;
        picked =
            ap (λ (d : Bool). cond d (some (taking x left)) (before x (pick done left))) eb
            ∙ ap (λ (m : List Node). some (taking x m)) (sym (rw (eq-eqb i i refl, left-past i is (suc i) xs (omega arith))));
        within = omega arith;
      })
  pick-step is done x xs i f st l false false ea eb (inl (p, q)) =
      inl (
        omega arith,
        ap (λ (d : Bool). cond d (some (taking x (left_from is (suc i) xs))) (before x (pick done (left_from is (suc i) xs)))) eb
            ∙ ap (λ (o : Option Picked). before x o) q,
      )
  pick-step is done x xs i f st l false false ea eb (inr c) =
      let rest = left_from (f ∷ is) (suc i) xs in
      inr
      (record {
        node = c.node;
        stands = c.stands;
        picked =
            ap (λ (d : Bool). cond d (some (taking x (left_from is (suc i) xs))) (before x (pick done (left_from is (suc i) xs)))) eb
            ∙ (ap (λ (o : Option Picked). before x o) c.picked
            ∙ sym (rw (ne_eqb f i (λ e. omega arith), ea)));
        within = omega (arith, c.within);
      })

  module _ (is done : List ℕ) (agree : Agree is done) where
    abbrev can : ℕ → Bool
    can = eligible ts (length ns) (λ v. member v is)

    pick_is : (xs : List Node) (i : ℕ) → ((w : ℕ) → get_elem? ns (i + w) ≡ get_elem? xs w)
        → Picks is done i xs (left_from is i xs) (first_of can i (length xs))
    unfolding first_of
    pick_is [] i h = let e : i ≡ i + 0 = omega arith in inl (e, refl)
    pick_is (x ∷ xs) i h =
        let e : i ≡ i + 0 = omega arith in
        let stands : get_elem? ns i ≡ some x = ap (λ (m : ℕ). get_elem? ns m) e ∙ h 0 in
        subst
        (λ (b : Bool).
        Picks is done i (x ∷ xs) (cond (member i is) (left_from is (suc i) xs) (x ∷ left_from is (suc i) xs))
        (cond (not (member i is) && b) i (first_of can (suc i) (length xs))))
        (sym (ready-is is done agree i x stands))
        (pick-step is done x xs i (first_of can (suc i) (length xs)) stands (first-is can (length xs) (suc i)).low (member i is)
        (Graph.ready done (reads x)) refl refl (pick_is xs (suc i) (λ w. ap (λ (m : ℕ). get_elem? ns m) (after w) ∙ h (suc w))))
      where
        after : (w : ℕ) → suc i + w ≡ i + suc w
        after w = omega arith

  module _ (own : (n : Node) → Is n ns → find_node n.id ns ≡ some n) where
    agree-step :
        (is done : List ℕ) (f : ℕ) (y : Node) → Agree is done → First (eligible ts (length ns) (λ v. member v is)) 0 (length ns) f
        → f < length ns → get_elem? ns f ≡ some y → Agree (f ∷ is) (y.id ∷ done)
    agree-step is done f y agree first l e j i = go (index-of j ns r.few (in-index j ns i)) (eqb y.id j) (eqb f v) refl refl
      where
        v : ℕ
        v = index_of j ns

        go : (m : Node) × (get_elem? ns v ≡ some m) × (find_node j ns ≡ some m) × (m.id ≡ j) → (a b : Bool) → eqb y.id j ≡ a → eqb f v ≡ b
            → cond b true (member v is) ≡ cond a true (member j done)
        go m true true qa qb = refl
        go (m, at, found, same) true false qa qb = earlier (member v is) refl
          where
            id : y.id ≡ j
            id = eqb-true y.id j qa

            -- both have the same references
            ready-both : ready ts (length ns) (λ w. member w is) v ≡ true
            ready-both =
                let s : m ≡ y = some_is (sym found ∙ (ap (λ (k : ℕ). find_node k ns) (sym id) ∙ own y (at-is ns f y e))) in
                ready-is is done agree v m at ∙ (ap (λ (n : Node). Graph.ready done (reads n)) s ∙ (sym (ready-is is done agree f y e)
                ∙ (and-inv (not (member f is)) (ready ts (length ns) (λ w. member w is) f) (first.hit (omega arith))).1))

            earlier : (b : Bool) → member v is ≡ b → b ≡ true
            earlier true q = refl
            earlier false q =
                let d : f ≡ v → ⊥ = eqb-false f v qb in
                let low : v ≤ f = subst (λ (k : ℕ). index_of k ns ≤ f) id (index-first ns f y e) in
                let w = first.miss v (omega arith) (omega arith) in
                sym (rw (q, ready-both) at w)
        go (m, at, found, same) false true qa qb =
            let s : m ≡ y = some_is (sym at ∙ (ap (λ (k : ℕ). get_elem? ns k) (sym (eqb-true f v qb)) ∙ e)) in
            absurd (eqb-false y.id j qa (ap (λ (n : Node). n.id) (sym s) ∙ same))
        go m false false qa qb = agree j i

    order_is : (k : ℕ) (is done : List ℕ) → Agree is done
        → map (λ i. get_elem? ns i) (order_from ts (length ns) k is) ≡ map some (order k done (left_from is 0 ns))
    unfolding order_from
    order_is zero is done agree = refl
    order_is (suc k) is done agree =
        go (next ts (length ns) (λ v. member v is)) (first-is (eligible ts (length ns) (λ v. member v is)) (length ns) 0)
        (pick_is is done agree ns 0 (λ w. let e : 0 + w ≡ w = omega arith in ap (λ (m : ℕ). get_elem? ns m) e)) (λ a b h. order_is k a b h)
      where
        go : (f : ℕ) → First (eligible ts (length ns) (λ v. member v is)) 0 (length ns) f → Picks is done 0 ns (left_from is 0 ns) f
            → ((a b : List ℕ) → Agree a b → map (λ i. get_elem? ns i) (order_from ts (length ns) k a) ≡ map some (order k b (left_from a 0 ns)))
            → map (λ i. get_elem? ns i) (cond (ltb f (length ns)) (f ∷ order_from ts (length ns) k (f ∷ is)) []) ≡ map some (onward k done (pick done (left_from is 0 ns)))
        go f first (inl (p, q)) ih = rw (le-ltb f (length ns) (omega arith), q)
        go f first (inr c) ih =
            let l : f < length ns = omega (arith, c.within) in
            rw (lt-ltb f (length ns) l, c.picked, c.stands)
            (ap (λ (os : List (Option Node)). some c.node ∷ os) (ih (f ∷ is) (c.node.id ∷ done) (agree-step is done f c.node agree first l c.stands)))

    -- the nodes at the indices of the order, in turn, are the schedule
    pub schedule-is : map (λ i. get_elem? ns i) (index_order ts (length ns)) ≡ map some (schedule ns)
    unfolding index_order schedule
    schedule-is =
        order_is (length ns) [] [] (λ j i. refl) ∙ ap (λ (l : List Node). map some (order (length ns) [] l)) (left-all 0 ns)
