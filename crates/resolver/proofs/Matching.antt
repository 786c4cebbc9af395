-- The ids wanted, met with the nodes in turn. No id stands twice, so each is met once at most.
use Prim.Native.Nat.{ℕ, suc, ◌+◌, ◌-◌, ◌≤◌, ◌<◌}
use mathlib.Core.Path.{◌≡◌, refl, sym, ap, ◌∙◌, subst}
use mathlib.Core.Bool.{Bool, true, false, cond}
use mathlib.Core.List.{List, [], ◌∷◌, ◌++◌, map, map-append}
use native.Mathlib.Omega.{arith}
use native.Mathlib.Nat.{add-zero, zero-add}
use lib.Dec.{eqb}
use lib.ListN.{length, get_or, replicate, length-replicate, get_or-replicate}
use borrow.Author.Tests.{eqb-true}
use Rattle.base.specs.Limits.{no_node}
use Rattle.base.specs.Bytes.{u16}
use Rattle.base.specs.Lists.{member, Distinct}
use Rattle.base.specs.Outcome.{ok}
use Rattle.base.proofs.Lists.{member-first, member_right, member-not}
use Rattle.graph.specs.Graph.{Node}
use Rattle.graph.specs.Judge.{fresh}
use Rattle.graph.proofs.Fresh.{fresh-distinct}
use Rattle.reader.specs.Layout.{node_at}
use Rattle.order.specs.Resolve.{index_from, index_of}
use Rattle.resolver.specs.Slots.{nodes_by}
use Rattle.resolver.specs.Groups.{Unfound, Marked}
use Rattle.resolver.proofs.ByPlaces.{by_next, length-by, by-split, by_last}

-- ---- one node: r of the entries are passed

pub record Marking (wanted : List ℕ) (id i : ℕ) (found₀ found : List ℕ) (r : ℕ) : Type 0 where
  pub size : length found ≡ length wanted
  pub done : (q : ℕ) → q < r → get_or found q 0 ≡ cond (eqb id (get_or wanted q 0)) i (get_or found₀ q 0)
  pub rest : (q : ℕ) → r ≤ q → get_or found q 0 ≡ get_or found₀ q 0

-- going down from `no_node`
module _ (b : Bool) (i old : ℕ) (l : i ≤ no_node) (h : b ≡ true → old ≡ no_node) where
  pub lower : old - cond b (no_node - i) 0 ≡ cond b i old
  lower = pick_one b h
    where
      pick_one : (c : Bool) → (c ≡ true → old ≡ no_node) → old - cond c (no_node - i) 0 ≡ cond c i old
      pick_one true g = let e = g refl in omega (arith, e, l)
      pick_one false g = omega arith

  pub lower-fits : cond b (no_node - i) 0 ≤ old
  lower-fits = pick_one b h
    where
      pick_one : (c : Bool) → (c ≡ true → old ≡ no_node) → cond c (no_node - i) 0 ≤ old
      pick_one true g = let e = g refl in omega (arith, e, l)
      pick_one false g = omega arith

abbrev ids : List Node → List ℕ
ids = map (λ n. n.id)

-- ---- the index of an id, one node more behind the others

index-last : (w : ℕ) (xs : List Node) (x : Node) (k : ℕ) → (x.id ≡ w → member w (ids xs) ≡ false) → index_from k w (xs ++ (x ∷ [])) ≡ cond (eqb x.id w) (k + length xs) (index_from k w xs)
index-last w [] x k h = ap (λ (j : ℕ). cond (eqb x.id w) j no_node) (sym (add-zero k))
index-last w (y ∷ xs) x k h = pick_one (eqb y.id w) (eqb x.id w) refl (λ g. index-last w xs x (k + 1) g) h
  where
    pick_one : (b c : Bool) → eqb x.id w ≡ c
        → ((x.id ≡ w → member w (ids xs) ≡ false) → index_from (k + 1) w (xs ++ (x ∷ [])) ≡ cond (eqb x.id w) (k + 1 + length xs) (index_from (k + 1) w xs))
        → (x.id ≡ w → cond b true (member w (ids xs)) ≡ false)
        → cond b k (index_from (k + 1) w (xs ++ (x ∷ []))) ≡ cond c (k + suc (length xs)) (cond b k (index_from (k + 1) w xs))
    pick_one true true f ih g =
        let q : true ≡ false = g (eqb-true x.id w f) in
        let z : ◌≡◌ {A = ℕ} 0 1 = cc in
        absurd (omega arith)
    pick_one true false f ih g = refl
    pick_one false c f ih g =
        let z : k + 1 + length xs ≡ k + suc (length xs) = omega arith in
        ih g ∙ ap (λ (d : Bool). cond d (k + 1 + length xs) (index_from (k + 1) w xs)) f ∙ ap (λ (j : ℕ). cond c j (index_from (k + 1) w xs)) z

index-new : (w : ℕ) (xs : List Node) (k : ℕ) → member w (ids xs) ≡ false → index_from k w xs ≡ no_node
index-new w [] k e = refl
index-new w (x ∷ xs) k e = pick_one (eqb x.id w) e (λ h. index-new w xs (k + 1) h)
  where
    pick_one : (b : Bool) → cond b true (member w (ids xs)) ≡ false → (member w (ids xs) ≡ false → index_from (k + 1) w xs ≡ no_node) → cond b k (index_from (k + 1) w xs) ≡ no_node
    pick_one true h ih = let z : ◌≡◌ {A = ℕ} 0 1 = cc in absurd (omega arith)
    pick_one false h ih = ih h

-- an id that stands behind some others is none of them
apart : (xs : List Node) (x : Node) (ys : List Node) → Distinct (ids (xs ++ x ∷ ys)) → member x.id (ids xs) ≡ false
apart [] x ys d = refl
apart (y ∷ xs) x ys (a, d) = member-not x.id y.id (ids xs) (λ e. other e) (apart xs x ys d)
  where
    other : y.id ≡ x.id → ⊥
    other e =
        let m : member x.id (ids (xs ++ x ∷ ys)) ≡ true = ap (member x.id) (map-append (λ (n : Node). n.id) xs (x ∷ ys)) ∙ member_right x.id (ids xs) (ids (x ∷ ys)) (member-first x.id (ids ys)) in
        let z : true ≡ false = sym m ∙ ap (λ (i : ℕ). member i (ids (xs ++ x ∷ ys))) (sym e) ∙ a in
        let y : ◌≡◌ {A = ℕ} 0 1 = cc in
        omega arith

-- ---- the nodes in turn, i of them met

pub record Matching (s ps wanted found : List ℕ) (i : ℕ) : Type 0 where
  pub size : length found ≡ length wanted
  pub same : (r : ℕ) → r < length wanted → get_or found r 0 ≡ index_of (get_or wanted r 0) (nodes_by s ps 0 i)

module _ {s ps wanted : List ℕ} where
  pub match-start : {found : List ℕ} → found ≡ replicate (length wanted) no_node → Matching s ps wanted found 0
  unfolding nodes_by
  match-start {found} e =
      record {
        size = ap length e ∙ length-replicate (length wanted) no_node;
        same = λ r a. ap (λ (xs : List ℕ). get_or xs r 0) e ∙ get_or-replicate (length wanted) r no_node 0 a;
      }

  module _ {found : List ℕ} {i : ℕ} (h : Matching s ps wanted found i) {count : ℕ} (l : i < count) (f : fresh [] (nodes_by s ps 0 count) ≡ ok tt) {p : ℕ} (ep : p ≡ get_or ps i 0) where
    next-is : p ≡ get_or ps (0 + i) 0
    next-is = ep ∙ ap (λ (j : ℕ). get_or ps j 0) (sym (zero-add i))

    -- none of them has the id of the next
    new : member (u16 s p) (ids (nodes_by s ps 0 i)) ≡ false
    unfolding node_at
    new =
        let z : count ≡ i + (count - i) = omega arith in
        let rest = nodes_by s ps (0 + (i + 1)) (count - (i + 1)) in
        let whole : nodes_by s ps 0 count ≡ nodes_by s ps 0 i ++ node_at s p ∷ rest =
        ap (nodes_by s ps 0) z ∙ by-split s ps 0 i (count - i)
        ∙ ap (λ (ns : List Node). nodes_by s ps 0 i ++ ns) (by_next s ps 0 count i l ∙ ap (λ (q : ℕ). node_at s q ∷ rest) (sym next-is)) in
        apart (nodes_by s ps 0 i) (node_at s p) rest (subst (λ (ns : List Node). Distinct (ids ns)) whole (fresh-distinct (nodes_by s ps 0 count) f))

    pub match-new : Unfound wanted (u16 s p) found
    match-new r a e = h.same r a ∙ ap (λ (w : ℕ). index_of w (nodes_by s ps 0 i)) e ∙ index-new (u16 s p) (nodes_by s ps 0 i) 0 new

    pub match-step : {found' : List ℕ} {id : ℕ} → id ≡ u16 s p → Marked wanted id i found found' → Matching s ps wanted found' (i + 1)
    unfolding node_at
    match-step e k =
        record {
          size = k.size;
          same = λ r a.
              let w = get_or wanted r 0 in
              let ns = nodes_by s ps 0 i in
              let x = node_at s p in
              let z : i ≡ 0 + length ns = sym (length-by s ps 0 i) ∙ sym (zero-add (length ns)) in
              k.marks r a
              ∙ ap (λ (j : ℕ). cond (eqb j w) i (get_or found r 0)) e
              ∙ ap (λ (j : ℕ). cond (eqb (u16 s p) w) i j) (h.same r a)
              ∙ ap (λ (j : ℕ). cond (eqb (u16 s p) w) j (index_of w ns)) z
              ∙ sym (index-last w ns x 0 (λ q. subst (λ (j : ℕ). member j (ids ns) ≡ false) q new))
              ∙ ap (λ (q : ℕ). index_of w (ns ++ (node_at s q ∷ []))) next-is
              ∙ ap (index_of w) (sym (by_last s ps 0 i));
        }
