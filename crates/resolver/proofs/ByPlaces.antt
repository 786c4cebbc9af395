-- The nodes at the places that an array has.
use Prim.Native.Nat.{ℕ, zero, suc, ◌+◌, ◌-◌, ◌≤◌, ◌<◌}
use mathlib.Core.Path.{◌≡◌, refl, sym, ap, ◌∙◌, subst}
use mathlib.Core.Bool.{true}
use mathlib.Core.List.{List, [], ◌∷◌, ◌++◌}
use native.Mathlib.Omega.{arith}
use native.Mathlib.Nat.{add-zero, zero-add, suc-add}
use lib.ListN.{length, get_or}
use Rattle.base.specs.Outcome.{Outcome, ok, fault}
use Rattle.graph.specs.Graph.{Node}
use Rattle.graph.specs.Read.{node}
use Rattle.reader.specs.Layout.{node_at, node_end, nodes_at, node_place}
use Rattle.reader.specs.Find.{ReadsNode, ReadsNodes}
use Rattle.reader.proofs.Passed.{place-reads}
use Rattle.resolver.specs.Slots.{PlacesAre, nodes_by, passed, NodesRead, PlacesRead}

module _ (s ps : List ℕ) where
  -- n of them are passed
  pub by_all : (i count : ℕ) → nodes_by s ps i count ≡ nodes_by s ps (i + 0) (count - 0)
  by_all i count =
      let a : i ≡ i + 0 = omega arith in
      let b : count ≡ count - 0 = omega arith in
      ap (λ (j : ℕ). nodes_by s ps j count) a ∙ ap (nodes_by s ps (i + 0)) b

  pub by_next : (i count n : ℕ) → n < count → nodes_by s ps (i + n) (count - n) ≡ node_at s (get_or ps (i + n) 0) ∷ nodes_by s ps (i + (n + 1)) (count - (n + 1))
  unfolding nodes_by
  by_next i count n l =
      let a : count - n ≡ suc (count - (n + 1)) = omega arith in
      let b : i + n + 1 ≡ i + (n + 1) = omega arith in
      ap (nodes_by s ps (i + n)) a ∙ ap (λ (j : ℕ). node_at s (get_or ps (i + n) 0) ∷ nodes_by s ps j (count - (n + 1))) b

  pub by-none : (i count n : ℕ) → count ≤ n → nodes_by s ps i (count - n) ≡ []
  unfolding nodes_by
  by-none i count n l = let z : count - n ≡ 0 = omega arith in ap (nodes_by s ps i) z

  pub length-by : (i n : ℕ) → length (nodes_by s ps i n) ≡ n
  unfolding nodes_by
  length-by i zero = refl
  length-by i (suc n) = ap suc (length-by (i + 1) n)

  pub by-split : (i a b : ℕ) → nodes_by s ps i (a + b) ≡ nodes_by s ps i a ++ nodes_by s ps (i + a) b
  unfolding nodes_by
  by-split i zero b = ap (nodes_by s ps i) (zero-add b) ∙ ap (λ (j : ℕ). nodes_by s ps j b) (sym (add-zero i))
  by-split i (suc a) b =
      let z : i + 1 + a ≡ i + suc a = omega arith in
      ap (nodes_by s ps i) (suc-add a b) ∙ ap (λ (ns : List Node). node_at s (get_or ps i 0) ∷ ns) (by-split (i + 1) a b)
      ∙ ap (λ (j : ℕ). node_at s (get_or ps i 0) ∷ nodes_by s ps (i + 1) a ++ nodes_by s ps j b) z

  pub by_last : (i n : ℕ) → nodes_by s ps i (n + 1) ≡ nodes_by s ps i n ++ (node_at s (get_or ps (i + n) 0) ∷ [])
  unfolding nodes_by
  by_last i n = by-split i n 1

by-places : (s ps : List ℕ) (i n at : ℕ) → ((j : ℕ) → j < n → get_or ps (i + j) 0 ≡ node_place s at j) → nodes_by s ps i n ≡ nodes_at n s at
unfolding nodes_by nodes_at node_place
by-places s ps i zero at h = refl
by-places s ps i (suc n) at h =
    ap (λ (p : ℕ). node_at s p ∷ nodes_by s ps (i + 1) n) (ap (λ (j : ℕ). get_or ps j 0) (sym (add-zero i)) ∙ h 0 (omega arith))
    ∙ ap (λ (ns : List Node). node_at s at ∷ ns)
    (by-places s ps (i + 1) n (node_end s at) (λ j l. let z : i + 1 + j ≡ i + suc j = omega arith in ap (λ (k : ℕ). get_or ps k 0) z ∙ h (suc j) (omega arith)))

-- ---- what was read

was-ok : {A : Type 0} (o : Outcome A) → passed o ≡ true → (x : A) × (o ≡ ok x)
was-ok (ok x) e = (x, refl)
was-ok (fault n p) e = let z : ◌≡◌ {A = ℕ} 0 1 = cc in absurd (omega arith)

pub read-at : (s ps : List ℕ) (n j : ℕ) → NodesRead s ps n → j < n → ReadsNode s (get_or ps j 0)
read-at s ps n j h l = was-ok (node s (get_or ps j 0)) (h j l)

pub read-all : (s ps : List ℕ) (n : ℕ) → PlacesRead s ps 0 n → NodesRead s ps n
read-all s ps n h j l =
    let (x, e) = h j l in
    ap (λ (k : ℕ). passed (node s (get_or ps k 0))) (sym (zero-add j)) ∙ ap passed e

-- an array that has the places of some nodes has these nodes
module _ (s ps : List ℕ) (n first : ℕ) (h : PlacesAre s first n ps) where
  place_of : (j : ℕ) → j < n → get_or ps (0 + j) 0 ≡ node_place s first j
  place_of j l = ap (λ (k : ℕ). get_or ps k 0) (zero-add j) ∙ h j l

  pub all-by : nodes_by s ps 0 n ≡ nodes_at n s first
  all-by = by-places s ps 0 n first place_of

  pub all_read : ReadsNodes n s first → PlacesRead s ps 0 n
  all_read r j l = subst (ReadsNode s) (sym (place_of j l)) (place-reads s n j first l r)
