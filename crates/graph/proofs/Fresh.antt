-- No id stands twice exactly where the nodes' ids are fresh.
use Prim.Native.Nat.{ℕ}
use mathlib.Core.Path.{◌≡◌, refl, sym, ◌∙◌, subst}
use mathlib.Core.Bool.{Bool, true, false, cond}
use mathlib.Core.List.{List, [], ◌∷◌, map}
use mathlib.Core.Option.{none, some}
use mathlib.Core.Logic.{inl, inr}
use native.Mathlib.Omega.{arith}
use lib.Dec.{eqb}
use Rattle.base.specs.Outcome.{ok}
use Rattle.graph.specs.Graph.{Node, Function}
use Rattle.graph.specs.Look.{find_node, ids}
use Rattle.base.specs.Lists.{member, Is, Distinct}
use Rattle.graph.specs.Judge.{fresh, judge}
use Rattle.base.proofs.Numbers.{eqb-sym}
use Rattle.graph.specs.Checks.{All, Says, id_checks, loop_checks, link_checks, function_checks}
use Rattle.graph.proofs.First.{all_split, judged-is, ids-judged, judge-judged}
use Rattle.graph.proofs.Accept.{fresh-own}

-- none of the ids is among those of `before`
abbrev Apart : List Node → List Node → Type 0
Apart before ns = (n : Node) → Is n ns → find_node n.id before ≡ none

-- the head's id is not among the later ones: they are found apart from it
head_apart : (x : Node) (before ns : List Node) → Apart (x ∷ before) ns → member x.id (ids ns) ≡ false
head_apart x before [] h = refl
head_apart x before (n ∷ ns) h = go (eqb x.id n.id) refl (h n (inl refl)) (head_apart x before ns (λ y i. h y (inr i)))
  where
    go : (b : Bool) → eqb x.id n.id ≡ b → cond b (some x) (find_node n.id before) ≡ none → member x.id (ids ns) ≡ false
        → cond (eqb n.id x.id) true (member x.id (ids ns)) ≡ false
    go true q e ih = let z : ◌≡◌ {A = ℕ} 0 1 = cc in absurd (omega arith)
    go false q e ih = rw (sym (eqb-sym x.id n.id) ∙ q) ih

pub ids-distinct : (before ns : List Node) → All (id_checks before ns) → Distinct (ids ns)
ids-distinct before [] a = tt
ids-distinct before (x ∷ ns) (e, a) = (head_apart x before ns (λ n i. (fresh-own (x ∷ before) ns a n i).0), ids-distinct (x ∷ before) ns a)

-- an id that is not among the ids is another's
not-member : (i : ℕ) (ns : List Node) → member i (ids ns) ≡ false → (n : Node) → Is n ns → eqb i n.id ≡ false
not-member i [] e n h = absurd h
not-member i (x ∷ ns) e n h = go (eqb x.id i) refl e h (λ f j. not-member i ns f n j)
  where
    go : (b : Bool) → eqb x.id i ≡ b → cond b true (member i (ids ns)) ≡ false → Is n (x ∷ ns)
        → (member i (ids ns) ≡ false → Is n ns → eqb i n.id ≡ false) → eqb i n.id ≡ false
    go true q e h ih = let z : ◌≡◌ {A = ℕ} 0 1 = cc in absurd (omega arith)
    go false q e (inl r) ih = subst (λ (y : Node). eqb i y.id ≡ false) (sym r) (eqb-sym i x.id ∙ q)
    go false q e (inr h) ih = ih e h

pub fresh-distinct : (ns : List Node) → fresh [] ns ≡ ok tt → Distinct (map (λ n. n.id) ns)
fresh-distinct ns e = ids-distinct [] ns (subst (Says (id_checks [] ns)) e (ids-judged [] ns).0)

ids-fresh : (before ns : List Node) → Apart before ns → Distinct (ids ns) → All (id_checks before ns)
ids-fresh before [] a d = tt
ids-fresh before (x ∷ ns) a (m, d) = (a x (inl refl), ids-fresh (x ∷ before) ns (λ n i. rw (not-member x.id ns m n i) (a n (inr i))) d)

pub distinct-fresh : (ns : List Node) → Distinct (map (λ n. n.id) ns) → fresh [] ns ≡ ok tt
distinct-fresh ns d = judged-is (id_checks [] ns) (fresh [] ns) (ok tt) (ids-judged [] ns) (ids-fresh [] ns (λ n h. refl) d)

pub judged-distinct : (early : List Function) (f : Function) (u : Unit {0}) → judge early f ≡ ok u → Distinct (ids f.nodes)
judged-distinct early f u e =
    let a = subst (Says (function_checks early f)) e (judge-judged early f).0 in
    let l = (all_split (link_checks early f) (loop_checks f.nodes f.nodes) a).0 in
    ids-distinct [] f.nodes (all_split (id_checks [] f.nodes) _ l.1).0
