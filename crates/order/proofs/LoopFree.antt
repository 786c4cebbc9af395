-- The order and the loops by indices give the check of the loops, 13.
use Prim.Native.Nat.{ℕ, zero, suc, ◌-◌, ◌<◌}
use mathlib.Core.Path.{◌≡◌, refl, ap, sym, ◌∙◌, subst}
use mathlib.Core.List.{List, [], ◌∷◌}
use mathlib.Core.Option.{some}
use mathlib.Core.Logic.{inl, inr}
use native.Mathlib.Omega.{arith}
use lib.ListN.{length, get_elem?, length-map}
use Rattle.base.specs.Outcome.{ok, fault}
use Rattle.graph.specs.Graph.{Node, Function}
use Rattle.graph.specs.Look.{find_node}
use Rattle.graph.specs.Loops.{Leads}
use Rattle.graph.specs.Judge.{loop_free}
use Rattle.base.specs.Lists.{Is}
use Rattle.graph.specs.Schedule.{schedule}
use Rattle.graph.specs.Checks as Checks
use Rattle.graph.specs.Checks.{loop_checks}
use Rattle.graph.proofs.First.{judged-is, loops-judged}
use Rattle.graph.proofs.Order.{schedule-right}
use Rattle.graph.proofs.Accept.{loop-free-iff}
use Rattle.std.specs.Prelude.{Some, None}
use Rattle.order.specs.Indices.{first_of, index_order}
use Rattle.order.specs.Paths.{Path, on_loop, first_on_loop}
use Rattle.order.specs.Resolve.{index_of, Resolves}
use Rattle.order.proofs.Range.{both, first-is, in-some, in-none}
use Rattle.order.proofs.Nodes.{below_at, index-first}
use Rattle.order.proofs.Scheduled.{schedule-is}
use Rattle.order.proofs.Closure.{on-loop-iff}
use Rattle.order.proofs.Edges.{path-leads, loop-path}
use Rattle.order.proofs.Complete.{complete-free, path-below}
use Rattle.base.proofs.Lists.{some_is}

-- those before x lie on no loop, and x does
first-at : (all xs : List Node) (i : ℕ) (x : Node) → get_elem? xs i ≡ some x
    → ((v : ℕ) (y : Node) → v < i → get_elem? xs v ≡ some y → Leads all y.id y.id → ⊥) → Leads all x.id x.id
    → Checks.First (loop_checks all xs) 13 x.place
first-at all [] i x e h l = let z : ◌≡◌ {A = ℕ} 0 1 = cc in absurd (omega arith)
first-at all (y ∷ xs) zero x e h l =
    inl (subst (λ (m : Node). Leads all m.id m.id) (sym (some_is e)) l, refl, ap (λ (m : Node). m.place) (some_is e))
first-at all (y ∷ xs) (suc i) x e h l = inr (h 0 y (omega arith) refl, first-at all xs i x e (λ v z a q. h (suc v) z (omega arith) q) l)

-- ---- what the answer says

module _ (ts : List ℕ) (n : ℕ) where
  abbrev first : ℕ
  first = first_of (on_loop ts n) 0 (n - 0)

  before-none : (v : ℕ) → v < first → Path ts n v v → ⊥
  before-none v h p = both (on_loop ts n v) ((on-loop-iff ts n v).1 p) ((first-is (on_loop ts n) (n - 0) 0).miss v (omega arith) h)

  pub found_at : (i : ℕ) → first_on_loop ts n ≡ Some i → (i < n) × Path ts n i i × ((v : ℕ) → v < i → Path ts n v v → ⊥)
  unfolding first_on_loop
  found_at i e =
      let (s, l) = in-some (on_loop ts n) n 0 i (sym e) in
      subst (λ (k : ℕ). (k < n) × Path ts n k k × ((v : ℕ) → v < k → Path ts n v v → ⊥)) (sym s)
      (omega arith, (on-loop-iff ts n first).0 ((first-is (on_loop ts n) (n - 0) 0).hit (omega arith)), before-none)

  pub found_none : first_on_loop ts n ≡ None → (i : ℕ) → Path ts n i i → ⊥
  unfolding first_on_loop
  found_none e i p =
      let a = in-none (on_loop ts n) n 0 (sym e) in
      let b = path-below ts n p in
      before-none i (omega arith) p

-- ---- the nodes of a function, each with an id of its own

module _
    (ts : List ℕ) (f : Function) (r : Resolves ts f.nodes) (own : (n : Node) → Is n f.nodes → find_node n.id f.nodes ≡ some n)
  where
    free : ((x : ℕ) → Path ts (length f.nodes) x x → ⊥) → loop_free f ≡ ok tt
    free h = (loop-free-iff f).1 (λ i p. h (index_of i f.nodes) (loop-path ts f.nodes r i p))

    order-size : length (index_order ts (length f.nodes)) ≡ length (schedule f.nodes)
    order-size =
        sym (length-map (index_order ts (length f.nodes)) (λ i. get_elem? f.nodes i))
        ∙ (ap length (schedule-is ts f.nodes r own) ∙ length-map (schedule f.nodes) some)

    -- every node is in the order exactly where none lies on a loop
    pub complete-iff :
        (length (index_order ts (length f.nodes)) ≡ length f.nodes → loop_free f ≡ ok tt)
        × (loop_free f ≡ ok tt → length (index_order ts (length f.nodes)) ≡ length f.nodes)
    complete-iff = (
      λ e. free (complete-free ts (length f.nodes) e),
      λ e. order-size ∙ (schedule-right f.nodes (record { own = own; closed = r.closed; free = (loop-free-iff f).0 e })).size,
    )

    -- no node lies on a loop
    pub nowhere-free : first_on_loop ts (length f.nodes) ≡ None → loop_free f ≡ ok tt
    nowhere-free e = free (found_none ts (length f.nodes) e)

    -- the node at i is the first that does
    pub loop-fault : (i : ℕ) → first_on_loop ts (length f.nodes) ≡ Some i
        → (x : Node) × (get_elem? f.nodes i ≡ some x) × (loop_free f ≡ fault 13 x.place)
    loop-fault i e =
        let ns = f.nodes in
        let (l, p, least) = found_at ts (length ns) i e in
        let (x, stands) = below_at ns i l in
        let (b, ends, q) = path-leads ts ns r own p x stands in
        let lies : Leads ns x.id x.id = subst (λ (m : Node). Leads ns x.id m.id) (some_is (sym ends ∙ stands)) q in
        let none_before : (v : ℕ) (y : Node) → v < i → get_elem? ns v ≡ some y → Leads ns y.id y.id → ⊥ =
        λ v y h g w. let a = index-first ns v y g in least (index_of y.id ns) (omega arith) (loop-path ts ns r y.id w) in
        (x, stands, judged-is (loop_checks ns ns) (loop_free f) (fault 13 x.place) (loops-judged ns ns) (first-at ns ns i x stands none_before lies))
