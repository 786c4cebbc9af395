-- The order has every node once, each after all that it reads.
use Prim.Native.Nat.{ℕ, zero, suc, ◌+◌, ◌≤◌}
use mathlib.Core.Path.{◌≡◌, refl, ap, sym, ◌∙◌, subst}
use mathlib.Core.Bool.{Bool, true, false, ◌||◌, cond}
use mathlib.Core.List.{List, [], ◌∷◌, map}
use mathlib.Core.Option.{Option, none, some}
use mathlib.Core.Logic.{◌⊎◌, inl, inr, ⊎_elim, ◌↔◌}
use native.Mathlib.Omega.{arith}
use lib.Dec.{eqb}
use lib.ListN.{length, get_elem?}
use borrow.Author.Tests.{eqb-true, eqb-false, eq-eqb}
use Rattle.graph.specs.Graph.{Ref, Node, Function}
use Rattle.base.specs.Lists.{member, Is, Distinct}
use Rattle.graph.specs.Look.{read_ids, find_node, reads, ids}
use Rattle.graph.specs.Loops.{reads_id, Leads, one, more}
use Rattle.graph.specs.Schedule.{ready, Picked, before, pick, order, schedule}
use Rattle.graph.proofs.Loops.{found-or-none, stuck-loops, leads-node}
use Rattle.graph.proofs.First.{loops-judged, first-loop}
use Rattle.base.proofs.Bools.{and-inv, or-inv, and-inv-false, cond-or}
use Rattle.graph.proofs.Accept.{no_loop}
use Rattle.base.proofs.Outcomes.{is-each}
use Rattle.base.specs.Outcome.{Outcome, ok, fault}
use Rattle.base.proofs.Lists.{member-first, member-inv, member-later}
use Rattle.graph.specs.Sound.{Wired, Resolved, Sound}
use Rattle.graph.specs.Formed.{FormedNode}
use Rattle.graph.specs.Sums.{sum}
use Rattle.graph.specs.Orders.{FirstOnLoop, Orders}
pub use Rattle.graph.specs.Orders.{Ordered}
use Rattle.graph.specs.Types.{ref_type, gives_at, wants_of}
use Rattle.graph.specs.Judge.{loop_free}
use Rattle.graph.specs.Checks.{Says, loop_checks}

pub is-in : (n : Node) (ns : List Node) → Is n ns → Is n.id (ids ns)
is-in n [] h = absurd h
is-in n (x ∷ xs) (inl e) = inl (ap (λ (m : Node). m.id) e)
is-in n (x ∷ xs) (inr h) = inr (is-in n xs h)

pub in_is : (i : ℕ) (ns : List Node) → Is i (ids ns) → (n : Node) × Is n ns × (i ≡ n.id)
in_is i [] h = absurd h
in_is i (x ∷ xs) (inl e) = (x, inl refl, e)
in_is i (x ∷ xs) (inr h) = let (n, a, e) = in_is i xs h in (n, inr a, e)

or-inv-false : (a b : Bool) → a || b ≡ false → (a ≡ false) × (b ≡ false)
or-inv-false true b e = let z : ◌≡◌ {A = ℕ} 0 1 = cc in absurd (omega arith)
or-inv-false false b e = (refl, e)

-- ---- a node that is not ready

-- a reference that is neither to an input nor to what is done
abbrev Waits : List ℕ → List Ref → Type 0
Waits done rs = (j : ℕ) × (member j (map (λ r. r.node) rs) ≡ true) × (j ≡ 0 → ⊥) × (member j done ≡ false)

later : (done : List ℕ) (r : Ref) (rs : List Ref) → Waits done rs → Waits done (r ∷ rs)
later done r rs (j, m, z, d) = (j, cond-or (eqb r.node j) _ m, z, d)

waits : (done : List ℕ) (rs : List Ref) → ready done rs ≡ false → Waits done rs
waits done [] e = let z : ◌≡◌ {A = ℕ} 0 1 = cc in absurd (omega arith)
waits done (r ∷ rs) e = ⊎_elim here (λ b. later done r rs (waits done rs b)) (and-inv-false (eqb r.node 0 || member r.node done) (ready done rs) e)
  where
    here : eqb r.node 0 || member r.node done ≡ false → Waits done (r ∷ rs)
    here f =
        let (a, b) = or-inv-false (eqb r.node 0) (member r.node done) f in
        (r.node, member-first r.node (map (λ r. r.node) rs), eqb-false r.node 0 a, b)

before-none : (n : Node) (o : Option Picked) → before n o ≡ none → o ≡ none
before-none n none e = refl
before-none n (some p) e = let z : ◌≡◌ {A = ℕ} 0 1 = cc in absurd (omega arith)

pick-none : (done : List ℕ) (left : List Node) → pick done left ≡ none → (n : Node) → Is n left → ready done (reads n) ≡ false
pick-none done [] e n h = absurd h
pick-none done (x ∷ xs) e n h = go (ready done (reads x)) refl (λ f. pick-none done xs f n) e h
  where
    go :
        (b : Bool) → ready done (reads x) ≡ b → (pick done xs ≡ none → Is n xs → ready done (reads n) ≡ false)
        → cond b (some (record { node = x; rest = xs })) (before x (pick done xs)) ≡ none → (n ≡ x) ⊎ Is n xs → ready done (reads n) ≡ false
    go true q ih f h = let z : ◌≡◌ {A = ℕ} 0 1 = cc in absurd (omega arith)
    go false q ih f (inl a) = rw a q
    go false q ih f (inr a) = ih (before-none x (pick done xs) f) a

-- ---- a node that is picked

pub record Split (done : List ℕ) (p : Picked) (left : List Node) : Type 0 where
  pub fit : ready done (reads p.node) ≡ true
  pub total : (g : Node → ℕ) → sum g left ≡ g p.node + sum g p.rest
  pub size : length left ≡ suc (length p.rest)
  pub picked : Is p.node left
  pub here : (n : Node) → Is n left → (n ≡ p.node) ⊎ Is n p.rest
  pub there : (n : Node) → Is n p.rest → Is n left

abbrev pushed : Node → Picked → Picked
pushed n p = record { node = p.node; rest = n ∷ p.rest }

before-some : (n : Node) (o : Option Picked) (p : Picked) → before n o ≡ some p → (q : Picked) × (o ≡ some q) × (pushed n q ≡ p)
before-some n none p e = let z : ◌≡◌ {A = ℕ} 0 1 = cc in absurd (omega arith)
before-some n (some q) p e = (q, refl, cc)

push : (done : List ℕ) (x : Node) (xs : List Node) (q : Picked) → Split done q xs → Split done (pushed x q) (x ∷ xs)
push done x xs q s = record { fit = s.fit; total = total; size = ap suc s.size; picked = inr s.picked; here = here; there = there }
  where
    total : (g : Node → ℕ) → g x + sum g xs ≡ g q.node + (g x + sum g q.rest)
    total g = let e : sum g xs ≡ g q.node + sum g q.rest = s.total g in omega arith

    here : (n : Node) → Is n (x ∷ xs) → (n ≡ q.node) ⊎ Is n (x ∷ q.rest)
    here n (inl e) = inr (inl e)
    here n (inr h) = ⊎_elim (λ a. inl a) (λ b. inr (inr b)) (s.here n h)

    there : (n : Node) → Is n (x ∷ q.rest) → Is n (x ∷ xs)
    there n (inl e) = inl e
    there n (inr h) = inr (s.there n h)

first : (done : List ℕ) (x : Node) (xs : List Node) → ready done (reads x) ≡ true → Split done (record { node = x; rest = xs }) (x ∷ xs)
first done x xs e = record { fit = e; total = λ g. refl; size = refl; picked = inl refl; here = λ n h. h; there = λ n h. inr h }

pick_some : (done : List ℕ) (left : List Node) (p : Picked) → pick done left ≡ some p → Split done p left
pick_some done [] p e = let z : ◌≡◌ {A = ℕ} 0 1 = cc in absurd (omega arith)
pick_some done (x ∷ xs) p e = go (ready done (reads x)) refl (λ q f. pick_some done xs q f) e
  where
    go :
        (b : Bool) → ready done (reads x) ≡ b → ((q : Picked) → pick done xs ≡ some q → Split done q xs)
        → cond b (some (record { node = x; rest = xs })) (before x (pick done xs)) ≡ some p → Split done p (x ∷ xs)
    go true r ih f =
        let top : Picked = record { node = x; rest = xs } in
        let a : top ≡ p = cc in
        subst (λ (q : Picked). Split done q (x ∷ xs)) a (first done x xs r)
    go false r ih f =
        let (q, a, b) = before-some x (pick done xs) p f in
        subst (λ (o : Picked). Split done o (x ∷ xs)) b (push done x xs q (ih q a))

-- ---- the order

-- from a state on: every node that is left, once, each after all that it reads
pub record Right (done : List ℕ) (left os : List Node) : Type 0 where
  pub size : length os ≡ length left
  pub total : (g : Node → ℕ) → sum g os ≡ sum g left
  pub has : (n : Node) → Is n left → Is n os
  pub ordered : Ordered done os

module _ (ns : List Node) where
  -- the nodes of the function: their ids are their own, and what they read is an input or a node
  pub record Closed : Type 0 where
    pub own : (n : Node) → Is n ns → find_node n.id ns ≡ some n
    pub closed : (n : Node) (j : ℕ) → Is n ns → member j (map (λ r. r.node) (reads n)) ≡ true → (j ≡ 0) ⊎ Is j (ids ns)
    pub free : (i : ℕ) → Leads ns i i → ⊥

  -- of the nodes, those that are not done are left
  pub record State (done : List ℕ) (left : List Node) : Type 0 where
    pub within : (n : Node) → Is n left → Is n ns
    pub either : (n : Node) → Is n ns → (member n.id done ≡ true) ⊎ Is n left

  module _ (s : Closed) where
    -- a node that waits leads to one that is left
    onward : (done : List ℕ) (left : List Node) → State done left → (n : Node) → Is n left → Waits done (reads n) → (j : ℕ) × Is j (ids left) × Leads ns n.id j
    onward done left st n h (j, m, z, d) = ⊎_elim (λ e. absurd (z e)) node (s.closed n j (st.within n h) m)
      where
        reaches : reads_id ns n.id j ≡ true
        reaches = rw (s.own n (st.within n h)) m

        node : Is j (ids ns) → (i : ℕ) × Is i (ids left) × Leads ns n.id i
        node i =
            let (o, is, e) = in_is j ns i in
            ⊎_elim (λ a. let b : member j done ≡ true = rw e a in let c : ◌≡◌ {A = ℕ} 0 1 = cc in absurd (omega arith))
            (λ a. (j, rw e (is-in o left a), one reaches)) (st.either o is)

    never_stuck : (done : List ℕ) (x : Node) (xs : List Node) → State done (x ∷ xs) → pick done (x ∷ xs) ≡ none → ⊥
    never_stuck done x xs st e = let (k, i, p) = stuck-loops ns x.id (ids xs) on in s.free k p
      where
        on : (k : ℕ) → Is k (ids (x ∷ xs)) → (j : ℕ) × Is j (ids (x ∷ xs)) × Leads ns k j
        on k i =
            let (n, h, q) = in_is k (x ∷ xs) i in
            rw q (onward done (x ∷ xs) st n h (waits done (reads n) (pick-none done (x ∷ xs) e n h)))

    advance : (done : List ℕ) (left : List Node) (p : Picked) → State done left → Split done p left → State (p.node.id ∷ done) p.rest
    advance done left p st sp = record { within = λ n h. st.within n (sp.there n h); either = either }
      where
        either : (n : Node) → Is n ns → (member n.id (p.node.id ∷ done) ≡ true) ⊎ Is n p.rest
        either n h =
            ⊎_elim (λ a. inl (cond-or (eqb p.node.id n.id) _ a))
            (λ a. ⊎_elim (λ e. inl (subst (λ (m : Node). member m.id (p.node.id ∷ done) ≡ true) (sym e) (member-first p.node.id done))) (λ b. inr b) (sp.here n a))
            (st.either n h)

    pub complete : (k : ℕ) (done : List ℕ) (left : List Node) → State done left → length left ≤ k → Right done left (order k done left)
    complete zero done [] st h = record { size = refl; total = λ g. refl; has = λ n a. a; ordered = tt }
    complete zero done (x ∷ xs) st h = absurd (omega arith)
    complete (suc k) done [] st h = record { size = refl; total = λ g. refl; has = λ n a. a; ordered = tt }
    complete (suc k) done (x ∷ xs) st h = go (pick done (x ∷ xs)) refl (λ d l a b. complete k d l a b)
      where
        go :
            (o : Option Picked) → pick done (x ∷ xs) ≡ o
            → ((d : List ℕ) (l : List Node) → State d l → length l ≤ k → Right d l (order k d l))
            → Right done (x ∷ xs) (elim o as (λ q. List Node) [ none ↦ [] | some p ↦ p.node ∷ order k (p.node.id ∷ done) p.rest ])
        go none e ih = absurd (never_stuck done x xs st e)
        go (some p) e ih =
            let sp = pick_some done (x ∷ xs) p e in
            let r = ih (p.node.id ∷ done) p.rest (advance done (x ∷ xs) p st sp) (omega (arith, sp.size)) in
            record {
              size = ap suc r.size ∙ sym sp.size;
              total = λ g. ap (λ (i : ℕ). g p.node + i) (r.total g) ∙ sym (sp.total g);
              has = λ n a. ⊎_elim (λ q. inl q) (λ q. inr (r.has n q)) (sp.here n a);
              ordered = (sp.fit, r.ordered);
            }

    -- the whole: nothing done, all left
    pub schedule-right : Right [] ns (schedule ns)
    unfolding schedule
    schedule-right = complete (length ns) [] ns (record { within = λ n h. h; either = λ n h. inr h }) (omega arith)

-- what is ordered is of the table
pub order-within : (k : ℕ) (done : List ℕ) (left : List Node) (n : Node) → Is n (order k done left) → Is n left
order-within zero done left n h = absurd h
order-within (suc k) done left n h = go (pick done left) refl (λ d l a. order-within k d l n a) h
  where
    go :
        (o : Option Picked) → pick done left ≡ o → ((d : List ℕ) (l : List Node) → Is n (order k d l) → Is n l)
        → Is n (elim o as (λ q. List Node) [ none ↦ [] | some p ↦ p.node ∷ order k (p.node.id ∷ done) p.rest ]) → Is n left
    go none e ih a = absurd a
    go (some p) e ih (inl a) = subst (λ (x : Node). Is x left) (sym a) (pick_some done left p e).picked
    go (some p) e ih (inr a) = (pick_some done left p e).there n (ih (p.node.id ∷ done) p.rest a)

pub schedule-within : (ns : List Node) (n : Node) → Is n (schedule ns) → Is n ns
unfolding schedule
schedule-within ns n h = order-within (length ns) [] ns n h

-- ---- what an accepted function reads is an input or a node of it

found_in : (ns : List Node) (early : List Function) (j p w : ℕ) → get_elem? (gives_at early (find_node j ns)) p ≡ some w → Is j (ids ns)
found_in ns early j p w e = ⊎_elim (λ q. let a = rw q at e in let z : ◌≡◌ {A = ℕ} 0 1 = cc in absurd (omega arith)) (λ h. h) (found-or-none j ns)

pub reads_in : (early : List Function) (f : Function) (r : Ref) (w : ℕ) → ref_type early f r ≡ some w → (r.node ≡ 0) ⊎ Is r.node (ids f.nodes)
reads_in early f r w e = go (eqb r.node 0) refl e
  where
    go :
        (b : Bool) → eqb r.node 0 ≡ b → get_elem? (cond b f.inputs (gives_at early (find_node r.node f.nodes))) r.port ≡ some w
        → (r.node ≡ 0) ⊎ Is r.node (ids f.nodes)
    go true q h = inl (eqb-true r.node 0 q)
    go false q h = inr (found_in f.nodes early r.node r.port w h)

pub wired-in :
    (early : List Function) (f : Function) (ws : List ℕ) (rs : List Ref) → Wired (ref_type early f) ws rs → (j : ℕ) → member j (map (λ r. r.node) rs) ≡ true
    → (j ≡ 0) ⊎ Is j (ids f.nodes)
wired-in early f ws [] h j e = let z : ◌≡◌ {A = ℕ} 0 1 = cc in absurd (omega arith)
wired-in early f [] (r ∷ rs) h j e = absurd h
wired-in early f (w ∷ ws) (r ∷ rs) (t, h) j e =
    ⊎_elim (λ q. subst (λ (i : ℕ). (i ≡ 0) ⊎ Is i (ids f.nodes)) q (reads_in early f r w t)) (wired-in early f ws rs h j)
    (member-inv j r.node (map (λ r. r.node) rs) e)

pub sound-closed : (early : List Function) (f : Function) → Sound early f → Closed f.nodes
sound-closed early f s = record {
  own = s.resolved.own;
  closed = λ n j h m. wired-in early f (wants_of early n n.payload) (reads n) (s.resolved.wired n h) j m;
  free = s.free;
}

-- the schedule of an accepted function
pub scheduled : (early : List Function) (f : Function) → Sound early f → Right [] f.nodes (schedule f.nodes)
scheduled early f s = schedule-right f.nodes (sound-closed early f s)

-- ---- where there is an order there is no loop

pub ready-reads : (done : List ℕ) (rs : List Ref) (j : ℕ) → ready done rs ≡ true → member j (map (λ r. r.node) rs) ≡ true → (j ≡ 0) ⊎ (member j done ≡ true)
ready-reads done [] j e m = let z : ◌≡◌ {A = ℕ} 0 1 = cc in absurd (omega arith)
ready-reads done (r ∷ rs) j e m =
    let (a, b) = and-inv (eqb r.node 0 || member r.node done) (ready done rs) e in
    ⊎_elim
    (λ q. subst (λ (i : ℕ). (i ≡ 0) ⊎ (member i done ≡ true)) q (⊎_elim (λ z. inl (eqb-true _ _ z)) inr (or-inv (eqb r.node 0) (member r.node done) a)))
    (ready-reads done rs j b) (member-inv j r.node (map (λ r. r.node) rs) m)

module _ (ns : List Node) (own : (n : Node) → Is n ns → find_node n.id ns ≡ some n) (named : (n : Node) → Is n ns → 1 ≤ n.id) where
  -- what is done leads only to what is done, and never back
  abbrev Good : List ℕ → Type 0
  Good done = (i j : ℕ) → member i done ≡ true → Leads ns i j → ((j ≡ 0) ⊎ (member j done ≡ true)) × (i ≡ j → ⊥)

  no_zero : (j : ℕ) → Leads ns 0 j → ⊥
  no_zero j p =
      let (n, is, e) = in_is 0 ns (leads-node ns p) in
      let h = named n is in
      omega arith

  from-new : (done : List ℕ) (n : Node) → Is n ns → Good done → ready done (reads n) ≡ true → (i j : ℕ) → i ≡ n.id → Leads ns i j → (j ≡ 0) ⊎ (member j done ≡ true)
  from-new done n is g fit i j e (one r) =
      ready-reads done (reads n) j fit (subst (λ (o : Option Node). member j (read_ids o) ≡ true) (ap (λ (k : ℕ). find_node k ns) e ∙ own n is) r)
  from-new done n is g fit i j e (more {k = k} r p) =
      ⊎_elim (λ z. absurd (no_zero j (subst (λ (x : ℕ). Leads ns x j) z p))) (λ m. (g k j m p).0)
      (ready-reads done (reads n) k fit (subst (λ (o : Option Node). member k (read_ids o) ≡ true) (ap (λ (x : ℕ). find_node x ns) e ∙ own n is) r))

  good-step : (done : List ℕ) (n : Node) → Is n ns → Good done → ready done (reads n) ≡ true → Good (n.id ∷ done)
  good-step done n is g fit i j m p = ⊎_elim new (λ b. let (x, y) = g i j b p in (wider x, y)) (either (member i done) refl)
    where
      wider : (j ≡ 0) ⊎ (member j done ≡ true) → (j ≡ 0) ⊎ (member j (n.id ∷ done) ≡ true)
      wider h = ⊎_elim inl (λ e. inr (member-later j n.id done e)) h

      either : (b : Bool) → member i done ≡ b → ((n.id ≡ i) × (b ≡ false)) ⊎ (b ≡ true)
      either true q = inr refl
      either false q = ⊎_elim (λ e. inl (e, refl)) (λ b. let z : ◌≡◌ {A = ℕ} 0 1 = cc in absurd (omega arith)) (member-inv i n.id done m)

      new : (n.id ≡ i) × (member i done ≡ false) → ((j ≡ 0) ⊎ (member j (n.id ∷ done) ≡ true)) × (i ≡ j → ⊥)
      new (e, q) =
          let x = from-new done n is g fit i j (sym e) p in (
            wider x,
            λ s.
                ⊎_elim (λ z. let l = named n is in omega arith)
                (λ w. let v : member i done ≡ true = rw s w in let z : ◌≡◌ {A = ℕ} 0 1 = cc in omega arith) x,
          )

  -- the ids done at the end
  abbrev ends : List ℕ → List Node → List ℕ
  ends done [] = done
  ends done (n ∷ os) = ends (n.id ∷ done) os

  good-end : (os : List Node) (done : List ℕ) → ((n : Node) → Is n os → Is n ns) → Ordered done os → Good done → Good (ends done os)
  good-end [] done within o g = g
  good-end (n ∷ os) done within (fit, o) g =
      good-end os (n.id ∷ done) (λ x h. within x (inr h)) o (good-step done n (within n (inl refl)) g fit)

  stays-done : (os : List Node) (done : List ℕ) (i : ℕ) → member i done ≡ true → member i (ends done os) ≡ true
  stays-done [] done i m = m
  stays-done (n ∷ os) done i m = stays-done os (n.id ∷ done) i (cond-or (eqb n.id i) _ m)

  ends-has : (os : List Node) (done : List ℕ) (n : Node) → Is n os → member n.id (ends done os) ≡ true
  ends-has [] done n h = absurd h
  ends-has (x ∷ os) done n (inl e) =
      stays-done os (x.id ∷ done) n.id (subst (λ (y : Node). member y.id (x.id ∷ done) ≡ true) (sym e) (member-first x.id done))
  ends-has (x ∷ os) done n (inr h) = ends-has os (x.id ∷ done) n h

  ordered-free : (os : List Node) → ((n : Node) → Is n os → Is n ns) → ((n : Node) → Is n ns → Is n os) → Ordered [] os → (i : ℕ) → Leads ns i i → ⊥
  ordered-free os within has o i p =
      let (n, is, e) = in_is i ns (leads-node ns p) in
      let none_done : Good [] = λ a b m q. let z : ◌≡◌ {A = ℕ} 0 1 = cc in absurd (omega arith) in
      let g = good-end os [] within o none_done in
      (g i i (rw e (ends-has os [] n (has n is))) p).1 refl

-- ---- each once

-- how many have the id
abbrev count : ℕ → List Node → ℕ
count i = sum (λ n. cond (eqb n.id i) 1 0)

member-count : (i : ℕ) (ns : List Node) → (b : Bool) → member i (ids ns) ≡ b → cond b (1 ≤ count i ns) (count i ns ≡ 0)
member-count i [] true e = let z : ◌≡◌ {A = ℕ} 0 1 = cc in absurd (omega arith)
member-count i [] false e = refl
member-count i (n ∷ ns) b e = go (eqb n.id i) b e (member-count i ns b)
  where
    go : (c b : Bool) → cond c true (member i (ids ns)) ≡ b → (member i (ids ns) ≡ b → cond b (1 ≤ count i ns) (count i ns ≡ 0))
        → cond b (1 ≤ cond c 1 0 + count i ns) (cond c 1 0 + count i ns ≡ 0)
    go true true e ih = omega arith
    go true false e ih = let z : ◌≡◌ {A = ℕ} 0 1 = cc in absurd (omega arith)
    go false true e ih = let z = ih e in omega arith
    go false false e ih = let z = ih e in omega arith

distinct-count : (ns : List Node) → Distinct (ids ns) → (i : ℕ) → count i ns ≤ 1
distinct-count [] d i = omega arith
distinct-count (n ∷ ns) (m, d) i = go (eqb n.id i) refl (distinct-count ns d i)
  where
    go : (b : Bool) → eqb n.id i ≡ b → count i ns ≤ 1 → cond b 1 0 + count i ns ≤ 1
    go true q l =
        let z : count i ns ≡ 0 = member-count i ns false (subst (λ (j : ℕ). member j (ids ns) ≡ false) (eqb-true n.id i q) m) in
        omega arith
    go false q l = omega arith

count-distinct : (ns : List Node) → ((i : ℕ) → count i ns ≤ 1) → Distinct (ids ns)
count-distinct [] h = tt
count-distinct (n ∷ ns) h = (go (member n.id (ids ns)) refl, count-distinct ns (λ i. let l : count i (n ∷ ns) ≤ 1 = h i in omega arith))
  where
    go : (b : Bool) → member n.id (ids ns) ≡ b → b ≡ false
    go true e =
        let a : 1 ≤ count n.id ns = member-count n.id ns true e in
        let l : cond (eqb n.id n.id) 1 0 + count n.id ns ≤ 1 = h n.id in
        let q : ◌≡◌ {A = ℕ} (cond (eqb n.id n.id) 1 0) 1 = rw (eq-eqb n.id n.id refl) refl in
        absurd (omega arith)
    go false e = refl

-- the schedule has no id twice
pub schedule-distinct : (early : List Function) (f : Function) → Sound early f → Distinct (ids f.nodes) → Distinct (ids (schedule f.nodes))
schedule-distinct early f s d =
    count-distinct (schedule f.nodes) (λ i. rw ((scheduled early f s).total (λ n. cond (eqb n.id i) 1 0)) (distinct-count f.nodes d i))

-- where no earlier fault stands, a node lies on a loop exactly when there is no order
pub no-order-loop : (early : List Function) (f : Function) → Resolved early f → Distinct (ids f.nodes)
    → ((m : Node) × FirstOnLoop f.nodes m) ↔ ((os : List Node) → Orders f.nodes os → ⊥)
no-order-loop early f r d = (there, λ h. back h (loop_free f) (loops-judged f.nodes f.nodes).0)
  where
    there : (m : Node) × FirstOnLoop f.nodes m → (os : List Node) → Orders f.nodes os → ⊥
    there (m, l) os o =
        ordered-free f.nodes r.own (λ n h. (is-each FormedNode f.nodes r.formed.nodes n h).id) os o.within o.has o.ordered m.id l.lies

    back : ((os : List Node) → Orders f.nodes os → ⊥) → (g : Outcome (Unit {0})) → Says (loop_checks f.nodes f.nodes) g → (m : Node) × FirstOnLoop f.nodes m
    back h (fault n p) a = let (m, l, q, s) = (first-loop f.nodes n p).0 a in (m, l)
    back h (ok u) a =
        let s : Sound early f = record { resolved = r; free = no_loop f.nodes a } in
        let right = scheduled early f s in
        absurd
        (h (schedule f.nodes)
        (record { within = schedule-within f.nodes; has = right.has; once = schedule-distinct early f s d; ordered = right.ordered }))
