-- The checks 9 to 13 give the first fault in 01's order.
use Prim.Native.Nat.{ℕ}
use mathlib.Core.Path.{◌≡◌, refl, ap, sym, ◌∙◌, subst}
use mathlib.Core.Bool.{Bool, true, false, not, ◌&&◌, cond}
use mathlib.Core.List.{List, [], ◌∷◌, ◌++◌}
use mathlib.Core.Option.{Option, none, some}
use mathlib.Core.Logic.{◌⊎◌, inl, inr, ⊎_elim, ◌↔◌}
use native.Mathlib.Omega.{arith}
use lib.Dec.{eqb}
use lib.ListN.{length, get_elem?}
use borrow.Author.Tests.{eqb-true, eqb-false, eq-eqb, ne_eqb}
use Rattle.base.specs.Outcome.{Outcome, ok, fault, ◌>>=◌, ◌>>◌, need, each}
use Rattle.graph.specs.Graph.{Ref, Payload, consts, refs, calls, Node, Output, Function}
use Rattle.graph.specs.Look.{find_node, find_function, found, reads, output_refs}
use Rattle.graph.specs.Loops.{Leads, loops}
use Rattle.graph.specs.Types.{inputs_of, wants_of, gives_of, gives_at, ref_type, output_types}
use Rattle.graph.specs.Judge.{fresh, call_ok, type_is, ref_ok, refs_ok, loop_free, judge, judge_all}
use Rattle.base.specs.Lists.{Is}
use Rattle.graph.specs.Orders.{FirstOnLoop}
use Rattle.graph.specs.Checks.{CalleeThere, CalleeWrong, NoPort, no-input, no_node, no-port, Check, check, All, First, Says, id_checks, call_checks, ref_checks, node_ref_checks, loop_checks, link_checks, function_checks, table_checks}
use Rattle.base.proofs.Lists.{some_is, past_end, end-past}
use Rattle.graph.proofs.Loops.{loops-iff}
use Rattle.base.proofs.Outcomes.{then-then}

-- ---- checks in turn

-- no check both passes and fails
abbrev pub Apart : List Check → Type 0
Apart [] = Unit {0}
Apart (c ∷ cs) = (c.Asks → c.Fails → ⊥) × Apart cs

-- what checks say is one thing
pub first-all : (cs : List Check) (n p : ℕ) → Apart cs → First cs n p → All cs → ⊥
first-all [] n p w f a = f
first-all (c ∷ cs) n p (w, ws) (inl x) (a, r) = w a x.0
first-all (c ∷ cs) n p (w, ws) (inr (a, f)) (b, r) = first-all cs n p ws f r

first_one : (cs : List Check) (n p m q : ℕ) → Apart cs → First cs n p → First cs m q → ◌≡◌ {A = Outcome (Unit {0})} (fault n p) (fault m q)
first_one [] n p m q w f g = absurd f
first_one (c ∷ cs) n p m q w (inl (x, a, b)) (inl (y, d, e)) = rw (← a, ← b, ← d, ← e) refl
first_one (c ∷ cs) n p m q (w, ws) (inl x) (inr (a, f)) = absurd (w a x.0)
first_one (c ∷ cs) n p m q (w, ws) (inr (a, f)) (inl x) = absurd (w a x.0)
first_one (c ∷ cs) n p m q (w, ws) (inr (a, f)) (inr (b, g)) = first_one cs n p m q ws f g

pub says-one : (cs : List Check) (o o' : Outcome (Unit {0})) → Apart cs → Says cs o → Says cs o' → o ≡ o'
says-one cs (ok u) (ok v) w a b = refl
says-one cs (ok u) (fault n p) w a b = absurd (first-all cs n p w b a)
says-one cs (fault n p) (ok u) w a b = absurd (first-all cs n p w a b)
says-one cs (fault n p) (fault m q) w a b = first_one cs n p m q w a b

-- what is given is what the checks say, and they say one thing
abbrev pub Judged : List Check → Outcome (Unit {0}) → Type 0
Judged cs g = Says cs g × Apart cs

pub judged-is : (cs : List Check) (g o : Outcome (Unit {0})) → Judged cs g → Says cs o → g ≡ o
judged-is cs g o (s, w) t = says-one cs g o w s t

-- ---- a test, and steps one after another

pub says-test : (t : Bool) (n p : ℕ) {A F : Type 0} → (t ≡ true → A) → (t ≡ false → F) → Says (check n p A F ∷ []) (need t n p)
unfolding need
says-test true n p f g = (f refl, tt)
says-test false n p f g = inl (g refl, refl, refl)

pub apart-append : (cs ds : List Check) → Apart cs → Apart ds → Apart (cs ++ ds)
apart-append [] ds a b = b
apart-append (c ∷ cs) ds (x, a) b = (x, apart-append cs ds a b)

pub all_append : (cs ds : List Check) → All cs → All ds → All (cs ++ ds)
all_append [] ds a b = b
all_append (c ∷ cs) ds (x, a) b = (x, all_append cs ds a b)

pub first-left : (cs ds : List Check) (n p : ℕ) → First cs n p → First (cs ++ ds) n p
first-left [] ds n p f = absurd f
first-left (c ∷ cs) ds n p (inl x) = inl x
first-left (c ∷ cs) ds n p (inr (x, f)) = inr (x, first-left cs ds n p f)

pub first-right : (cs ds : List Check) (n p : ℕ) → All cs → First ds n p → First (cs ++ ds) n p
first-right [] ds n p a f = f
first-right (c ∷ cs) ds n p (x, a) f = inr (x, first-right cs ds n p a f)

pub all_split : (cs ds : List Check) → All (cs ++ ds) → All cs × All ds
all_split [] ds a = (tt, a)
all_split (c ∷ cs) ds (x, a) = let (b, d) = all_split cs ds a in ((x, b), d)

pub first-split : (cs ds : List Check) (n p : ℕ) → First (cs ++ ds) n p → First cs n p ⊎ (All cs × First ds n p)
first-split [] ds n p f = inr (tt, f)
first-split (c ∷ cs) ds n p (inl x) = inl (inl x)
first-split (c ∷ cs) ds n p (inr (x, f)) = ⊎_elim (λ g. inl (inr (x, g))) (λ (a, g). inr ((x, a), g)) (first-split cs ds n p f)

pub says_then : (cs ds : List Check) (g h : Outcome (Unit {0})) → Says cs g → Says ds h → Says (cs ++ ds) (g >> h)
unfolding ◌>>◌
says_then cs ds (ok u) (ok v) a b = all_append cs ds a b
says_then cs ds (ok u) (fault n p) a b = first-right cs ds n p a b
says_then cs ds (fault n p) h a b = first-left cs ds n p a

judged-then : (cs ds : List Check) (g h : Outcome (Unit {0})) → Judged cs g → Judged ds h → Judged (cs ++ ds) (g >> h)
judged-then cs ds g h (a, v) (b, w) = (says_then cs ds g h a b, apart-append cs ds v w)

-- the same where the second is given the first's answer
judged-bind : (cs ds : List Check) (g h : Outcome (Unit {0})) → Judged cs g → Judged ds h → Judged (cs ++ ds) (g >>= λ u. h)
unfolding ◌>>◌ ◌>>=◌
judged-bind cs ds (ok u) h a b = judged-then cs ds (ok u) h a b
judged-bind cs ds (fault n p) h a b = judged-then cs ds (fault n p) h a b

-- ---- 9

module _ {A : Type 0} where
  abbrev fresh_check : Option A → ℕ → Check
  fresh_check o p = check 9 p (o ≡ none) ((a : A) × (o ≡ some a))

  found-judged : (o : Option A) (p : ℕ) → Judged (fresh_check o p ∷ []) (need (not (found o)) 9 p)
  unfolding need
  found-judged none p = ((refl, tt), (λ e (a, f). let z : ◌≡◌ {A = ℕ} 0 1 = cc in omega arith, tt))
  found-judged (some a) p = (inl ((a, refl), refl, refl), (λ e (b, f). let z : ◌≡◌ {A = ℕ} 0 1 = cc in omega arith, tt))

pub ids-judged : (before ns : List Node) → Judged (id_checks before ns) (fresh before ns)
ids-judged before [] = (tt, tt)
ids-judged before (n ∷ ns) =
    judged-then (fresh_check (find_node n.id before) n.place ∷ []) (id_checks (n ∷ before) ns) _ _ (found-judged (find_node n.id before) n.place)
    (ids-judged (n ∷ before) ns)

-- ---- 10

call-says : (early : List Function) (at : ℕ) (p : Payload) → Says (check 10 at (CalleeThere early p) (CalleeWrong early p) ∷ []) (call_ok early at p)
unfolding need
call-says early at (consts ws) = (tt, tt)
call-says early at (refs rs) = (tt, tt)
call-says early at (calls c rs) = go (find_function c early) refl
  where
    go : (o : Option Function) → find_function c early ≡ o
        → Says (check 10 at (CalleeThere early (calls c rs)) (CalleeWrong early (calls c rs)) ∷ []) (need (found o && eqb (length rs) (length (inputs_of o))) 10 at)
    go none e = inl (inl e, refl, refl)
    go (some g) e =
        says-test (eqb (length rs) (length g.inputs)) 10 at (λ q. (g, e, eqb-true _ _ q)) (λ q. inr (g, e, eqb-false (length rs) (length g.inputs) q))

call-apart : (early : List Function) (p : Payload) → CalleeThere early p → CalleeWrong early p → ⊥
call-apart early (consts ws) a b = b
call-apart early (refs rs) a b = b
call-apart early (calls c rs) (g, e, l) (inl n) = let z : ◌≡◌ {A = ℕ} 0 1 = cc in omega arith
call-apart early (calls c rs) (g, e, l) (inr (h, f, m)) = m (l ∙ ap (λ (x : Function). length x.inputs) (some_is (sym e ∙ f)))

pub calls-judged : (early : List Function) (ns : List Node) → Judged (call_checks early ns) (each (λ n. call_ok early n.place n.payload) ns)
calls-judged early [] = (tt, tt)
calls-judged early (n ∷ ns) =
    judged-bind (check 10 n.place (CalleeThere early n.payload) (CalleeWrong early n.payload) ∷ []) (call_checks early ns) _ _
    (call-says early n.place n.payload, (call-apart early n.payload, tt)) (calls-judged early ns)

-- ---- 11 and 12

module _ (early : List Function) (f : Function) where
  no-type : (r : Ref) → ref_type early f r ≡ none → NoPort early f r
  no-type r e = go (eqb r.node 0) refl (find_node r.node f.nodes) refl e
    where
      go : (b : Bool) → eqb r.node 0 ≡ b → (o : Option Node) → find_node r.node f.nodes ≡ o
          → get_elem? (cond b f.inputs (gives_at early o)) r.port ≡ none → NoPort early f r
      go true q o w e = no-input (eqb-true r.node 0 q) (past_end f.inputs r.port e)
      go false q none w e = no_node (eqb-false r.node 0 q) w
      go false q (some n) w e = no-port (eqb-false r.node 0 q) n w (past_end (gives_of early n n.payload) r.port e)

  type-not : (r : Ref) → NoPort early f r → ref_type early f r ≡ none
  type-not r (no-input z l) = rw (eq-eqb r.node 0 z) (end-past f.inputs r.port l)
  type-not r (no_node z e) = rw (ne_eqb r.node 0 z, e) refl
  type-not r (no-port z n e l) = rw (ne_eqb r.node 0 z, e) (end-past (gives_of early n n.payload) r.port l)

  abbrev ref_check : ℕ → Ref → List Check
  ref_check w r = ref_checks early f (w ∷ []) (r ∷ [])

  ref-judged : (w : ℕ) (r : Ref) → Judged (ref_check w r) (ref_ok early f w r)
  unfolding need
  ref-judged w r = (go (ref_type early f r) refl, (typed, (λ e (t, q, n). n (some_is (sym q ∙ e)), tt)))
    where
      test : (t : ℕ) → ref_type early f r ≡ some t → (b : Bool) → eqb t w ≡ b → Says (ref_check w r) (need b 12 r.place)
      test t e true q = ((t, e), (e ∙ ap some (eqb-true t w q), tt))
      test t e false q = inr ((t, e), inl ((t, e, eqb-false t w q), refl, refl))

      go : (o : Option ℕ) → ref_type early f r ≡ o → Says (ref_check w r) (type_is w r.place o)
      go none e = inl (no-type r e, refl, refl)
      go (some t) e = test t e (eqb t w) refl

      typed : (t : ℕ) × (ref_type early f r ≡ some t) → NoPort early f r → ⊥
      typed (t, e) n = let q = type-not r n in let z : ◌≡◌ {A = ℕ} 0 1 = cc in omega arith

  refs-judged : (ws : List ℕ) (rs : List Ref) → Judged (ref_checks early f ws rs) (refs_ok early f ws rs)
  refs-judged [] rs = (tt, tt)
  refs-judged (w ∷ ws) [] = (tt, tt)
  refs-judged (w ∷ ws) (r ∷ rs) = judged-then (ref_check w r) (ref_checks early f ws rs) _ _ (ref-judged w r) (refs-judged ws rs)

  pub outputs-judged : (os : List Output) → Judged (ref_checks early f (output_types os) (output_refs os)) (each (λ o. ref_ok early f o.type o.ref) os)
  outputs-judged [] = (tt, tt)
  outputs-judged (o ∷ os) =
      judged-bind (ref_check o.type o.ref) (ref_checks early f (output_types os) (output_refs os)) _ _ (ref-judged o.type o.ref) (outputs-judged os)

  pub node-refs-judged : (ns : List Node) → Judged (node_ref_checks early f ns) (each (λ n. refs_ok early f (wants_of early n n.payload) (reads n)) ns)
  node-refs-judged [] = (tt, tt)
  node-refs-judged (n ∷ ns) =
      judged-bind (ref_checks early f (wants_of early n n.payload) (reads n)) (node_ref_checks early f ns) _ _
      (refs-judged (wants_of early n n.payload) (reads n)) (node-refs-judged ns)

-- ---- 13: the first node in the table that lies on a loop

pub loops-judged : (all ns : List Node) → Judged (loop_checks all ns) (each (λ n. need (not (loops all n.id)) 13 n.place) ns)
unfolding need
loops-judged all [] = (tt, tt)
loops-judged all (n ∷ ns) =
    judged-bind (check 13 n.place (Leads all n.id n.id → ⊥) (Leads all n.id n.id) ∷ []) (loop_checks all ns) _ _
    (go (loops all n.id) refl, ((λ a b. a b), tt)) (loops-judged all ns)
  where
    go : (b : Bool) → loops all n.id ≡ b
        → Says (check 13 n.place (Leads all n.id n.id → ⊥) (Leads all n.id n.id) ∷ []) (need (not b) 13 n.place)
    go true e = inl ((loops-iff all n.id).0 e, refl, refl)
    go false e = (λ l. let a = (loops-iff all n.id).1 l in let z : ◌≡◌ {A = ℕ} 0 1 = cc in omega arith, tt)

-- the place is that of the first node that lies on one
first-there : (all ns : List Node) (n p : ℕ) → First (loop_checks all ns) n p
    → (m : Node) × (before : List Node) × (behind : List Node) × (ns ≡ before ++ m ∷ behind) × ((x : Node) → Is x before → Leads all x.id x.id → ⊥)
    × Leads all m.id m.id
    × (13 ≡ n)
    × (m.place ≡ p)
first-there all [] n p f = absurd f
first-there all (x ∷ xs) n p (inl (a, b, c)) = (x, [], xs, refl, (λ y h. absurd h), a, b, c)
first-there all (x ∷ xs) n p (inr (a, f)) =
    let (m, before, behind, e, g, l, b, c) = first-there all xs n p f in
    (m, x ∷ before, behind, ap (λ (ys : List Node). x ∷ ys) e, on before g, l, b, c)
  where
    on : (before : List Node) → ((y : Node) → Is y before → Leads all y.id y.id → ⊥) → (y : Node) → Is y (x ∷ before) → Leads all y.id y.id → ⊥
    on before g y (inl q) = subst (λ (z : Node). Leads all z.id z.id → ⊥) (sym q) a
    on before g y (inr h) = g y h

first_back : (all before : List Node) (m : Node) (behind : List Node) → ((x : Node) → Is x before → Leads all x.id x.id → ⊥)
    → Leads all m.id m.id → First (loop_checks all (before ++ m ∷ behind)) 13 m.place
first_back all [] m behind g l = inl (l, refl, refl)
first_back all (x ∷ before) m behind g l = inr (g x (inl refl), first_back all before m behind (λ y h. g y (inr h)) l)

pub first-loop : (ns : List Node) (n p : ℕ) → First (loop_checks ns ns) n p ↔ ((m : Node) × FirstOnLoop ns m × (13 ≡ n) × (m.place ≡ p))
first-loop ns n p = (there, back)
  where
    there : First (loop_checks ns ns) n p → (m : Node) × FirstOnLoop ns m × (13 ≡ n) × (m.place ≡ p)
    there f =
        let (m, before, behind, s, g, l, b, c) = first-there ns ns n p f in
        (m, record { before = before; behind = behind; stands = s; first = g; lies = l }, b, c)

    back : (m : Node) × FirstOnLoop ns m × (13 ≡ n) × (m.place ≡ p) → First (loop_checks ns ns) n p
    back (m, o, b, c) =
        let h : First (loop_checks ns (o.before ++ m ∷ o.behind)) 13 m.place = first_back ns o.before m o.behind o.first o.lies in
        let g : First (loop_checks ns ns) 13 m.place = subst (λ (xs : List Node). First (loop_checks ns xs) 13 m.place) (sym o.stands) h in
        rw (← b, ← c) g

-- ---- a function, and functions

module _ (early : List Function) (f : Function) where
  -- the checks before the loops
  abbrev linked : Outcome (Unit {0})
  linked =
      need (not (found (find_function f.id early))) 9 f.place
      >> (fresh [] f.nodes
      >> (each (λ n. call_ok early n.place n.payload) f.nodes
      >> (each (λ o. ref_ok early f o.type o.ref) f.outputs
      >> each (λ n. refs_ok early f (wants_of early n n.payload) (reads n)) f.nodes)))

  judge-split : judge early f ≡ (linked >> loop_free f)
  judge-split = sym (simp then-then)

  links-judged : Judged (link_checks early f) linked
  links-judged =
      judged-then (fresh_check (find_function f.id early) f.place ∷ []) _ _ _ (found-judged (find_function f.id early) f.place)
      (judged-then (id_checks [] f.nodes) _ _ _ (ids-judged [] f.nodes)
      (judged-then (call_checks early f.nodes) _ _ _ (calls-judged early f.nodes)
      (judged-then (ref_checks early f (output_types f.outputs) (output_refs f.outputs)) _ _ _ (outputs-judged early f f.outputs)
      (node-refs-judged early f f.nodes))))

  pub judge-judged : Judged (function_checks early f) (judge early f)
  judge-judged =
      subst (Judged (function_checks early f)) (sym judge-split) (judged-then (link_checks early f) _ _ _ links-judged (loops-judged f.nodes f.nodes))

pub all-judged : (early fs : List Function) → Judged (table_checks early fs) (judge_all early fs)
all-judged early [] = (tt, tt)
all-judged early (f ∷ fs) = judged-then (function_checks early f) _ _ _ (judge-judged early f) (all-judged (f ∷ early) fs)
