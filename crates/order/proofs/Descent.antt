-- Descents along slots: what waits for nothing is taken, and what waits for itself never is.
use Prim.Native.Nat.{ℕ, suc, ◌+◌, ◌-◌, ◌≤◌, ◌<◌}
use mathlib.Core.Path.{◌≡◌, refl, ap, sym, ◌∙◌, subst}
use mathlib.Core.Bool.{Bool, true, false, not, ◌||◌, cond}
use mathlib.Core.List.{List, [], ◌∷◌, ◌++◌}
use mathlib.Core.Logic.{◌⊎◌, inl, inr, ⊎_elim}
use native.Mathlib.Omega.{arith}
use lib.Dec.{leb, ltb}
use Rattle.std.specs.Prelude.{Option, Some, None}
use Rattle.std.specs.Option.{is_some}
use lib.ListN.{length, get_or, set, replicate, length-set, length-replicate}
use lib.Seq.{get_or-set_same, get_or-set_other}
use borrow.Author.Tests.{lt-ltb, le-ltb, lt-leb, leb-false, not-true, not-false}
use Rattle.base.specs.Lists.{member}
use Rattle.base.proofs.Bools.{and-inv, and_both}
use Rattle.order.specs.Indices.{first_of, slot, settled, ready, eligible, waits, index_order, marked}
use Rattle.order.specs.Paths.{reads_index}
use Rattle.order.specs.Walk.{unmarked}
use Rattle.order.proofs.Range.{Missed, eq-or-not, true-or-false, both, first-is, first-here, first-nowhere, all-each, each_all}
use Rattle.base.proofs.Numbers.{lt-or-le}
use Rattle.order.proofs.Marks.{Marks, mark-same, mark-other, mark-keeps, mark-none, mark-one, ready-same}
use Rattle.order.proofs.Closure.{read_below, read-slot, slot_read}
use Rattle.order.proofs.Reached.{unmarked-none, unmarked-set}
use Rattle.order.proofs.AnyOrder.{Built, fresh, built-size, any_order}
use Rattle.order.proofs.Complete.{ready-reads}
use Rattle.base.specs.Limits.{operand_limit, node_limit}
use Rattle.base.proofs.Lists.{member-first, member-inv, member-later, member-not, member-left, member_right, member-either}

-- ---- the stack

-- the array holds the path, its deepest node last
abbrev Stored : List ℕ → List ℕ → Type 0
Stored stack [] = Unit {0}
Stored stack (v ∷ is) = (get_or stack (length is) 0 ≡ v) × Stored stack is

stored_past : (stack : List ℕ) (is : List ℕ) (k x : ℕ) → length is ≤ k → Stored stack is → Stored (set stack k x) is
stored_past stack [] k x h s = tt
stored_past stack (v ∷ is) k x h (e, s) =
    (get_or-set_other stack k (length is) x 0 (λ d. omega arith) ∙ e, stored_past stack is k x (omega arith) s)

module _ (ts : List ℕ) (n : ℕ) where
  -- ---- what a node waits for

  module _ (done : ℕ → Bool) (i : ℕ) where
    abbrev unsettled : ℕ → Bool
    unsettled j = not (settled n done (slot ts i j))

    abbrev found : ℕ → Option ℕ
    found j = cond (ltb j operand_limit) (Some (slot ts i j)) None

    -- the first j slots are settled
    abbrev pub Settled : ℕ → Type 0
    Settled j = (k : ℕ) → k < j → settled n done (slot ts i k) ≡ true

    settled-missed : (j : ℕ) → Settled j → Missed unsettled 0 j
    settled-missed j h v a b = ap not (h v b)

    -- slot j holds v and is the first that is not
    pub waits-at : (j v : ℕ) → v ≡ slot ts i j → j < operand_limit → Settled j → v < n → done v ≡ false → Some v ≡ waits ts n done i
    waits-at j v s l m h e =
        let q : not (settled n done v) ≡ true = rw (lt-leb n v h, e) refl in
        ap Some s
        ∙ (ap (λ (b : Bool). cond b (Some (slot ts i j)) None) (sym (lt-ltb j operand_limit l))
        ∙ ap found
        (first-here unsettled operand_limit 0 j (omega arith) l (settled-missed j m) (subst (λ (x : ℕ). not (settled n done x) ≡ true) s q)))

    pub waits-nowhere : Settled operand_limit → None ≡ waits ts n done i
    waits-nowhere m = ap found (first-nowhere unsettled operand_limit 0 (omega arith) (settled-missed operand_limit m))

    -- it waits for what a slot holds that is not settled, or it is ready
    waits-cases :
        ((j : ℕ) × (j < operand_limit) × (waits ts n done i ≡ Some (slot ts i j)) × (settled n done (slot ts i j) ≡ false))
        ⊎ ((waits ts n done i ≡ None) × (ready ts n done i ≡ true))
    waits-cases =
        let j = first_of unsettled 0 operand_limit in
        let first = first-is unsettled operand_limit 0 in
        ⊎_elim
        (λ l. inl (
          j,
          l,
          ap (λ (b : Bool). cond b (Some (slot ts i j)) None) (lt-ltb j operand_limit l),
          not-true (settled n done (slot ts i j)) (first.hit (omega arith)),
        ))
        (λ h. inr (
          ap (λ (b : Bool). cond b (Some (slot ts i j)) None) (le-ltb j operand_limit h),
          each_all (λ k. settled n done (slot ts i k)) operand_limit 0 (λ k a b. not-false (settled n done (slot ts i k)) (first.miss k a (omega arith))),
        ))
        (lt-or-le j operand_limit)

    either-false : (a b : Bool) → a || b ≡ false → (a ≡ false) × (b ≡ false)
    either-false true b e = both true refl e
    either-false false b e = (refl, e)

    -- it reads it, and it is not done
    waits-for : (w : ℕ) → Some w ≡ waits ts n done i → (w < n) × (reads_index ts n i w ≡ true) × (done w ≡ false)
    waits-for w e =
        ⊎_elim
        (λ (j, l, q, u).
        let s : slot ts i j ≡ w = cc in
        let t = either-false (leb n w) (done w) (subst (λ (v : ℕ). settled n done v ≡ false) s u) in
        let h : w < n = omega (arith, leb-false n w t.0) in
        (h, slot_read ts n i w j l s h, t.1))
        (λ (q, r). let z : ◌≡◌ {A = ℕ} 0 1 = cc in absurd (omega arith)) waits-cases

    pub waits-unready : (w : ℕ) → Some w ≡ waits ts n done i → ready ts n done i ≡ false
    waits-unready w e = ⊎_elim (λ r. both (done w) (done-read r) (waits-for w e).2) (λ r. r) (true-or-false (ready ts n done i))
      where
        done-read : ready ts n done i ≡ true → done w ≡ true
        done-read r =
            let (l, h, f) = waits-for w e in
            let (s, a, q) = read-slot ts n i w h in
            let t = all-each (λ j. settled n done (slot ts i j)) operand_limit 0 r s (omega arith) (omega arith) in
            rw (q, lt-leb n w l) at t

    pub waits-none : None ≡ waits ts n done i → ready ts n done i ≡ true
    waits-none e = ⊎_elim (λ (j, l, q, u). let z : ◌≡◌ {A = ℕ} 0 1 = cc in absurd (omega arith)) (λ (q, r). r) waits-cases

    -- it is ready where it waits for nothing
    pub waits-ready : (o : Option ℕ) (b : Bool) → o ≡ waits ts n done i → is_some o ≡ not b → b ≡ ready ts n done i
    waits-ready (Some w) true e h = let z : ◌≡◌ {A = ℕ} 0 1 = cc in absurd (omega arith)
    waits-ready (Some w) false e h = sym (waits-unready w e)
    waits-ready None true e h = sym (waits-none e)
    waits-ready None false e h = let z : ◌≡◌ {A = ℕ} 0 1 = cc in absurd (omega arith)

  -- ---- the path

  -- each node of the path reads the next deeper one
  abbrev Linked : List ℕ → Type 0
  Linked [] = Unit {0}
  Linked (v ∷ []) = Unit {0}
  Linked (v ∷ u ∷ is) = (reads_index ts n u v ≡ true) × Linked (u ∷ is)

  -- each reads one of them
  abbrev Closed : List ℕ → List ℕ → Type 0
  Closed is os = (u : ℕ) → member u is ≡ true → (w : ℕ) × (reads_index ts n u w ≡ true) × (member w os ≡ true)

  linked-closed : (v : ℕ) (is : List ℕ) → Linked (v ∷ is) → Closed is (v ∷ is)
  linked-closed v [] l u e = let z : ◌≡◌ {A = ℕ} 0 1 = cc in absurd (omega arith)
  linked-closed v (f ∷ is) (r, l) u e =
      ⊎_elim (λ q. (v, subst (λ (k : ℕ). reads_index ts n k v ≡ true) q r, member-first v (f ∷ is)))
      (λ h. let (w, a, b) = linked-closed f is l u h in (w, a, member-later w v (f ∷ is) b))
      (member-inv u f is e)

  linked-less : (v : ℕ) (is : List ℕ) → Linked (v ∷ is) → Linked is
  linked-less v [] l = tt
  linked-less v (f ∷ is) (r, l) = l

  -- the nodes of `done` are taken; each of `path` waits for the one before it, and each of `held` for another of them
  pub record Descending (taken pushed : List Bool) (stack path : List ℕ) (depth count : ℕ) : Type 0 where
    pub done : List ℕ
    pub held : List ℕ
    pub built : Built ts n done
    pub marks : Marks taken done
    pub counted : count ≡ length done
    pub deep : depth ≡ length path
    pub stored : Stored stack path
    pub linked : Linked path
    pub below : (v : ℕ) → member v path ≡ true → v < n
    pub waiting : (v : ℕ) → member v (path ++ held) ≡ true → member v done ≡ false
    pub closed : Closed held held
    pub known : (v : ℕ) → marked pushed v ≡ true → (member v done ≡ true) ⊎ (member v (path ++ held) ≡ true)
    pub seen : (v : ℕ) → (member v done ≡ true) ⊎ (member v path ≡ true) → marked pushed v ≡ true
    pub sizes : (length taken ≡ node_limit) × (length pushed ≡ node_limit) × (length stack ≡ node_limit)
    pub room : depth + unmarked pushed ≤ node_limit

  abbrev Descent : List Bool → List Bool → List ℕ → ℕ → ℕ → Type 0
  Descent taken pushed stack depth count = (path : List ℕ) × Descending taken pushed stack path depth count

  descent-none : Descent (replicate node_limit false) (replicate node_limit false) (replicate node_limit 0) 0 0
  descent-none = (
    [],
    record {
      done = [];
      held = [];
      built = tt;
      marks = mark-none;
      counted = refl;
      deep = refl;
      stored = tt;
      linked = tt;
      below = λ v e. both false e refl;
      waiting = λ v e. refl;
      closed = λ v e. both false e refl;
      known = λ v e. both (marked (replicate node_limit false) v) e (mark-none v);
      seen = λ v e. ⊎_elim (λ a. both false a refl) (λ a. both false a refl) e;
      sizes = (length-replicate node_limit false, length-replicate node_limit false, length-replicate {A = ℕ} node_limit 0);
      room = let e = unmarked-none node_limit in omega arith;
    },
  )

  module _ {taken pushed : List Bool} {stack : List ℕ} {depth count : ℕ} where
    descent-within : Descent taken pushed stack depth count → count ≤ n
    descent-within (path, d) = let e = built-size ts n d.done d.built in omega (arith, d.counted)

    -- ---- a node more on the path

    pushing : (few : n ≤ node_limit) (path : List ℕ) → (d : Descending taken pushed stack path depth count) → (w : ℕ) → w < n → Linked (w ∷ path)
        → marked pushed w ≡ false → member w d.done ≡ false → Descent taken (set pushed w true) (set stack depth w) (depth + 1) count
    pushing few path d w l links e f =
        let m : w < length pushed = subst (λ (k : ℕ). w < k) (sym d.sizes.1) (omega arith) in
        let u = unmarked-set pushed w m e in
        let s : depth < node_limit = omega (arith, d.room) in (
          w ∷ path,
          record {
            done = d.done;
            held = d.held;
            built = d.built;
            marks = d.marks;
            counted = d.counted;
            deep = omega (arith, d.deep);
            stored = (
              ap (λ (k : ℕ). get_or (set stack depth w) k 0) (sym d.deep)
                  ∙ get_or-set_same stack depth w 0 (subst (λ (k : ℕ). depth < k) (sym d.sizes.2) s),
              stored_past stack path depth w (omega (arith, d.deep)) d.stored,
            );
            linked = links;
            below = λ v h. ⊎_elim (λ q. subst (λ (k : ℕ). k < n) q l) (λ a. d.below v a) (member-inv v w path h);
            waiting = λ v h.
                ⊎_elim (λ q. subst (λ (k : ℕ). member k d.done ≡ false) q f) (λ a. d.waiting v a) (member-inv v w (path ++ d.held) h);
            closed = d.closed;
            known = λ v h.
                ⊎_elim (λ q. inr (subst (λ (k : ℕ). member k (w ∷ path ++ d.held) ≡ true) (sym q) (member-first w (path ++ d.held))))
                (λ q. ⊎_elim inl (λ b. inr (member-later v w (path ++ d.held) b)) (d.known v (sym (mark-other pushed w v q) ∙ h))) (eq-or-not v w);
            seen = λ v h.
                ⊎_elim (λ a. mark-keeps pushed w v m (d.seen v (inl a)))
                (λ b.
                ⊎_elim (λ q. subst (λ (k : ℕ). marked (set pushed w true) k ≡ true) q (mark-same pushed w m))
                (λ c. mark-keeps pushed w v m (d.seen v (inr c))) (member-inv v w path b)) h;
            sizes = (d.sizes.0, length-set pushed w true ∙ d.sizes.1, length-set stack depth w ∙ d.sizes.2);
            room = omega (arith, d.room, u);
          },
        )

    -- ---- nothing was begun

    descent-root : n ≤ node_limit → Descent taken pushed stack depth count → depth ≡ 0 → (w : ℕ) → w < n → marked pushed w ≡ false
        → Descent taken (set pushed w true) (set stack depth w) (depth + 1) count
    descent-root few ([], d) z w l e =
        pushing few [] d w l tt e (⊎_elim (λ q. both (marked pushed w) (d.seen w (inl q)) e) (λ q. q) (true-or-false (member w d.done)))
    descent-root few (x ∷ path, d) z w l e = absurd (omega (arith, d.deep))

    -- every node was pushed
    descent-end : Descent taken pushed stack depth count → depth ≡ 0 → ((v : ℕ) → v < n → marked pushed v ≡ true)
        → (count ≡ length (index_order ts n)) × ((v : ℕ) → marked taken v ≡ member v (index_order ts n))
    descent-end (x ∷ path, d) z all = absurd (omega (arith, d.deep))
    descent-end ([], d) z all =
        let (e, h) = any_order ts n d.done d.built (λ v l. stuck v (d.known v (all v l)) (eligible ts n (λ w. member w d.done) v) refl) in
        (d.counted ∙ e, λ v. d.marks v ∙ h v)
      where
        stuck : (v : ℕ) → (member v d.done ≡ true) ⊎ (member v d.held ≡ true) → (b : Bool) → eligible ts n (λ w. member w d.done) v ≡ b → b ≡ false
        stuck v a false q = refl
        stuck v (inl a) true q = both (member v d.done) a (fresh ts n (λ w. member w d.done) v q)
        stuck v (inr a) true q =
            let (w, r, m) = d.closed v a in
            both (member w d.done)
            (ready-reads ts n d.done v w (and-inv (not (member v d.done)) (ready ts n (λ w. member w d.done) v) q).1 r) (d.waiting w m)

    -- ---- the deepest node

    module _ (more : 0 < depth) (v : ℕ) (top : v ≡ get_or stack (depth - 1) 0) where
      at_top : (x : ℕ) (path : List ℕ) → Descending taken pushed stack (x ∷ path) depth count → x ≡ v
      at_top x path d =
          let e : length path ≡ depth - 1 = omega (arith, d.deep) in
          sym d.stored.0 ∙ (ap (λ (k : ℕ). get_or stack k 0) e ∙ sym top)

      top_below : Descent taken pushed stack depth count → v < n
      top_below ([], d) = absurd (omega (arith, d.deep))
      top_below (x ∷ path, d) = subst (λ (k : ℕ). k < n) (at_top x path d) (d.below x (member-first x path))

      -- it waits for w, which was not pushed
      descent-push : n ≤ node_limit → Descent taken pushed stack depth count → (w : ℕ) → reads_index ts n v w ≡ true → marked taken w ≡ false
          → marked pushed w ≡ false → Descent taken (set pushed w true) (set stack depth w) (depth + 1) count
      descent-push few ([], d) w r e f = absurd (omega (arith, d.deep))
      descent-push few (x ∷ path, d) w r e f =
          pushing few (x ∷ path) d w (read_below ts n v w r) (subst (λ (k : ℕ). reads_index ts n k w ≡ true) (sym (at_top x path d)) r, d.linked) f
          (sym (d.marks w) ∙ e)

      -- it waits for w, which was: none of the path is ever taken
      descent-leave : Descent taken pushed stack depth count → (w : ℕ) → reads_index ts n v w ≡ true → marked taken w ≡ false
          → marked pushed w ≡ true → Descent taken pushed stack 0 count
      descent-leave ([], d) w r e f = absurd (omega (arith, d.deep))
      descent-leave (x ∷ path, d) w r e f = (
        [],
        record {
          done = d.done;
          held = (x ∷ path) ++ d.held;
          built = d.built;
          marks = d.marks;
          counted = d.counted;
          deep = refl;
          stored = tt;
          linked = tt;
          below = λ u h. both false h refl;
          waiting = d.waiting;
          closed = λ u h. ⊎_elim (λ a. on-path u a) (λ b. let (y, p, q) = d.closed u b in (y, p, member_right y (x ∷ path) d.held q))
              (member-either u (x ∷ path) d.held h);
          known = d.known;
          seen = λ u h. ⊎_elim (λ a. d.seen u (inl a)) (λ b. both false b refl) h;
          sizes = d.sizes;
          room = omega (arith, d.room);
        },
      )
        where
          on-path : (u : ℕ) → member u (x ∷ path) ≡ true
              → (y : ℕ) × (reads_index ts n u y ≡ true) × (member y ((x ∷ path) ++ d.held) ≡ true)
          on-path u h =
              ⊎_elim
              (λ q. (
                w,
                subst (λ (k : ℕ). reads_index ts n k w ≡ true) (sym (at_top x path d) ∙ q) r,
                ⊎_elim (λ a. both (member w d.done) a (sym (d.marks w) ∙ e)) (λ b. b) (d.known w f),
              ))
              (λ a. let (y, p, q) = linked-closed x path d.linked u a in (y, p, member-left y (x ∷ path) d.held q))
              (member-inv u x path h)

      -- it waits for nothing
      descent-take : n ≤ node_limit → Descent taken pushed stack depth count → ready ts n (marked taken) v ≡ true
          → Descent (set taken v true) pushed stack (depth - 1) (count + 1)
      descent-take few ([], d) r = absurd (omega (arith, d.deep))
      descent-take few (x ∷ path, d) r =
          let l = d.below x (member-first x path) in (
            path,
            record {
              done = v ∷ d.done;
              held = d.held;
              built = (
                subst (λ (k : ℕ). k < n) (at_top x path d) l,
                and_both (not (member v d.done)) (ready ts n (λ w. member w d.done) v)
                    (ap not (subst (λ (k : ℕ). member k d.done ≡ false) (at_top x path d) (d.waiting x (member-first x (path ++ d.held))))) can,
                d.built,
              );
              marks = mark-one taken d.done v (subst (λ (k : ℕ). v < k) (sym d.sizes.0) (subst (λ (k : ℕ). k < node_limit) (at_top x path d) (omega arith))) d.marks;
              counted = omega (arith, d.counted);
              deep = omega (arith, d.deep);
              stored = d.stored.1;
              linked = linked-less x path d.linked;
              below = λ u h. d.below u (member-later u x path h);
              waiting = λ u h. member-not u v d.done (λ q. others u h q) (d.waiting u (member-later u x (path ++ d.held) h));
              closed = d.closed;
              known = λ u h.
                  ⊎_elim (λ a. inl (member-later u v d.done a))
                  (λ b.
                  ⊎_elim (λ q. inl (subst (λ (k : ℕ). member k (v ∷ d.done) ≡ true) (sym (at_top x path d) ∙ q) (member-first v d.done)))
                  (λ c. inr c) (member-inv u x (path ++ d.held) b)) (d.known u h);
              seen = λ u h.
                  ⊎_elim
                  (λ a.
                  ⊎_elim
                  (λ q. subst (λ (k : ℕ). marked pushed k ≡ true) (at_top x path d ∙ q) (d.seen x (inr (member-first x path))))
                  (λ b. d.seen u (inl b)) (member-inv u v d.done a))
                  (λ b. d.seen u (inr (member-later u x path b))) h;
              sizes = (length-set taken v true ∙ d.sizes.0, d.sizes.1, d.sizes.2);
              room = omega (arith, d.room);
            },
          )
        where
          can : ready ts n (λ w. member w d.done) v ≡ true
          can = sym (ready-same ts n (marked taken) (λ w. member w d.done) d.marks v) ∙ r

          -- what waits is another node
          others : (u : ℕ) → member u (path ++ d.held) ≡ true → v ≡ u → ⊥
          others u h q =
              ⊎_elim (λ a. let (y, p, m) = linked-closed x path d.linked u a in no_read y p (member-left y (x ∷ path) d.held m))
              (λ b. let (y, p, m) = d.closed u b in no_read y p (member_right y (x ∷ path) d.held m)) (member-either u path d.held h)
            where
              no_read : (y : ℕ) → reads_index ts n u y ≡ true → member y ((x ∷ path) ++ d.held) ≡ true → ⊥
              no_read y p m =
                  both (member y d.done) (ready-reads ts n d.done v y can (subst (λ (k : ℕ). reads_index ts n k y ≡ true) (sym q) p))
                  (d.waiting y m)

  -- ---- from one node after another

  -- the nodes below `root` were pushed
  pub record Searching (taken pushed : List Bool) (stack : List ℕ) (root depth count : ℕ) : Type 0 where
    pub bound : root ≤ n
    pub begun : (v : ℕ) → v < root → marked pushed v ≡ true
    pub descent : Descent taken pushed stack depth count

  pub searching-none : Searching (replicate node_limit false) (replicate node_limit false) (replicate node_limit 0) 0 0 0
  searching-none = record { bound = omega arith; begun = λ v h. absurd (omega arith); descent = descent-none }

module _
    {ts : List ℕ} {n : ℕ} (few : n ≤ node_limit) {taken pushed : List Bool} {stack : List ℕ} {root depth count : ℕ}
    (s : Searching ts n taken pushed stack root depth count) where
  pub searching-size : (depth + unmarked pushed ≤ node_limit) × (count ≤ n)
  searching-size = (s.descent.1.room, descent-within ts n s.descent)

  -- one mark less is missing
  pub searching-fewer : (w : ℕ) → w < n → marked pushed w ≡ false → unmarked pushed ≡ suc (unmarked (set pushed w true))
  searching-fewer w l e = unmarked-set pushed w (subst (λ (k : ℕ). w < k) (sym s.descent.1.sizes.1) (omega arith)) e

  -- the node itself was pushed
  pub searching-on : root < n → depth ≡ 0 → marked pushed root ≡ true → Searching ts n taken pushed stack (root + 1) depth count
  searching-on go z e =
      record {
        bound = omega arith;
        begun = λ v h. ⊎_elim (λ q. rw q e) (λ d. s.begun v (omega arith)) (eq-or-not v root);
        descent = s.descent;
      }

  kept : (w : ℕ) → w < n → (v : ℕ) → v < root → marked (set pushed w true) v ≡ true
  kept w l v h = mark-keeps pushed w v (subst (λ (k : ℕ). w < k) (sym s.descent.1.sizes.1) (omega arith)) (s.begun v h)

  module _ (more : 0 < depth) (v : ℕ) (top : v ≡ get_or stack (depth - 1) 0) where
    pub searching-below : v < n
    searching-below = top_below ts n more v top s.descent

    module _ (w : ℕ) (waiting : Some w ≡ waits ts n (marked taken) v) where
      pub searching-push : marked pushed w ≡ false → Searching ts n taken (set pushed w true) (set stack depth w) root (depth + 1) count
      searching-push e =
          let (l, r, f) = waits-for ts n (marked taken) v w waiting in
          record { bound = s.bound; begun = kept w l; descent = descent-push ts n more v top few s.descent w r f e }

      pub searching-leave : marked pushed w ≡ true → Searching ts n taken pushed stack root 0 count
      searching-leave e =
          let (l, r, f) = waits-for ts n (marked taken) v w waiting in
          record { bound = s.bound; begun = s.begun; descent = descent-leave ts n more v top s.descent w r f e }

    pub searching-take : None ≡ waits ts n (marked taken) v → Searching ts n (set taken v true) pushed stack root (depth - 1) (count + 1)
    searching-take e =
        record { bound = s.bound; begun = s.begun; descent = descent-take ts n more v top few s.descent (waits-none ts n (marked taken) v e) }

-- between two paths
module _
    {ts : List ℕ} {n : ℕ} (few : n ≤ node_limit) {taken pushed : List Bool} {stack : List ℕ} {root count : ℕ}
    (s : Searching ts n taken pushed stack root 0 count) where
  pub searching-end : n ≤ root → (count ≡ length (index_order ts n)) × ((v : ℕ) → marked taken v ≡ member v (index_order ts n))
  searching-end h = descent-end ts n s.descent refl (λ v l. s.begun v (omega arith))

  module _ (go : root < n) where
    pub searching-root : marked pushed root ≡ false → Searching ts n taken (set pushed root true) (set stack 0 root) (root + 1) 1 count
    searching-root e =
        let l : root < length pushed = subst (λ (k : ℕ). root < k) (sym s.descent.1.sizes.1) (omega arith) in
        record {
          bound = omega arith;
          begun = λ v h.
              ⊎_elim (λ q. rw q (mark-same pushed root l)) (λ d. mark-keeps pushed root v l (s.begun v (omega arith))) (eq-or-not v root);
          descent = descent-root ts n few s.descent refl root go e;
        }
