-- A walk sees exactly the nodes to which slots lead.
use Prim.Native.Nat.{ℕ, zero, suc, ◌+◌, ◌-◌, ◌≤◌, ◌<◌}
use mathlib.Core.Path.{◌≡◌, refl, ap, sym, ◌∙◌, subst}
use mathlib.Core.Bool.{Bool, true, false, not, ◌&&◌, cond}
use mathlib.Core.List.{List, [], ◌∷◌}
use mathlib.Core.Logic.{◌⊎◌, inl, inr, ⊎_elim}
use native.Mathlib.Omega.{arith}
use native.Mathlib.Nat.{not-suc-le-zero}
use native.Mathlib.Numerals.{add-one}
use lib.Dec.{eqb, ltb}
use lib.ListN.{length, get_or, set, replicate, length-set, length-replicate, get_or-eq_default}
use lib.Seq.{get_or-set_same, get_or-set_other}
use borrow.Author.Tests.{eqb-true, eqb-false, ltb-true, ltb-false, lt-ltb, le-ltb}
use Rattle.order.specs.Indices.{slot, marked}
use Rattle.order.specs.Paths.{reads_index, Path, one, more, on_loop}
use Rattle.order.specs.Walk.{Walk, walk, visit, visit_from, unmarked}
use Rattle.order.proofs.Marks.{mark-same, mark-other, mark-keeps, mark-none}
use Rattle.order.proofs.Closure.{read_below, read-slot, slot_read, follow, on-loop-iff}
use Rattle.order.proofs.Range.{eq-or-not, both}
use Rattle.base.proofs.Numbers.{lt-or-le}
use Rattle.base.specs.Limits.{node_limit, operand_limit}

-- ---- marks that are not set

pub unmarked-none : (k : ℕ) → unmarked (replicate k false) ≡ k
unmarked-none zero = refl
unmarked-none (suc k) = ap suc (unmarked-none k)

-- one more is set
pub unmarked-set : (ms : List Bool) (v : ℕ) → v < length ms → marked ms v ≡ false → unmarked ms ≡ suc (unmarked (set ms v true))
unmarked-set [] v h e = absurd (omega arith)
unmarked-set (m ∷ ms) zero h e = ap (λ (b : Bool). cond b (unmarked ms) (suc (unmarked ms))) e
unmarked-set (true ∷ ms) (suc v) h e = unmarked-set ms v (omega arith) e
unmarked-set (false ∷ ms) (suc v) h e = ap suc (unmarked-set ms v (omega arith) e)

seen_below : (ms : List Bool) (v : ℕ) → marked ms v ≡ true → v < length ms
seen_below ms v e = ⊎_elim (λ l. l) (λ h. both (marked ms v) e (get_or-eq_default ms false h)) (lt-or-le v (length ms))

-- ---- one visit

-- the queue has room for each node that was not seen
pub record Room (w : Walk) : Type 0 where
  pub marks : length w.seen ≡ node_limit
  pub places : length w.queue ≡ node_limit
  pub rest : w.tail + unmarked w.seen ≡ node_limit

abbrev added : ℕ → Walk → Walk
added v w = walk (set w.seen v true) (set w.queue w.tail v) (w.tail + 1)

-- a node that was not seen has a place in the queue
pub has-place : (w : Walk) (v : ℕ) → Room w → v < node_limit → marked w.seen v ≡ false → w.tail < node_limit
has-place w v r l e =
    let f = unmarked-set w.seen v (subst (λ (k : ℕ). v < k) (sym r.marks) l) e in
    omega (arith, r.rest)

added-room : (w : Walk) (v : ℕ) → Room w → v < node_limit → marked w.seen v ≡ false → Room (added v w)
added-room w v r l e =
    let f = unmarked-set w.seen v (subst (λ (k : ℕ). v < k) (sym r.marks) l) e in
    record {
      marks = length-set w.seen v true ∙ r.marks;
      places = length-set w.queue w.tail v ∙ r.places;
      rest = omega (arith, r.rest);
    }

-- a visit adds a node that was not seen, or does nothing
visit-cases : (P : Walk → Type 0) (n v : ℕ) (w : Walk) → (v < n → marked w.seen v ≡ false → P (added v w)) → ((v < n → marked w.seen v ≡ true) → P w)
    → P (visit n v w)
visit-cases P n v w new old = pick_one (ltb v n) (marked w.seen v) refl refl
  where
    pick_one : (a b : Bool) → ltb v n ≡ a → marked w.seen v ≡ b → P (cond (a && not b) (added v w) w)
    pick_one true true qa qb = old (λ l. qb)
    pick_one true false qa qb = new (ltb-true v n qa) qb
    pick_one false b qa qb = old (λ l. absurd (omega (arith, ltb-false v n qa)))

pub visit-room : (n v : ℕ) (w : Walk) → n ≤ node_limit → Room w → Room (visit n v w)
visit-room n v w few r = visit-cases Room n v w (λ l e. added-room w v r (omega arith) e) (λ h. r)

-- what a visit does, by the node x that the slot's value v is
module _ (n x v : ℕ) (w : Walk) (same : x ≡ v) where
  pub visit-new : x < n → marked w.seen x ≡ false → walk (set w.seen x true) (set w.queue w.tail v) (w.tail + 1) ≡ visit n v w
  visit-new l e = rw (same, lt-ltb v n (subst (λ (k : ℕ). k < n) same l), ap (marked w.seen) (sym same) ∙ e) refl

  pub visit-seen : x < n → marked w.seen x ≡ true → w ≡ visit n v w
  visit-seen l e = rw (lt-ltb v n (subst (λ (k : ℕ). k < n) same l), ap (marked w.seen) (sym same) ∙ e) refl

  pub visit-none : n ≤ x → w ≡ visit n v w
  visit-none l = rw (le-ltb v n (subst (λ (k : ℕ). n ≤ k) same l)) refl

-- the nodes in the queue are those that were seen
pub record Good (w : Walk) : Type 0 where
  pub room : Room w
  pub queued : (v : ℕ) → marked w.seen v ≡ true → (q : ℕ) × (q < w.tail) × (get_or w.queue q 0 ≡ v)
  pub inside : (q : ℕ) → q < w.tail → marked w.seen (get_or w.queue q 0) ≡ true

-- what was seen stays so; what is new has P
pub record Step (P : ℕ → Type 0) (w z : Walk) : Type 0 where
  pub good : Good z
  pub keeps : (u : ℕ) → marked w.seen u ≡ true → marked z.seen u ≡ true
  pub kept : (q : ℕ) → q < w.tail → get_or z.queue q 0 ≡ get_or w.queue q 0
  pub grows : w.tail ≤ z.tail
  pub fresh : (u : ℕ) → marked z.seen u ≡ true → (marked w.seen u ≡ true) ⊎ P u

module _ {P : ℕ → Type 0} where
  step-none : (w : Walk) → Good w → Step P w w
  step-none w g = record { good = g; keeps = λ u h. h; kept = λ q h. refl; grows = omega arith; fresh = λ u h. inl h }

  step_then : (w y z : Walk) → Step P w y → Step P y z → Step P w z
  step_then w y z s t =
      record {
        good = t.good;
        keeps = λ u h. t.keeps u (s.keeps u h);
        kept = λ q h. t.kept q (omega (arith, s.grows)) ∙ s.kept q h;
        grows = omega (arith, s.grows, t.grows);
        fresh = λ u h. ⊎_elim (λ a. s.fresh u a) (λ b. inr b) (t.fresh u h);
      }

  step_added : (w : Walk) (v : ℕ) → Good w → v < node_limit → marked w.seen v ≡ false → P v → Step P w (added v w)
  step_added w v g l e p =
      record {
        good = record { room = added-room w v g.room l e; queued = λ u h. queued u h (eqb u v) refl; inside = λ q h. inside q h (eqb q w.tail) refl };
        keeps = λ u h. mark-keeps w.seen v u marks h;
        kept = λ q h. get_or-set_other w.queue w.tail q v 0 (λ d. omega arith);
        grows = omega arith;
        fresh = λ u h. fresh u h (eqb u v) refl;
      }
    where
      marks : v < length w.seen
      marks = subst (λ (k : ℕ). v < k) (sym g.room.marks) l

      place : w.tail < length w.queue
      place = subst (λ (k : ℕ). w.tail < k) (sym g.room.places) (has-place w v g.room l e)

      queued : (u : ℕ) → marked (set w.seen v true) u ≡ true → (b : Bool) → eqb u v ≡ b
          → (q : ℕ) × (q < w.tail + 1) × (get_or (set w.queue w.tail v) q 0 ≡ u)
      queued u h true q = (w.tail, omega arith, get_or-set_same w.queue w.tail v 0 place ∙ sym (eqb-true u v q))
      queued u h false q =
          let (x, lx, ex) = g.queued u (sym (mark-other w.seen v u (eqb-false u v q)) ∙ h) in
          (x, omega arith, get_or-set_other w.queue w.tail x v 0 (λ d. omega arith) ∙ ex)

      inside : (q : ℕ) → q < w.tail + 1 → (b : Bool) → eqb q w.tail ≡ b → marked (set w.seen v true) (get_or (set w.queue w.tail v) q 0) ≡ true
      inside q h true d =
          ap (λ (k : ℕ). marked (set w.seen v true) (get_or (set w.queue w.tail v) k 0)) (eqb-true q w.tail d)
          ∙ (ap (λ (k : ℕ). marked (set w.seen v true) k) (get_or-set_same w.queue w.tail v 0 place) ∙ mark-same w.seen v marks)
      inside q h false d =
          let f : q ≡ w.tail → ⊥ = eqb-false q w.tail d in
          ap (λ (k : ℕ). marked (set w.seen v true) k) (get_or-set_other w.queue w.tail q v 0 f)
          ∙ mark-keeps w.seen v (get_or w.queue q 0) marks (g.inside q (omega arith))

      fresh : (u : ℕ) → marked (set w.seen v true) u ≡ true → (b : Bool) → eqb u v ≡ b → (marked w.seen u ≡ true) ⊎ P u
      fresh u h true q = inr (subst P (sym (eqb-true u v q)) p)
      fresh u h false q = inl (sym (mark-other w.seen v u (eqb-false u v q)) ∙ h)

  visit-step : (n v : ℕ) (w : Walk) → n ≤ node_limit → Good w → (v < n → P v) → Step P w (visit n v w)
  visit-step n v w few g p = visit-cases (Step P w) n v w (λ l e. step_added w v g (omega arith) e (p l)) (λ h. step-none w g)

visit-marks : (n v : ℕ) (w : Walk) → n ≤ node_limit → Room w → v < n → marked (visit n v w).seen v ≡ true
visit-marks n v w few r l =
    visit-cases (λ z. marked z.seen v ≡ true) n v w (λ h e. mark-same w.seen v (subst (λ (k : ℕ). v < k) (sym r.marks) (omega arith))) (λ h. h l)

-- ---- the slots of a node

module _ (ts : List ℕ) (n : ℕ) (few : n ≤ node_limit) (i : ℕ) where
  -- one slot, and those behind it
  pub from_one : (j : ℕ) (w : Walk) → j < operand_limit → visit_from ts n i j (operand_limit - j) w ≡ visit_from ts n i (j + 1) (operand_limit - (j + 1)) (visit n (slot ts i j) w)
  unfolding visit_from
  from_one j w h =
      let e : operand_limit - j ≡ suc (operand_limit - (j + 1)) = omega arith in
      ap (λ (k : ℕ). visit_from ts n i j k w) e ∙ ap (λ (s : ℕ). visit_from ts n i s (operand_limit - (j + 1)) (visit n (slot ts i j) w)) (sym (add-one j))

  pub from_end : (j : ℕ) (w : Walk) → operand_limit ≤ j → visit_from ts n i j (operand_limit - j) w ≡ w
  unfolding visit_from
  from_end j w h = let e : operand_limit - j ≡ 0 = omega arith in ap (λ (k : ℕ). visit_from ts n i j k w) e

  from_step : (k j : ℕ) (w : Walk) → j + k ≤ operand_limit → Good w → Step (λ u. reads_index ts n i u ≡ true) w (visit_from ts n i j k w)
  unfolding visit_from
  from_step zero j w h g = step-none w g
  from_step (suc k) j w h g =
      let s = visit-step n (slot ts i j) w few g (λ l. slot_read ts n i (slot ts i j) j (omega arith) refl l) in
      step_then w (visit n (slot ts i j) w) _ s (from_step k (suc j) (visit n (slot ts i j) w) (omega arith) s.good)

  from-marks :
      (k j : ℕ) (w : Walk) → j + k ≤ operand_limit → Good w → (s : ℕ) → j ≤ s → s < j + k → slot ts i s < n
      → marked (visit_from ts n i j k w).seen (slot ts i s) ≡ true
  unfolding visit_from
  from-marks zero j w h g s a b l = absurd (omega arith)
  from-marks (suc k) j w h g s a b l =
      let y = visit n (slot ts i j) w in
      let t = visit-step {P = λ u. Unit {0}} n (slot ts i j) w few g (λ l. tt) in
      ⊎_elim
      (λ q. (from_step k (suc j) y (omega arith) t.good).keeps (slot ts i s)
      (subst (λ (x : ℕ). marked (visit n (slot ts i x) w).seen (slot ts i s) ≡ true) q (visit-marks n (slot ts i s) w few g.room l)))
      (λ d. from-marks k (suc j) y (omega arith) t.good s (omega arith) (omega arith) l) (eq-or-not s j)

  all-step : (w : Walk) → Good w → Step (λ u. reads_index ts n i u ≡ true) w (visit_from ts n i 0 operand_limit w)
  all-step w g = from_step operand_limit 0 w (omega arith) g

  all-marks : (w : Walk) → Good w → (u : ℕ) → reads_index ts n i u ≡ true → marked (visit_from ts n i 0 operand_limit w).seen u ≡ true
  all-marks w g u r =
      let (s, l, e) = read-slot ts n i u r in
      let h : slot ts i s < n = subst (λ (k : ℕ). k < n) (sym e) (read_below ts n i u r) in
      subst (λ (k : ℕ). marked (visit_from ts n i 0 operand_limit w).seen k ≡ true) e (from-marks operand_limit 0 w (omega arith) g s (omega arith) (omega arith) h)

-- ---- the walk from node i

-- the slots of i and of the first `head` nodes of the queue were visited
pub record Walking (ts : List ℕ) (n i head : ℕ) (w : Walk) : Type 0 where
  pub good : Good w
  pub bound : head ≤ w.tail
  pub reached : (v : ℕ) → marked w.seen v ≡ true → Path ts n i v
  pub first : (v : ℕ) → reads_index ts n i v ≡ true → marked w.seen v ≡ true
  pub closed : (q : ℕ) → q < head → (v : ℕ) → reads_index ts n (get_or w.queue q 0) v ≡ true → marked w.seen v ≡ true

abbrev pub nothing : Walk
nothing = walk (replicate node_limit false) (replicate node_limit 0) 0

pub nothing-room : Room nothing
nothing-room = record { marks = length-replicate node_limit false; places = length-replicate {A = ℕ} node_limit 0; rest = let e = unmarked-none node_limit in omega arith }

nothing_seen : {A : Type 0} (v : ℕ) → marked (replicate node_limit false) v ≡ true → A
nothing_seen v e = let f = mark-none v in let z : ◌≡◌ {A = ℕ} 0 1 = cc in absurd (omega arith)

nothing-good : Good nothing
nothing-good = record { room = nothing-room; queued = λ v e. nothing_seen v e; inside = λ q h. absurd (not-suc-le-zero h) }

module _ {ts : List ℕ} {n i : ℕ} (few : n ≤ node_limit) where
  pub walking_start : (w : Walk) → w ≡ visit_from ts n i 0 operand_limit nothing → Walking ts n i 0 w
  walking_start w e =
      let s = all-step ts n few i nothing nothing-good in
      subst (Walking ts n i 0) (sym e)
      (record {
        good = s.good;
        bound = omega arith;
        reached = λ v h. ⊎_elim (λ a. nothing_seen v a) (λ r. one r) (s.fresh v h);
        first = all-marks ts n few i nothing nothing-good;
        closed = λ q h. absurd (not-suc-le-zero h);
      })

  pub at_head : {head : ℕ} {w : Walk} → Walking ts n i head w → head < w.tail → get_or w.queue head 0 < node_limit
  at_head {head} {w} k h = subst (λ (m : ℕ). get_or w.queue head 0 < m) k.good.room.marks (seen_below w.seen (get_or w.queue head 0) (k.good.inside head h))

  pub walking-step : {head : ℕ} {w : Walk} (z : Walk) → Walking ts n i head w → head < w.tail → z ≡ visit_from ts n (get_or w.queue head 0) 0 operand_limit w → Walking ts n i (head + 1) z
  walking-step {head} {w} z k h e =
      let x = get_or w.queue head 0 in
      let y = visit_from ts n x 0 operand_limit w in
      let s = all-step ts n few x w k.good in
      subst (Walking ts n i (head + 1)) (sym e)
      (record {
        good = s.good;
        bound = omega (arith, s.grows);
        reached = λ v a. ⊎_elim (λ b. k.reached v b) (λ r. follow ts n (k.reached x (k.good.inside head h)) (one r)) (s.fresh v a);
        first = λ v r. s.keeps v (k.first v r);
        closed = λ q l v r.
            ⊎_elim
            (λ d. all-marks ts n few x w k.good v (subst (λ (m : ℕ). reads_index ts n m v ≡ true) (ap (λ (m : ℕ). get_or y.queue m 0) d ∙ s.kept head h) r))
            (λ d. s.keeps v (k.closed q (omega arith) v (subst (λ (m : ℕ). reads_index ts n m v ≡ true) (s.kept q (omega (arith, k.bound))) r)))
            (eq-or-not q head);
      })

  -- the walk came back to i
  pub walking-back : {head : ℕ} {w : Walk} → Walking ts n i head w → marked w.seen i ≡ true → on_loop ts n i ≡ true
  walking-back k e = (on-loop-iff ts n i).1 (k.reached i e)

  -- where nothing is left of the queue, what was seen leads only to what was seen
  leads-seen : {head : ℕ} {w : Walk} → Walking ts n i head w → w.tail ≤ head → {x y : ℕ} → Path ts n x y
      → ((v : ℕ) → reads_index ts n x v ≡ true → marked w.seen v ≡ true) → marked w.seen y ≡ true
  leads-seen k h (one {j = y} r) next = next y r
  leads-seen k h (more {k = x} r p) next =
      let (q, l, e) = k.good.queued x (next x r) in
      leads-seen k h p (λ v s. k.closed q (omega arith) v (subst (λ (m : ℕ). reads_index ts n m v ≡ true) (sym e) s))

  pub walking-done : {head : ℕ} {w : Walk} → Walking ts n i head w → w.tail ≤ head → marked w.seen i ≡ on_loop ts n i
  walking-done {head} {w} k h = pick_one (marked w.seen i) (on_loop ts n i) refl refl
    where
      pick_one : (a b : Bool) → marked w.seen i ≡ a → on_loop ts n i ≡ b → a ≡ b
      pick_one true b qa qb = sym (walking-back k qa) ∙ qb
      pick_one false true qa qb = sym qa ∙ leads-seen k h ((on-loop-iff ts n i).0 qb) k.first
      pick_one false false qa qb = refl
