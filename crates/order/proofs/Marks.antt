-- The order by marks: which nodes are taken, where the first that is not stands, and what is stored.
use Prim.Native.Nat.{ℕ, suc, ◌+◌, ◌-◌, ◌≤◌, ◌<◌}
use mathlib.Core.Path.{◌≡◌, refl, ap, sym, ◌∙◌, subst}
use mathlib.Core.Bool.{Bool, true, false, not, ◌&&◌, ◌||◌, cond}
use mathlib.Core.List.{List, [], ◌∷◌, ◌++◌, append_assoc, append-nil}
use mathlib.Core.Logic.{⊎_elim}
use native.Mathlib.Omega.{arith}
use native.Mathlib.Nat.{not-suc-le-zero}
use lib.Dec.{leb, ltb}
use lib.ListN.{length, set, replicate, length-append, length-set, length-replicate, get_or-replicate, get_or-eq_default}
use lib.Seq.{sets, get_or-set_same, get_or-set_other}
use borrow.Author.Tests.{eq-eqb, ne_eqb, lt-ltb, le-ltb, not-false}
use Rattle.std.specs.Prelude.{Some, None}
use Rattle.base.specs.Lists.{member}
use Rattle.order.specs.Indices.{first_of, first_in, slot, settled, ready, eligible, next, order_from, index_order, marked}
use Rattle.order.proofs.Range.{eq-or-not, First, first-is, first-from, first-same, all_same, in-some, in-none}
use Rattle.base.specs.Limits.{node_limit, operand_limit}
use Rattle.base.proofs.Numbers.{lt-or-le}
use Rattle.base.proofs.Stores.{sets-append}

-- ---- a mark more

pub mark-same : (ms : List Bool) (i : ℕ) → i < length ms → marked (set ms i true) i ≡ true
mark-same ms i h = get_or-set_same ms i true false h

pub mark-other : (ms : List Bool) (i v : ℕ) → (v ≡ i → ⊥) → marked (set ms i true) v ≡ marked ms v
mark-other ms i v d = get_or-set_other ms i v true false d

pub mark-keeps : (ms : List Bool) (i v : ℕ) → i < length ms → marked ms v ≡ true → marked (set ms i true) v ≡ true
mark-keeps ms i v l h = ⊎_elim (λ e. rw e (mark-same ms i l)) (λ d. mark-other ms i v d ∙ h) (eq-or-not v i)

pub mark-none : (v : ℕ) → marked (replicate node_limit false) v ≡ false
mark-none v =
    ⊎_elim (get_or-replicate node_limit v false false)
    (λ h. get_or-eq_default (replicate node_limit false) false (subst (λ (m : ℕ). m ≤ v) (sym (length-replicate node_limit false)) h)) (lt-or-le v node_limit)

-- ---- the marks tell which nodes are done

abbrev pub Marks : List Bool → List ℕ → Type 0
Marks ms done = (v : ℕ) → marked ms v ≡ member v done

pub mark-one : (ms : List Bool) (done : List ℕ) (i : ℕ) → i < length ms → Marks ms done → Marks (set ms i true) (i ∷ done)
mark-one ms done i l h v =
    ⊎_elim (λ e. rw (eq-eqb i v e) (subst (λ (w : ℕ). marked (set ms i true) w ≡ true) e (mark-same ms i l)))
    (λ d. rw (ne_eqb i v d) (mark-other ms i v (λ q. d (sym q)) ∙ h v)) (eq-or-not i v)

module _ (ts : List ℕ) (n : ℕ) (p q : ℕ → Bool) (h : (v : ℕ) → p v ≡ q v) where
  pub ready-same : (i : ℕ) → ready ts n p i ≡ ready ts n q i
  ready-same i =
      all_same (λ j. settled n p (slot ts i j)) (λ j. settled n q (slot ts i j)) operand_limit 0
      (λ j a b. ap (λ (x : Bool). leb n (slot ts i j) || x) (h (slot ts i j)))

  eligible-same : (i : ℕ) → eligible ts n p i ≡ eligible ts n q i
  eligible-same i = rw (h i, ready-same i)

  next-same : next ts n p ≡ next ts n q
  next-same = first-same (eligible ts n p) (eligible ts n q) n 0 (λ v a b. eligible-same v)

-- ---- the order

module _ (ts : List ℕ) (n : ℕ) where
  -- `front` is ordered, the nodes of `done` are done, and those below `low` are marked
  pub record Scheduling (start order : List ℕ) (taken : List Bool) (low count : ℕ) : Type 0 where
    pub front : List ℕ
    pub done : List ℕ
    pub counted : count ≡ length front
    pub within : count ≤ n
    pub whole : index_order ts n ≡ front ++ order_from ts n (n - count) done
    pub stored : order ≡ sets start 0 front
    pub marks : Marks taken done
    pub skipped : (v : ℕ) → v < low → marked taken v ≡ true
    pub bound : low ≤ n
    pub size : length taken ≡ node_limit

  pub scheduling-none : (start : List ℕ) → Scheduling start start (replicate node_limit false) 0 0
  unfolding index_order
  scheduling-none start =
      record {
        front = [];
        done = [];
        counted = refl;
        within = omega arith;
        whole = let e : n ≡ n - 0 = omega arith in ap (λ (k : ℕ). order_from ts n k []) e;
        stored = refl;
        marks = mark-none;
        skipped = λ v h. absurd (not-suc-le-zero h);
        bound = omega arith;
        size = length-replicate node_limit false;
      }

module _ {ts : List ℕ} {n : ℕ} {start order : List ℕ} {taken : List Bool} {low count : ℕ} (s : Scheduling ts n start order taken low count) where
  -- the search from `low` on finds what the definition finds
  found : first_of (eligible ts n (marked taken)) low (n - low) ≡ next ts n (λ v. member v s.done)
  found =
      sym (first-from (eligible ts n (marked taken)) n low s.bound (λ v h. ap (λ (b : Bool). not b && ready ts n (marked taken) v) (s.skipped v h)))
      ∙ next-same ts n (marked taken) (λ v. member v s.done) s.marks

  module _ (more : count < n) where
    goes : order_from ts n (n - count) s.done ≡ order_from ts n (suc (n - (count + 1))) s.done
    goes = let e : n - count ≡ suc (n - (count + 1)) = omega arith in ap (λ (k : ℕ). order_from ts n k s.done) e

    pub scheduling-stuck : None ≡ first_in (eligible ts n (marked taken)) low n
        → (count ≡ length (index_order ts n)) × (order ≡ sets start 0 (index_order ts n))
    unfolding order_from
    scheduling-stuck e =
        let stop : order_from ts n (n - count) s.done ≡ [] =
        goes
        ∙ ap
        (λ (b : Bool). cond b (next ts n (λ v. member v s.done) ∷ order_from ts n (n - (count + 1)) (next ts n (λ v. member v s.done) ∷ s.done)) [])
        (le-ltb (next ts n (λ v. member v s.done)) n (subst (λ (k : ℕ). n ≤ k) found (in-none (eligible ts n (marked taken)) n low e))) in
        let w : index_order ts n ≡ s.front = s.whole ∙ ap (λ (l : List ℕ). s.front ++ l) stop ∙ append-nil s.front in
        (s.counted ∙ ap length (sym w), s.stored ∙ ap (λ (l : List ℕ). sets start 0 l) (sym w))

    module _ (i : ℕ) (e : Some i ≡ first_in (eligible ts n (marked taken)) low n) where
      here : (i ≡ first_of (eligible ts n (marked taken)) low (n - low)) × (i < n)
      here = in-some (eligible ts n (marked taken)) n low i e

      step : order_from ts n (n - count) s.done ≡ i ∷ order_from ts n (n - (count + 1)) (i ∷ s.done)
      unfolding order_from
      step =
          goes
          ∙ subst
          (λ (k : ℕ). cond (ltb k n) (k ∷ order_from ts n (n - (count + 1)) (k ∷ s.done)) [] ≡ i ∷ order_from ts n (n - (count + 1)) (i ∷ s.done))
          (here.0 ∙ found)
          (ap (λ (b : Bool). cond b (i ∷ order_from ts n (n - (count + 1)) (i ∷ s.done)) []) (lt-ltb i n here.1))

      -- node i is taken, and `low` goes on to the first that is not
      pub scheduling-step : n ≤ node_limit → (next_low : ℕ) → next_low ≡ first_of (λ v. not (marked (set taken i true) v)) low (n - low)
          → Scheduling ts n start (set order count i) (set taken i true) next_low (count + 1)
      scheduling-step few next_low f =
          let l : i < length taken = subst (λ (k : ℕ). i < k) (sym s.size) (omega (arith, here)) in
          let first = subst (λ (k : ℕ). First (λ v. not (marked (set taken i true) v)) low (n - low) k) (sym f) (first-is (λ v. not (marked (set taken i true) v)) (n - low) low) in
          record {
            front = s.front ++ i ∷ [];
            done = i ∷ s.done;
            counted = sym (length-append s.front (i ∷ []) ∙ ap (λ (k : ℕ). k + 1) (sym s.counted));
            within = omega arith;
            whole = s.whole ∙ ap (λ (l : List ℕ). s.front ++ l) step ∙ sym (append_assoc s.front (i ∷ []) _);
            stored =
                ap (λ (l : List ℕ). set l count i) s.stored
                ∙ (ap (λ (k : ℕ). set (sets start 0 s.front) k i) place ∙ sym (sets-append s.front (i ∷ []) start 0));
            marks = mark-one taken s.done i l s.marks;
            skipped = λ v b.
                ⊎_elim (λ h. mark-keeps taken i v l (s.skipped v h)) (λ h. not-false (marked (set taken i true) v) (first.miss v h b)) (lt-or-le v low);
            bound = omega (arith, first.high, s.bound);
            size = length-set taken i true ∙ s.size;
          }
        where
          place : count ≡ 0 + length s.front
          place = let e = s.counted in omega arith

  pub scheduling-full : n ≤ count → (count ≡ length (index_order ts n)) × (order ≡ sets start 0 (index_order ts n))
  unfolding order_from
  scheduling-full h =
      let e : n - count ≡ 0 = omega arith in
      let w : index_order ts n ≡ s.front = s.whole ∙ ap (λ (k : ℕ). s.front ++ order_from ts n k s.done) e ∙ append-nil s.front in
      (s.counted ∙ ap length (sym w), s.stored ∙ ap (λ (l : List ℕ). sets start 0 l) (sym w))
