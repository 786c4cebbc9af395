-- Nodes taken in any order, each after all that it reads: where no more can be, they are those of the order.
use Prim.Native.Nat.{ℕ, zero, suc, ◌+◌, ◌≤◌, ◌<◌}
use mathlib.Core.Path.{◌≡◌, refl, ap, sym, ◌∙◌, subst}
use mathlib.Core.Bool.{Bool, true, false, not, ◌&&◌, ◌||◌, cond}
use mathlib.Core.List.{List, [], ◌∷◌}
use mathlib.Core.Logic.{⊎_elim}
use native.Mathlib.Omega.{arith}
use lib.Dec.{eqb, leb, ltb}
use lib.ListN.{length}
use borrow.Author.Tests.{eqb-true, eqb-false, ne_eqb, ltb-true, ltb-false, not-true}
use Rattle.base.specs.Lists.{member}
use Rattle.base.proofs.Lists.{member-inv}
use Rattle.base.proofs.Bools.{and-inv, or-inv, or_left, or_right}
use Rattle.order.specs.Indices.{slot, settled, ready, eligible, next, order_from, index_order}
use Rattle.order.proofs.Range.{eq-or-not, true-or-false, First, first-is, all-each, each_all}
use Rattle.base.specs.Limits.{operand_limit}

-- ---- how many of the k numbers from i on are missing

abbrev pub missing : List ℕ → ℕ → ℕ → ℕ
missing is i zero = 0
missing is i (suc k) = cond (member i is) (missing is (suc i) k) (suc (missing is (suc i) k))

missing-all : (k i : ℕ) → missing [] i k ≡ k
missing-all zero i = refl
missing-all (suc k) i = ap suc (missing-all k (suc i))

missing-past : (k i f : ℕ) (is : List ℕ) → f < i → missing (f ∷ is) i k ≡ missing is i k
missing-past zero i f is h = refl
missing-past (suc k) i f is h = rw (ne_eqb f i (λ e. omega arith), missing-past k (suc i) f is (omega arith))

missing-one : (k i f : ℕ) (is : List ℕ) → i ≤ f → f < i + k → member f is ≡ false → missing is i k ≡ suc (missing (f ∷ is) i k)
missing-one zero i f is a b e = absurd (omega arith)
missing-one (suc k) i f is a b e = pick_one (eqb f i) refl (λ l. missing-one k (suc i) f is l (omega arith) e)
  where
    other : (b : Bool) → missing is (suc i) k ≡ suc (missing (f ∷ is) (suc i) k)
        → cond b (missing is (suc i) k) (suc (missing is (suc i) k)) ≡ suc (cond b (missing (f ∷ is) (suc i) k) (suc (missing (f ∷ is) (suc i) k)))
    other true h = h
    other false h = ap suc h

    pick_one :
        (b : Bool) → eqb f i ≡ b → (suc i ≤ f → missing is (suc i) k ≡ suc (missing (f ∷ is) (suc i) k))
        → cond (member i is) (missing is (suc i) k) (suc (missing is (suc i) k))
        ≡ suc (cond (cond b true (member i is)) (missing (f ∷ is) (suc i) k) (suc (missing (f ∷ is) (suc i) k)))
    pick_one true q ih =
        let x : f ≡ i = eqb-true f i q in
        ap (λ (b : Bool). cond b (missing is (suc i) k) (suc (missing is (suc i) k))) (ap (λ (v : ℕ). member v is) (sym x) ∙ e)
        ∙ ap suc (sym (missing-past k (suc i) f is (omega arith)))
    pick_one false q ih = let d : f ≡ i → ⊥ = eqb-false f i q in other (member i is) (ih (omega arith))

pub missing-none : (k i : ℕ) (is : List ℕ) → missing is i k ≡ 0 → (v : ℕ) → i ≤ v → v < i + k → member v is ≡ true
missing-none zero i is e v a b = absurd (omega arith)
missing-none (suc k) i is e v a b =
    ⊎_elim
    (λ q.
    ⊎_elim (λ w. ap (λ (x : ℕ). member x is) w ∙ q) (λ d. missing-none k (suc i) is (rw q at e) v (omega arith) (omega arith)) (eq-or-not v i))
    (λ q. let z = rw q at e in absurd (omega arith)) (true-or-false (member i is))

missing-same : (is os : List ℕ) → ((v : ℕ) → member v is ≡ member v os) → (k i : ℕ) → missing is i k ≡ missing os i k
missing-same is os h zero i = refl
missing-same is os h (suc k) i = rw (h i, missing-same is os h k (suc i))

-- ---- nodes taken one after another, the last first

or-none : (b : Bool) → b ≡ b || false
or-none true = refl
or-none false = refl

or-moved : (a b c : Bool) → cond a true b || c ≡ b || cond a true c
or-moved true true c = refl
or-moved true false c = refl
or-moved false b c = refl

module _ (ts : List ℕ) (n : ℕ) where
  -- each was not taken before, and all that it reads was
  abbrev pub Built : List ℕ → Type 0
  Built [] = Unit {0}
  Built (f ∷ is) = (f < n) × (eligible ts n (λ v. member v is) f ≡ true) × Built is

  -- no node can be taken
  abbrev pub Stuck : (ℕ → Bool) → Type 0
  Stuck done = (v : ℕ) → v < n → eligible ts n done v ≡ false

  pub fresh : (done : ℕ → Bool) (f : ℕ) → eligible ts n done f ≡ true → done f ≡ false
  fresh done f e = not-true (done f) (and-inv (not (done f)) (ready ts n done f) e).0

  pub built-size : (is : List ℕ) → Built is → missing is 0 n + length is ≡ n
  built-size [] b = let e = missing-all n 0 in omega arith
  built-size (f ∷ is) (l, e, b) =
      let h = built-size is b in
      let m = missing-one n 0 f is (omega arith) (omega arith) (fresh (λ v. member v is) f e) in
      omega arith

  -- all are taken
  stuck-full : (is : List ℕ) → missing is 0 n ≡ 0 → Stuck (λ v. member v is)
  stuck-full is e v l =
      ap (λ (b : Bool). not b && ready ts n (λ w. member w is) v) (missing-none n 0 is e v (omega arith) (omega arith))

  -- ---- in whichever order

  ready-more : (p q : ℕ → Bool) → ((v : ℕ) → p v ≡ true → q v ≡ true) → (i : ℕ) → ready ts n p i ≡ true → ready ts n q i ≡ true
  ready-more p q h i e =
      each_all (λ j. settled n q (slot ts i j)) operand_limit 0
      (λ j a b.
      ⊎_elim (λ x. or_left (leb n (slot ts i j)) (q (slot ts i j)) x)
      (λ y. or_right (leb n (slot ts i j)) (q (slot ts i j)) (h (slot ts i j) y))
      (or-inv (leb n (slot ts i j)) (p (slot ts i j)) (all-each (λ j. settled n p (slot ts i j)) operand_limit 0 e j a b)))

  -- what can be taken at all is among the nodes to which none can be added
  inside : (done : ℕ → Bool) → Stuck done → (is : List ℕ) → Built is → (v : ℕ) → member v is ≡ true → done v ≡ true
  inside done s [] b v e = let z : ◌≡◌ {A = ℕ} 0 1 = cc in absurd (omega arith)
  inside done s (f ∷ is) (l, c, b) v e =
      ⊎_elim
      (λ q. subst (λ (k : ℕ). done k ≡ true) q
      (new (done f) refl (ready-more (λ w. member w is) done (inside done s is b) f (and-inv (not (member f is)) (ready ts n (λ w. member w is) f) c).1)))
      (inside done s is b v) (member-inv v f is e)
    where
      new : (x : Bool) → done f ≡ x → ready ts n done f ≡ true → x ≡ true
      new true q r = refl
      new false q r = sym (s f l) ∙ ap (λ (y : Bool). not y && ready ts n done f) q ∙ r

  same-members : (is os : List ℕ) → Built is → Built os → Stuck (λ v. member v is) → Stuck (λ v. member v os) → (v : ℕ) → member v is ≡ member v os
  same-members is os a b s t v = pick_one (member v is) (member v os) (inside (λ w. member w os) t is a v) (inside (λ w. member w is) s os b v)
    where
      pick_one : (x y : Bool) → (x ≡ true → y ≡ true) → (y ≡ true → x ≡ true) → x ≡ y
      pick_one true y f g = sym (f refl)
      pick_one false true f g = g refl
      pick_one false false f g = refl

  -- ---- the order is one of them

  record Extends (is os rest : List ℕ) : Type 0 where
    pub built : Built os
    pub stuck : Stuck (λ v. member v os)
    pub size : length os ≡ length is + length rest
    pub members : (v : ℕ) → member v os ≡ member v is || member v rest

  extends-none : (is : List ℕ) → Built is → Stuck (λ v. member v is) → Extends is is []
  extends-none is b s = record { built = b; stuck = s; size = omega arith; members = λ v. or-none (member v is) }

  order-built : (k : ℕ) (is : List ℕ) → Built is → missing is 0 n ≤ k → (os : List ℕ) × Extends is os (order_from ts n k is)
  unfolding order_from
  order-built zero is b h = (is, extends-none is b (stuck-full is (omega arith)))
  order-built (suc k) is b h =
      pick_one (next ts n (λ v. member v is)) (first-is (eligible ts n (λ v. member v is)) n 0) (ltb (next ts n (λ v. member v is)) n) refl
      (λ js c l. order-built k js c l)
    where
      pick_one :
          (f : ℕ) → First (eligible ts n (λ v. member v is)) 0 n f → (x : Bool) → ltb f n ≡ x
          → ((js : List ℕ) → Built js → missing js 0 n ≤ k → (os : List ℕ) × Extends js os (order_from ts n k js))
          → (os : List ℕ) × Extends is os (cond x (f ∷ order_from ts n k (f ∷ is)) [])
      pick_one f first true q ih =
          let l = ltb-true f n q in
          let can = first.hit (omega arith) in
          let m = missing-one n 0 f is (omega arith) (omega arith) (fresh (λ v. member v is) f can) in
          let (os, x) = ih (f ∷ is) (l, can, b) (omega arith) in (
            os,
            record {
              built = x.built;
              stuck = x.stuck;
              size = let e = x.size in omega arith;
              members = λ v. x.members v ∙ or-moved (eqb f v) (member v is) (member v (order_from ts n k (f ∷ is)));
            },
          )
      pick_one f first false q ih =
          let l = ltb-false f n q in
          (is, extends-none is b (λ v h. first.miss v (omega arith) (omega arith)))

  -- the nodes of the order, taken one after another
  pub ordered : (os : List ℕ) × Built os × Stuck (λ v. member v os) × (length os ≡ length (index_order ts n))
      × ((v : ℕ) → member v os ≡ member v (index_order ts n))
  unfolding index_order
  ordered =
      let h = missing-all n 0 in
      let (os, x) = order-built n [] tt (omega arith) in
      (os, x.built, x.stuck, let e = x.size in omega arith, x.members)

  pub any_order : (is : List ℕ) → Built is → Stuck (λ v. member v is)
      → (length is ≡ length (index_order ts n)) × ((v : ℕ) → member v is ≡ member v (index_order ts n))
  any_order is b s =
      let (os, c, t, size, members) = ordered in
      let same = same-members is os b c s t in
      let x = built-size is b in
      let y = built-size os c in
      let m = missing-same is os same n 0 in
      (omega arith, λ v. same v ∙ members v)
