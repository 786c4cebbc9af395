-- The first, all and any of some numbers.
use Prim.Native.Nat.{ℕ, zero, suc, ◌+◌, ◌-◌, ◌≤◌, ◌<◌}
use mathlib.Core.Path.{◌≡◌, refl, ap, sym, ◌∙◌}
use mathlib.Core.Bool.{Bool, true, false, cond}
use mathlib.Core.Logic.{◌⊎◌, inl, inr, ⊎_elim}
use native.Mathlib.Omega.{arith}
use borrow.Author.Tests.{lt-ltb, le-ltb}
use Rattle.std.specs.Prelude.{Option, Some, None, MatchOption, ltb}
use Rattle.base.proofs.Bools.{or-inv, or_left, or_right, and-inv, and_both}
use Rattle.base.proofs.Numbers.{lt-or-le}
use Rattle.order.specs.Indices.{first_of, first_in, all_of, any_of}

-- ---- either

pub eq-or-not : (a b : ℕ) → (a ≡ b) ⊎ (a ≡ b → ⊥)
eq-or-not a b =
    ⊎_elim (λ l. inr (λ e. omega arith)) (λ h. ⊎_elim (λ l. inr (λ e. omega arith)) (λ g. inl (omega arith)) (lt-or-le b a)) (lt-or-le a b)

pub true-or-false : (b : Bool) → (b ≡ true) ⊎ (b ≡ false)
true-or-false true = inl refl
true-or-false false = inr refl

pub both : {P : Type 0} → (b : Bool) → b ≡ true → b ≡ false → P
both b e f = let z : ◌≡◌ {A = ℕ} 0 1 = cc in absurd (omega arith)

module _ (p : ℕ → Bool) where
  -- ---- the first

  -- it lies between the ends, it passes where it is not the end, and none before it does
  pub record First (i k f : ℕ) : Type 0 where
    pub low : i ≤ f
    pub high : f ≤ i + k
    pub hit : f < i + k → p f ≡ true
    pub miss : (v : ℕ) → i ≤ v → v < f → p v ≡ false

  pub first-is : (k i : ℕ) → First i k (first_of p i k)
  unfolding first_of
  first-is zero i = record { low = omega arith; high = omega arith; hit = λ h. absurd (omega arith); miss = λ v a b. absurd (omega arith) }
  first-is (suc k) i = pick_one (p i) refl (first-is k (suc i))
    where
      pick_one : (b : Bool) → p i ≡ b → First (suc i) k (first_of p (suc i) k) → First i (suc k) (cond b i (first_of p (suc i) k))
      pick_one true e h = record { low = omega arith; high = omega arith; hit = λ l. e; miss = λ v a b. absurd (omega arith) }
      pick_one false e h =
          record {
            low = omega (arith, h.low);
            high = omega (arith, h.high);
            hit = λ l. h.hit (omega arith);
            miss = λ v a b. ⊎_elim (λ q. ap p q ∙ e) (λ d. h.miss v (omega arith) b) (eq-or-not v i);
          }

  -- none of the first d passes
  pub first_past : (d i k : ℕ) → ((v : ℕ) → i ≤ v → v < i + d → p v ≡ false) → first_of p i (d + k) ≡ first_of p (i + d) k
  unfolding first_of
  first_past zero i k h =
      let e : 0 + k ≡ k = omega arith in
      let f : i ≡ i + 0 = omega arith in
      ap (λ (m : ℕ). first_of p i m) e ∙ ap (λ (s : ℕ). first_of p s k) f
  first_past (suc d) i k h =
      let e : suc d + k ≡ suc (d + k) = omega arith in
      let f : suc i + d ≡ i + suc d = omega arith in
      ap (λ (m : ℕ). first_of p i m) e ∙ ap (λ (b : Bool). cond b i (first_of p (suc i) (d + k))) (h i (omega arith) (omega arith))
      ∙ (first_past d (suc i) k (λ v a b. h v (omega arith) (omega arith)) ∙ ap (λ (s : ℕ). first_of p s k) f)

  pub first-from : (n low : ℕ) → low ≤ n → ((v : ℕ) → v < low → p v ≡ false) → first_of p 0 n ≡ first_of p low (n - low)
  first-from n low l h =
      let e : n ≡ low + (n - low) = omega arith in
      let f : 0 + low ≡ low = omega arith in
      ap (λ (m : ℕ). first_of p 0 m) e ∙ first_past low 0 (n - low) (λ v a b. h v (omega arith)) ∙ ap (λ (s : ℕ). first_of p s (n - low)) f

  -- ---- the first from `low` up to n, where none from `low` up to i passes

  abbrev pub Missed : ℕ → ℕ → Type 0
  Missed low i = (v : ℕ) → low ≤ v → v < i → p v ≡ false

  -- the search may go on from i
  first-missed : (n low i : ℕ) → low ≤ i → i ≤ n → Missed low i → first_of p low (n - low) ≡ first_of p i (n - i)
  first-missed n low i a b h =
      let e : n - low ≡ (i - low) + (n - i) = omega arith in
      let f : low + (i - low) ≡ i = omega arith in
      ap (first_of p low) e ∙ first_past (i - low) low (n - i) (λ v x y. h v x (omega arith)) ∙ ap (λ (s : ℕ). first_of p s (n - i)) f

  pub first-here : (n low i : ℕ) → low ≤ i → i < n → Missed low i → p i ≡ true → i ≡ first_of p low (n - low)
  unfolding first_of
  first-here n low i a b h q =
      let e : n - i ≡ suc (n - suc i) = omega arith in
      sym (first-missed n low i a (omega arith) h ∙ (ap (first_of p i) e ∙ ap (λ (b : Bool). cond b i (first_of p (suc i) (n - suc i))) q))

  pub first-nowhere : (n low : ℕ) → low ≤ n → Missed low n → n ≡ first_of p low (n - low)
  unfolding first_of
  first-nowhere n low a h =
      let e : n - n ≡ 0 = omega arith in
      sym (first-missed n low n a (omega arith) h ∙ ap (first_of p n) e)

  pub in-at : (n low f : ℕ) → f ≡ first_of p low (n - low) → f < n → Some f ≡ first_in p low n
  in-at n low f e l = rw (sym e, lt-ltb f n l)

  pub in-end : (n low f : ℕ) → f ≡ first_of p low (n - low) → n ≤ f → None ≡ first_in p low n
  in-end n low f e l = rw (sym e, le-ltb f n l)

  pub found-in : (n low i : ℕ) → low ≤ i → i < n → Missed low i → p i ≡ true → Some i ≡ first_in p low n
  found-in n low i a b h q = in-at n low i (first-here n low i a b h q) b

  pub nothing-in : (n low : ℕ) → low ≤ n → Missed low n → None ≡ first_in p low n
  nothing-in n low a h = in-end n low n (first-nowhere n low a h) (omega arith)

  -- as a `find` over the range says it
  abbrev pub FoundIn : ℕ → ℕ → Option ℕ → Type 0
  FoundIn low n r = MatchOption r (Missed low n) (λ i. (low ≤ i) × (i < n) × (p i ≡ true) × Missed low i)

  pub found-is : (n low : ℕ) (r : Option ℕ) → low ≤ n → FoundIn low n r → r ≡ first_in p low n
  found-is n low None a h = nothing-in n low a h
  found-is n low (Some i) a (b, l, e, m) = found-in n low i b l m e

  -- what the answer says
  pub in-some : (n low i : ℕ) → Some i ≡ first_in p low n → (i ≡ first_of p low (n - low)) × (i < n)
  in-some n low i e =
      ⊎_elim
      (λ l. let a = in-at n low (first_of p low (n - low)) refl l in
      let s : i ≡ first_of p low (n - low) = cc in (s, omega arith))
      (λ l. let a = in-end n low (first_of p low (n - low)) refl l in let z : ◌≡◌ {A = ℕ} 0 1 = cc in absurd (omega arith))
      (lt-or-le (first_of p low (n - low)) n)

  pub in-none : (n low : ℕ) → None ≡ first_in p low n → n ≤ first_of p low (n - low)
  in-none n low e =
      ⊎_elim (λ l. let a = in-at n low (first_of p low (n - low)) refl l in let z : ◌≡◌ {A = ℕ} 0 1 = cc in absurd (omega arith)) (λ l. l)
      (lt-or-le (first_of p low (n - low)) n)

  -- ---- all

  pub all-each : (k i : ℕ) → all_of p i k ≡ true → (v : ℕ) → i ≤ v → v < i + k → p v ≡ true
  unfolding all_of
  all-each zero i e v a b = absurd (omega arith)
  all-each (suc k) i e v a b =
      let (x, y) = and-inv (p i) (all_of p (suc i) k) e in
      ⊎_elim (λ q. ap p q ∙ x) (λ d. all-each k (suc i) y v (omega arith) (omega arith)) (eq-or-not v i)

  pub each_all : (k i : ℕ) → ((v : ℕ) → i ≤ v → v < i + k → p v ≡ true) → all_of p i k ≡ true
  unfolding all_of
  each_all zero i h = refl
  each_all (suc k) i h =
      and_both (p i) (all_of p (suc i) k) (h i (omega arith) (omega arith)) (each_all k (suc i) (λ v a b. h v (omega arith) (omega arith)))

  -- ---- any

  pub any_some : (k i : ℕ) → any_of p i k ≡ true → (v : ℕ) × (i ≤ v) × (v < i + k) × (p v ≡ true)
  unfolding any_of
  any_some zero i e = let z : ◌≡◌ {A = ℕ} 0 1 = cc in absurd (omega arith)
  any_some (suc k) i e =
      ⊎_elim (λ a. (i, omega arith, omega arith, a)) (λ b. let (v, l, h, q) = any_some k (suc i) b in (v, omega arith, omega arith, q))
      (or-inv (p i) (any_of p (suc i) k) e)

  pub some-any : (k i v : ℕ) → i ≤ v → v < i + k → p v ≡ true → any_of p i k ≡ true
  unfolding any_of
  some-any zero i v a b e = absurd (omega arith)
  some-any (suc k) i v a b e =
      ⊎_elim (λ q. or_left (p i) (any_of p (suc i) k) (ap p (sym q) ∙ e))
      (λ d. or_right (p i) (any_of p (suc i) k) (some-any k (suc i) v (omega arith) (omega arith) e)) (eq-or-not v i)

-- ---- the same of two tests that agree

module _ (p q : ℕ → Bool) where
  pub first-same : (k i : ℕ) → ((v : ℕ) → i ≤ v → v < i + k → p v ≡ q v) → first_of p i k ≡ first_of q i k
  unfolding first_of
  first-same zero i h = refl
  first-same (suc k) i h = rw (h i (omega arith) (omega arith), first-same k (suc i) (λ v a b. h v (omega arith) (omega arith)))

  pub all_same : (k i : ℕ) → ((v : ℕ) → i ≤ v → v < i + k → p v ≡ q v) → all_of p i k ≡ all_of q i k
  unfolding all_of
  all_same zero i h = refl
  all_same (suc k) i h = rw (h i (omega arith) (omega arith), all_same k (suc i) (λ v a b. h v (omega arith) (omega arith)))

  pub first-in-same : (n : ℕ) → ((v : ℕ) → v < n → p v ≡ q v) → first_in p 0 n ≡ first_in q 0 n
  first-in-same n h = ap (λ (f : ℕ). cond (ltb f n) (Some f) None) (first-same (n - 0) 0 (λ v a b. h v (omega arith)))
