-- Steps that were taken, tests that passed.
use Prim.Native.Nat.{ℕ}
use mathlib.Core.Path.{◌≡◌, refl, ap, sym, subst}
use mathlib.Core.Bool.{Bool, true, false}
use mathlib.Core.List.{List, [], ◌∷◌}
use mathlib.Core.Option.{Option, none, some}
use mathlib.Core.Logic.{◌⊎◌, inl, inr}
use native.Mathlib.Omega.{arith}
use Rattle.base.specs.Outcome.{Outcome, ok, fault, ◌>>=◌, ◌>>◌, need, each, or_else}
use Rattle.base.specs.Lists.{Is, Each}

module _ {A B : Type 0} where
  pub took : (g : Outcome A) (k : A → Outcome B) (b : B) → (g >>= k) ≡ ok b → (a : A) × (g ≡ ok a) × (k a ≡ ok b)
  unfolding ◌>>=◌
  took (ok a) k b e = (a, refl, e)
  took (fault n p) k b e = let z : ◌≡◌ {A = ℕ} 0 1 = cc in absurd (omega arith)

  pub after : (g : Outcome A) (h : Outcome B) (b : B) → (g >> h) ≡ ok b → (a : A) × (g ≡ ok a) × (h ≡ ok b)
  unfolding ◌>>◌
  after (ok a) h b e = (a, refl, e)
  after (fault n p) h b e = let z : ◌≡◌ {A = ℕ} 0 1 = cc in absurd (omega arith)

module _ {B : Type 0} where
  pub passed : (t : Bool) (n p : ℕ) (g : Outcome B) (b : B) → (need t n p >> g) ≡ ok b → (t ≡ true) × (g ≡ ok b)
  unfolding need ◌>>◌
  passed true n p g b e = (refl, e)
  passed false n p g b e = let z : ◌≡◌ {A = ℕ} 0 1 = cc in absurd (omega arith)

-- the other way round
module _ {A B : Type 0} where
  pub takes : (g : Outcome A) (k : A → Outcome B) (a : A) → g ≡ ok a → (g >>= k) ≡ k a
  unfolding ◌>>=◌
  takes g k a e = rw e refl

  pub stops : (g : Outcome A) (k : A → Outcome B) (n p : ℕ) → g ≡ fault n p → (g >>= k) ≡ fault n p
  unfolding ◌>>=◌
  stops g k n p e = rw e refl

  -- the same of a step whose answer is not kept
  pub goes : (g : Outcome A) (h : Outcome B) (a : A) → g ≡ ok a → (g >> h) ≡ h
  unfolding ◌>>◌
  goes g h a e = rw e refl

  pub halts : (g : Outcome A) (h : Outcome B) (n p : ℕ) → g ≡ fault n p → (g >> h) ≡ fault n p
  unfolding ◌>>◌
  halts g h n p e = rw e refl

module _ {B : Type 0} where
  pub fails : (t : Bool) (n p : ℕ) (g : Outcome B) → t ≡ false → (need t n p >> g) ≡ fault n p
  unfolding need ◌>>◌
  fails t n p g e = rw e refl

  pub passes : (t : Bool) (n p : ℕ) (g : Outcome B) → t ≡ true → (need t n p >> g) ≡ g
  unfolding need ◌>>◌
  passes t n p g e = rw e refl

pub needs : (t : Bool) (n p : ℕ) → t ≡ true → need t n p ≡ ok tt
unfolding need
needs t n p e = rw e refl

module _ {A : Type 0} where
  pub ok-is : {a b : A} → ok a ≡ ok b → a ≡ b
  ok-is e = cc

pub needed : (t : Bool) (n p : ℕ) (u : Unit {0}) → need t n p ≡ ok u → t ≡ true
unfolding need
needed true n p u e = refl
needed false n p u e = let z : ◌≡◌ {A = ℕ} 0 1 = cc in absurd (omega arith)

module _ {A : Type 0} where
  pub each-is : (g : A → Outcome (Unit {0})) (xs : List A) (u : Unit {0}) → each g xs ≡ ok u → (x : A) → Is x xs → g x ≡ ok tt
  each-is g [] u e x h = absurd h
  each-is g (y ∷ xs) u e x (inl q) = let (a, p, r) = took (g y) (λ v. each g xs) u e in subst (λ (z : A). g z ≡ ok tt) (sym q) p
  each-is g (y ∷ xs) u e x (inr i) = let (a, p, r) = took (g y) (λ v. each g xs) u e in each-is g xs u r x i

  pub is-each : (P : A → Type 0) (xs : List A) → Each P xs → (x : A) → Is x xs → P x
  is-each P [] h x i = absurd i
  is-each P (y ∷ ys) (p, h) x (inl e) = subst P (sym e) p
  is-each P (y ∷ ys) (p, h) x (inr i) = is-each P ys h x i

-- ---- a fault is the first step's, or that step passed and it is of the rest

module _ {A B : Type 0} where
  pub took-fault : (g : Outcome A) (k : A → Outcome B) (n p : ℕ) → (g >>= k) ≡ fault n p → (g ≡ fault n p) ⊎ ((a : A) × (g ≡ ok a) × (k a ≡ fault n p))
  unfolding ◌>>=◌
  took-fault (ok a) k n p e = inr (a, refl, e)
  took-fault (fault m q) k n p e = let a : m ≡ n = cc in let b : q ≡ p = cc in inl (rw (a, b) refl)

  pub after-fault : (g : Outcome A) (h : Outcome B) (n p : ℕ) → (g >> h) ≡ fault n p → (g ≡ fault n p) ⊎ ((a : A) × (g ≡ ok a) × (h ≡ fault n p))
  unfolding ◌>>◌
  after-fault (ok a) h n p e = inr (a, refl, e)
  after-fault (fault m q) h n p e = let a : m ≡ n = cc in let b : q ≡ p = cc in inl (rw (a, b) refl)

module _ {B : Type 0} where
  pub passed-fault : (t : Bool) (m q : ℕ) (g : Outcome B) (n p : ℕ) → (need t m q >> g) ≡ fault n p
      → ((t ≡ false) × (m ≡ n) × (q ≡ p)) ⊎ ((t ≡ true) × (g ≡ fault n p))
  unfolding need ◌>>◌
  passed-fault true m q g n p e = inr (refl, e)
  passed-fault false m q g n p e = inl (refl, cc, cc)

  pub no-fault : (b : B) (n p : ℕ) → ok b ≡ fault n p → ⊥
  no-fault b n p e = let z : ◌≡◌ {A = ℕ} 0 1 = cc in omega arith

module _ {A B C : Type 0} where
  pub then-then : (g : Outcome A) (h : Outcome B) (k : Outcome C) → (g >> h >> k) ≡ (g >> (h >> k))
  unfolding ◌>>◌
  then-then (ok a) h k = refl
  then-then (fault n p) h k = refl

-- ---- what is there, or a fault

module _ {A : Type 0} where
  pub some-else : {o : Option A} {a : A} (n p : ℕ) → o ≡ some a → or_else o n p ≡ ok a
  some-else n p e = ap (λ o. or_else o n p) e

  pub else-some : (o : Option A) (n p : ℕ) (a : A) → or_else o n p ≡ ok a → o ≡ some a
  else-some none n p a e = let z : ◌≡◌ {A = ℕ} 0 1 = cc in absurd (omega arith)
  else-some (some b) n p a e = (cc)
