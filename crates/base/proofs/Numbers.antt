-- Numbers compared.
use Prim.Native.Nat.{ℕ, zero, suc, ◌+◌, ◌-◌, ◌≤◌, ◌<◌}
use mathlib.Core.Path.{◌≡◌, refl, ap, sym}
use mathlib.Core.Bool.{Bool, true, false, ◌&&◌}
use mathlib.Core.Logic.{◌⊎◌, inl, inr, ⊎_elim}
use native.Mathlib.Omega.{arith}
use lib.Dec.{eqb, leb}
use borrow.Author.Tests.{eqb-true, eqb-false, eq-eqb, ne_eqb, leb-true, leb-false}
use Rattle.base.proofs.Bools.{and-inv, and-inv-false}

pub lt-or-le : (a b : ℕ) → (a < b) ⊎ (b ≤ a)
lt-or-le a zero = inr (omega arith)
lt-or-le zero (suc b) = inl (omega arith)
lt-or-le (suc a) (suc b) = ⊎_elim (λ l. inl (omega arith)) (λ l. inr (omega arith)) (lt-or-le a b)

-- one of the numbers below b, or b
pub lt-or-eq : (a b : ℕ) → a < suc b → (a < b) ⊎ (a ≡ b)
lt-or-eq zero zero l = inr refl
lt-or-eq zero (suc b) l = inl (omega arith)
lt-or-eq (suc a) zero l = absurd (omega arith)
lt-or-eq (suc a) (suc b) l = ⊎_elim (λ h. inl (omega arith)) (λ e. inr (ap suc e)) (lt-or-eq a b (omega arith))

-- what a loop's step leaves
pub one_less : (n j : ℕ) → j < n → n - j ≡ suc (n - (j + 1))
one_less n j h = omega arith

pub eqb-sym : (a b : ℕ) → eqb a b ≡ eqb b a
eqb-sym a b = go (eqb a b) refl
  where
    go : (t : Bool) → eqb a b ≡ t → t ≡ eqb b a
    go true e = sym (eq-eqb b a (sym (eqb-true a b e)))
    go false e = let n : a ≡ b → ⊥ = eqb-false a b e in sym (ne_eqb b a (λ q. n (sym q)))

-- ---- tests of ranges, passed or not

-- a number is at least 1, or 0
pub none_at_all : (x : ℕ) → leb 1 x ≡ false → x ≡ 0
none_at_all x e = let h = leb-false 1 x e in omega arith

pub between : (x top : ℕ) → leb 1 x && leb x top ≡ true → (1 ≤ x) × (x ≤ top)
between x top e = let (a, b) = and-inv (leb 1 x) (leb x top) e in (leb-true 1 x a, leb-true x top b)

pub not-between : (x top : ℕ) → leb 1 x && leb x top ≡ false → (x ≡ 0) ⊎ (top < x)
not-between x top e = ⊎_elim (λ a. inl (none_at_all x a)) (λ b. inr (leb-false x top b)) (and-inv-false (leb 1 x) (leb x top) e)

pub between-apart : (x top : ℕ) → (1 ≤ x) × (x ≤ top) → (x ≡ 0) ⊎ (top < x) → ⊥
between-apart x top (a, b) (inl c) = omega arith
between-apart x top (a, b) (inr c) = omega arith
