-- What every kind has, by one computed test over the list of kinds; and what the last arm of a `match` on numbers knows.
use Prim.Native.Nat.{ℕ, zero, suc, ◌<◌}
use mathlib.Core.Path.{◌≡◌, refl, ap, sym, ◌∙◌}
use mathlib.Core.Bool.{Bool, true, false, ◌&&◌, ◌||◌}
use mathlib.Core.List.{List, [], ◌∷◌}
use mathlib.Core.Logic.{⊎_elim}
use native.Mathlib.Omega.{arith}
use borrow.Author.Tests.{eqb-true, eqb-false, ltb-true}
use lib.Dec.{eqb, ltb}
use Rattle.base.specs.Limits.{kind_limit}
use Rattle.base.proofs.Bools.{and-inv, or-inv}
use Rattle.ports.specs.Kinds.{Kind, unknown, addition, subtraction, multiplication, division, constant, constvec, constmat, composevector, vectorfromscalar, decomposevector, composematrix, matrixfromcolumns, matrixfromrows, dot, cross, matvecmultiplication, transpose, min, max, abs, fmod, select, clamp, call, kind_of}

-- a test that all numbers below n pass
abbrev pub upto : (ℕ → Bool) → ℕ → Bool
upto f zero = true
upto f (suc n) = upto f n && f n

pub upto-at : (f : ℕ → Bool) (n : ℕ) → upto f n ≡ true → (k : ℕ) → k < n → f k ≡ true
upto-at f zero e k h = absurd (omega arith)
upto-at f (suc n) e k h = pick (λ l. upto-at f n (and-inv (upto f n) (f n) e).0 k l) (eqb k n) refl
  where
    pick : (k < n → f k ≡ true) → (b : Bool) → eqb k n ≡ b → f k ≡ true
    pick go true q = ap f (eqb-true k n q) ∙ (and-inv (upto f n) (f n) e).1
    pick go false q = let d : k ≡ n → ⊥ = eqb-false k n q in go (omega arith)

-- each kind stands in the list: the one place that goes kind by kind
numbered : (k : Kind) → (n : ℕ) × (ltb n kind_limit ≡ true) × (kind_of n ≡ k)
numbered unknown = (0, refl, refl)
numbered addition = (1, refl, refl)
numbered subtraction = (2, refl, refl)
numbered multiplication = (3, refl, refl)
numbered division = (4, refl, refl)
numbered constant = (5, refl, refl)
numbered constvec = (6, refl, refl)
numbered constmat = (7, refl, refl)
numbered composevector = (8, refl, refl)
numbered vectorfromscalar = (9, refl, refl)
numbered decomposevector = (10, refl, refl)
numbered composematrix = (11, refl, refl)
numbered matrixfromcolumns = (12, refl, refl)
numbered matrixfromrows = (13, refl, refl)
numbered dot = (14, refl, refl)
numbered cross = (15, refl, refl)
numbered matvecmultiplication = (16, refl, refl)
numbered transpose = (17, refl, refl)
numbered min = (18, refl, refl)
numbered max = (19, refl, refl)
numbered abs = (20, refl, refl)
numbered fmod = (21, refl, refl)
numbered select = (22, refl, refl)
numbered clamp = (23, refl, refl)
numbered call = (24, refl, refl)

-- a test of all kinds, computed
abbrev pub all_kinds : (Kind → Bool) → Bool
all_kinds f = upto (λ n. f (kind_of n)) kind_limit

pub every-kind : (f : Kind → Bool) → all_kinds f ≡ true → (k : Kind) → f k ≡ true
every-kind f e k =
    let (n, l, q) = numbered k in
    ap f (sym q) ∙ upto-at (λ (n : ℕ). f (kind_of n)) kind_limit e n (ltb-true n kind_limit l)

-- ---- the last arm

-- what the last arm of a `match` knows of its number, the other arms' numbers from the last to the first
abbrev pub NoneOf : List ℕ → ℕ → Type 0
NoneOf [] k = Unit {0}
NoneOf (x ∷ xs) k = NoneOf xs k × (k ≡ x → ⊥)

abbrev pub any_of : List ℕ → ℕ → Bool
any_of [] k = false
any_of (x ∷ xs) k = eqb k x || any_of xs k

pub none_of : (xs : List ℕ) (k : ℕ) → any_of xs k ≡ true → NoneOf xs k → ⊥
none_of [] k e r = let z : ◌≡◌ {A = ℕ} 0 1 = cc in omega arith
none_of (x ∷ xs) k e r = ⊎_elim (λ a. r.1 (eqb-true k x a)) (λ b. none_of xs k b r.0) (or-inv (eqb k x) (any_of xs k) e)

pub last_of : (y : ℕ) (xs : List ℕ) (k : ℕ) → any_of (y ∷ xs) k ≡ true → NoneOf xs k → k ≡ y
last_of y xs k e r = ⊎_elim (λ a. eqb-true k y a) (λ b. absurd (none_of xs k b r)) (or-inv (eqb k y) (any_of xs k) e)

-- the numbers from n down to 1
abbrev pub down_from : ℕ → List ℕ
down_from zero = []
down_from (suc n) = suc n ∷ down_from n
