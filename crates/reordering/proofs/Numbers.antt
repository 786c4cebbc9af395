-- Numbers below n, none of which stands twice, are at most n; where all of them stand there, they are at least n.
use Prim.Native.Nat.{ℕ, zero, suc, ◌≤◌, ◌<◌}
use mathlib.Core.Path.{◌≡◌, refl, sym, ◌∙◌, subst}
use mathlib.Core.Bool.{Bool, true, false, cond}
use mathlib.Core.List.{List, [], ◌∷◌}
use mathlib.Core.Logic.{inl, inr}
use native.Mathlib.Omega.{arith}
use lib.Dec.{eqb}
use lib.ListN.{length}
use borrow.Author.Tests.{eqb-true, eqb-false}
use Rattle.base.specs.Lists.{Each, Is, member, Distinct}
use Rattle.base.proofs.Bools.{never}

-- the first n left out
abbrev without : ℕ → List ℕ → List ℕ
without n [] = []
without n (x ∷ xs) = cond (eqb x n) xs (x ∷ without n xs)

without-length : (n : ℕ) (xs : List ℕ) → length xs ≤ suc (length (without n xs))
without-length n [] = omega arith
without-length n (x ∷ xs) = pick (eqb x n) (without-length n xs)
  where
    pick : (b : Bool) → length xs ≤ suc (length (without n xs)) → length (x ∷ xs) ≤ suc (length (cond b xs (x ∷ without n xs)))
    pick true h = omega arith
    pick false h = omega arith

not_first : (v x : ℕ) (xs : List ℕ) → member v (x ∷ xs) ≡ false → (eqb x v ≡ false) × (member v xs ≡ false)
not_first v x xs e = pick (eqb x v) refl e
  where
    pick : (b : Bool) → eqb x v ≡ b → cond b true (member v xs) ≡ false → (eqb x v ≡ false) × (member v xs ≡ false)
    pick true p q = let z : true ≡ false = q in never (let w : false ≡ true = cc in w)
    pick false p q = (p, q)

member-without : (v n : ℕ) (xs : List ℕ) → member v xs ≡ false → member v (without n xs) ≡ false
member-without v n [] e = refl
member-without v n (x ∷ xs) e = let (p, q) = not_first v x xs e in pick (eqb x n) p q (member-without v n xs q)
  where
    pick : (b : Bool) → eqb x v ≡ false → member v xs ≡ false → member v (without n xs) ≡ false → member v (cond b xs (x ∷ without n xs)) ≡ false
    pick true p q h = q
    pick false p q h = rw p h

without-distinct : (n : ℕ) (xs : List ℕ) → Distinct xs → Distinct (without n xs)
without-distinct n [] d = tt
without-distinct n (x ∷ xs) (e, d) = pick (eqb x n) (without-distinct n xs d)
  where
    pick : (b : Bool) → Distinct (without n xs) → Distinct (cond b xs (x ∷ without n xs))
    pick true h = d
    pick false h = (member-without x n xs e, h)

below-others : (n : ℕ) (xs : List ℕ) → Each (λ k. k < suc n) xs → member n xs ≡ false → Each (λ k. k < n) xs
below-others n [] l e = tt
below-others n (x ∷ xs) (h, l) e =
    let (p, q) = not_first n x xs e in
    let ne : x ≡ n → ⊥ = eqb-false x n p in
    (omega arith, below-others n xs l q)

without-below : (n : ℕ) (xs : List ℕ) → Each (λ k. k < suc n) xs → Distinct xs → Each (λ k. k < n) (without n xs)
without-below n [] l d = tt
without-below n (x ∷ xs) (h, l) (e, d) = pick (eqb x n) refl (without-below n xs l d)
  where
    pick : (b : Bool) → eqb x n ≡ b → Each (λ k. k < n) (without n xs) → Each (λ k. k < n) (cond b xs (x ∷ without n xs))
    pick true s r = below-others n xs l (subst (λ (v : ℕ). member v xs ≡ false) (eqb-true x n s) e)
    pick false s r = let ne : x ≡ n → ⊥ = eqb-false x n s in (omega arith, r)

pub few : (n : ℕ) (xs : List ℕ) → Each (λ k. k < n) xs → Distinct xs → length xs ≤ n
few zero [] l d = omega arith
few zero (x ∷ xs) (h, l) d = absurd (omega arith)
few (suc n) xs l d =
    let h = few n (without n xs) (without-below n xs l d) (without-distinct n xs d) in
    let s = without-length n xs in
    omega arith

without-less : (n : ℕ) (xs : List ℕ) → Is n xs → suc (length (without n xs)) ≤ length xs
without-less n [] i = absurd i
without-less n (x ∷ xs) i = pick (eqb x n) refl i (without-less n xs)
  where
    pick : (b : Bool) → eqb x n ≡ b → Is n (x ∷ xs) → (Is n xs → suc (length (without n xs)) ≤ length xs)
        → suc (length (cond b xs (x ∷ without n xs))) ≤ length (x ∷ xs)
    pick true s i h = omega arith
    pick false s (inl e) h = absurd (eqb-false x n s (sym e))
    pick false s (inr i) h = let l = h i in omega arith

without_other : (k n : ℕ) (xs : List ℕ) → (k ≡ n → ⊥) → Is k xs → Is k (without n xs)
without_other k n [] d i = absurd i
without_other k n (x ∷ xs) d i = pick (eqb x n) refl i (without_other k n xs d)
  where
    pick : (b : Bool) → eqb x n ≡ b → Is k (x ∷ xs) → (Is k xs → Is k (without n xs)) → Is k (cond b xs (x ∷ without n xs))
    pick true s (inl e) h = absurd (d (e ∙ eqb-true x n s))
    pick true s (inr i) h = i
    pick false s (inl e) h = inl e
    pick false s (inr i) h = inr (h i)

pub many : (n : ℕ) (xs : List ℕ) → ((k : ℕ) → k < n → Is k xs) → n ≤ length xs
many zero xs h = omega arith
many (suc n) xs h =
    let m = many n (without n xs) (λ k l. without_other k n xs (λ e. omega arith) (h k (omega arith))) in
    let s = without-less n xs (h n (omega arith)) in
    omega arith
