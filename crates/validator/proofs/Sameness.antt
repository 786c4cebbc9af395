-- The tests of sameness decide equality, and tests of lists may be taken part by part.
use mathlib.Core.Path.{◌≡◌, refl, ap, ap₂, subst}
use mathlib.Core.Bool.{Bool, true, false, ◌&&◌}
use mathlib.Core.List.{List, [], ◌∷◌, ◌++◌}
use native.Mathlib.Omega.{arith}
use lib.Dec.{eqb}
use lib.ListN.{length}
use borrow.Author.Tests.{eqb-true, eq-eqb}
use Rattle.base.proofs.Bools.{never, and-inv, and_both}
use Rattle.bytecode.specs.Origin.{Origin, unwritten, argument, result}
use Rattle.validator.specs.Judge.{same_origin, alike}

pub same-is : (x y : Origin) → same_origin x y ≡ true → x ≡ y
same-is unwritten unwritten e = refl
same-is unwritten (argument j) e = never e
same-is unwritten (result m j) e = never e
same-is (argument i) unwritten e = never e
same-is (argument i) (argument j) e = ap argument (eqb-true i j e)
same-is (argument i) (result m j) e = never e
same-is (result k i) unwritten e = never e
same-is (result k i) (argument j) e = never e
same-is (result k i) (result m j) e = let (p, q) = and-inv (eqb k m) (eqb i j) e in ap₂ result (eqb-true k m p) (eqb-true i j q)

pub is_same : (x : Origin) → same_origin x x ≡ true
is_same unwritten = refl
is_same (argument i) = eq-eqb i i refl
is_same (result k i) = and_both _ _ (eq-eqb k k refl) (eq-eqb i i refl)

module _ {A : Type 0} (same : A → A → Bool) where
  pub alike_is : ((x y : A) → same x y ≡ true → x ≡ y) → (xs ys : List A) → alike same xs ys ≡ true → xs ≡ ys
  alike_is h [] [] e = refl
  alike_is h [] (y ∷ ys) e = never e
  alike_is h (x ∷ xs) [] e = never e
  alike_is h (x ∷ xs) (y ∷ ys) e =
      let (p, q) = and-inv (same x y) (alike same xs ys) e in
      ap₂ (λ (u : A) (us : List A). u ∷ us) (h x y p) (alike_is h xs ys q)

  pub is-alike : ((x : A) → same x x ≡ true) → (xs ys : List A) → xs ≡ ys → alike same xs ys ≡ true
  is-alike h xs ys e = subst (λ (zs : List A). alike same xs zs ≡ true) e (own xs)
    where
      own : (xs : List A) → alike same xs xs ≡ true
      own [] = refl
      own (x ∷ xs) = and_both _ _ (h x) (own xs)

  pub alike-append : (us vs us' vs' : List A) → length us ≡ length vs → alike same (us ++ us') (vs ++ vs') ≡ alike same us vs && alike same us' vs'
  alike-append [] [] us' vs' l = refl
  alike-append [] (v ∷ vs) us' vs' l = absurd (omega arith)
  alike-append (u ∷ us) [] us' vs' l = absurd (omega arith)
  alike-append (u ∷ us) (v ∷ vs) us' vs' l = by (same u v) (alike-append us vs us' vs' (omega arith))
    where
      by : (b : Bool) → alike same (us ++ us') (vs ++ vs') ≡ alike same us vs && alike same us' vs'
          → b && alike same (us ++ us') (vs ++ vs') ≡ b && alike same us vs && alike same us' vs'
      by true e = e
      by false e = refl
