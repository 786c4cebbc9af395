-- Version 2's record of the words that are written: a mark for each of them, and each result marks its own.
use Prim.Native.Nat.{ℕ, zero, suc, ◌+◌, ◌<◌}
use mathlib.Core.Path.{◌≡◌, refl, ap, ap₂, sym, ◌∙◌, subst}
use mathlib.Core.Bool.{Bool, true, false, ◌&&◌, ◌||◌}
use mathlib.Core.List.{List, [], ◌∷◌}
use native.Mathlib.Omega.{arith}
use native.Mathlib.Numerals.{add-one}
use borrow.Author.Tests.{eqb-true, eqb-false}
use lib.Dec.{eqb}
use lib.ListN.{length, get_or, set, replicate, length-set, length-replicate}
use lib.Seq.{get_or-set_same, get_or-set_other}
use Rattle.ports.specs.Ports.{width}
use Rattle.base.specs.Bytes.{u16}
use Rattle.base.specs.Lists.{every, span}
use Rattle.base.specs.Limits.{word_limit}
use Rattle.bytecode.specs.Ranges.{Range, inside}
use Rattle.bytecode.specs.Code.{addresses, argument_words}
use Rattle.bytecode.proofs.Readable.{inside-inv, is-inside}
use Rattle.runner.specs.Checks.{marked, Records, Extended}
use Rattle.runner.proofs.Walks.{Walk}

-- ---- one word more

pub both_ways : (a b : Bool) → (a ≡ true → b ≡ true) → (b ≡ true → a ≡ true) → a ≡ b
both_ways true b f g = sym (f refl)
both_ways false true f g = g refl
both_ways false false f g = refl

none_inside : (first a : ℕ) → inside (record { first = first; width = 0 }) a ≡ false
none_inside first a =
    both_ways (inside (record { first = first; width = 0 }) a) false
    (λ e. let (l, h) = inside-inv (record { first = first; width = 0 }) a e in absurd (omega arith)) (λ e. let z : ◌≡◌ {A = ℕ} 0 1 = cc in absurd (omega arith))

pub extended_none : (first : ℕ) (marks : List Bool) {n : ℕ} → n ≡ 0 → Extended first n marks marks
extended_none first marks {n} z =
    subst (λ (k : ℕ). Extended first k marks marks) (sym z) (record { size = refl; is = λ a. ap (λ (b : Bool). b || marked marks a) (sym (none_inside first a)) })

pub extended-more : {first n : ℕ} {m₀ m : List Bool} (i : ℕ) → Extended first n m₀ m → i ≡ first + n → i < length m → {k : ℕ} → k ≡ suc n
    → Extended first k m₀ (set m i true)
extended-more {first} {n} {m₀} {m} i h e l {k} ek = record { size = length-set m i true ∙ h.size; is = λ a. pick a (eqb a i) refl }
  where
    old : Range
    old = record { first = first; width = n }

    new : Range
    new = record { first = first; width = k }

    pick : (a : ℕ) (b : Bool) → eqb a i ≡ b → marked (set m i true) a ≡ inside new a || marked m₀ a
    pick a true q =
        let z : a ≡ i = eqb-true a i q in
        let p : marked (set m i true) a ≡ true = ap (marked (set m i true)) z ∙ get_or-set_same m i true false l in
        p ∙ ap (λ (b : Bool). b || marked m₀ a) (sym (is-inside new a (omega arith) (omega arith)))
    pick a false q =
        let d = eqb-false a i q in
        get_or-set_other m i a true false d
        ∙ h.is a
        ∙ ap (λ (b : Bool). b || marked m₀ a)
        (both_ways (inside old a) (inside new a)
        (λ x. let (p, u) = inside-inv old a x in is-inside new a p (omega arith))
        (λ x. let (p, u) = inside-inv new a x in is-inside old a p (omega (arith, d))))

-- ---- the record

blank : (n a : ℕ) → get_or (replicate n false) a false ≡ false
blank zero a = refl
blank (suc n) zero = refl
blank (suc n) (suc a) = blank n a

-- the arguments, on a record of no word
pub records-first : {n : ℕ} {marks : List Bool} → Extended 0 n (replicate word_limit false) marks → Records (argument_words n) marks
records-first {n} h =
    record {
      size = h.size ∙ length-replicate word_limit false;
      is = λ a. h.is a ∙ ap (λ (b : Bool). inside (record { first = 0; width = n }) a || b) (blank word_limit a);
    }

pub records-next : {written : List Range} {marks after : List Bool} {first n : ℕ} → Records written marks → Extended first n marks after
    → Records (record { first = first; width = n } ∷ written) after
records-next {first = first} {n = n} r h =
    record { size = h.size ∙ r.size; is = λ a. h.is a ∙ ap (λ (b : Bool). inside (record { first = first; width = n }) a || b) (r.is a) }

-- ---- tests of several words

pub every-same : (f g : ℕ → Bool) → ((a : ℕ) → f a ≡ g a) → (xs : List ℕ) → every f xs ≡ every g xs
every-same f g h [] = refl
every-same f g h (x ∷ xs) = ap₂ (λ (a b : Bool). a && b) (h x) (every-same f g h xs)

and-true : (b : Bool) → b && true ≡ b
and-true true = refl
and-true false = refl

module _ (test : ℕ → Bool) where
  -- a scalar
  pub one_word : (a t : ℕ) → t ≡ 1 → {r : Bool} → r ≡ test a → r ≡ every test (span a (width t))
  one_word a t e q = rw e (q ∙ sym (and-true (test a)))

  pub words-walk : Walk (λ n at. every test (span at n)) test 1
  words-walk = record { none = λ at. refl; more = λ n at. ap (λ (a : ℕ). test at && every test (span a n)) (sym (add-one at)) }

  pub marked-walk : (s : List ℕ) → Walk (λ n at. every test (addresses n s at)) (λ at. test (u16 s at)) 2
  marked-walk s = record { none = λ at. refl; more = λ n at. refl }
