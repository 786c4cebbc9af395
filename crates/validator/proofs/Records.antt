-- What the record says of a word, the word of version 1 that it holds, tells its origin: so the record's tests are the tests of origins.
use Prim.Native.Nat.{ℕ, zero, suc, ◌+◌, ◌≤◌, ◌<◌}
use mathlib.Core.Path.{◌≡◌, refl, ap, ap₂, sym, ◌∙◌}
use mathlib.Core.Bool.{Bool, true, false, ◌&&◌}
use mathlib.Core.List.{List, [], ◌∷◌, map, map-append}
use mathlib.Core.Logic.{◌⊎◌, inl, inr}
use native.Mathlib.Omega.{arith}
use lib.Dec.{eqb}
use lib.ListN.{length}
use borrow.Author.Tests.{eqb-true, eqb-false, ne_eqb}
use Rattle.ports.specs.Ports.{width}
use Rattle.base.specs.Limits.{word_limit}
use Rattle.base.specs.Lists.{span, Each}
use Rattle.base.proofs.Bools.{never}
use Rattle.base.proofs.Lists.{made-length}
use Rattle.bytecode.specs.Run.{BoardList, spans}
use Rattle.bytecode.specs.Sequential.{Below, AllFit}
use Rattle.bytecode.specs.Origin.{Origin, unwritten, argument, result, Known, origin_at}
use Rattle.validator.specs.Judge.{same_origin, alike}
use Rattle.validator.specs.Tests.{no_word, held_at, held_words, held_operands}
use Rattle.validator.proofs.Sameness.{same-is, is_same, alike-append}
use Rattle.validator.proofs.OneToOne.{own, own-one, own-known}

not_known : (x : Origin) → Known x → same_origin unwritten x ≡ false
not_known unwritten h = absurd h
not_known (argument i) h = refl
not_known (result k j) h = refl

module _ (b : BoardList) (f : AllFit b.arguments b.instructions b.words) (few : b.words ≤ word_limit) where
  -- a word of this origin holds version 1's word w, or nothing yet
  abbrev pub Holds : Origin → ℕ → Type 0
  Holds x w = ((x ≡ unwritten) × (w ≡ no_word)) ⊎ ((w < b.words) × (x ≡ own b f w))

  pub held_same : (x : Origin) (w v : ℕ) → Holds x w → v < b.words → eqb w v ≡ same_origin x (own b f v)
  held_same x w v (inl (e, n)) l =
      let d : w ≡ v → ⊥ = λ q. omega arith in
      ne_eqb w v d ∙ sym (ap (λ (y : Origin). same_origin y (own b f v)) e ∙ not_known (own b f v) (own-known b f v l))
  held_same x w v (inr (m, e)) l = pick (eqb w v) refl (same_origin x (own b f v)) refl
    where
      pick : (p : Bool) → eqb w v ≡ p → (q : Bool) → same_origin x (own b f v) ≡ q → p ≡ q
      pick true p true q = refl
      pick false p false q = refl
      pick true p false q = never (sym q ∙ ap (λ (y : Origin). same_origin y (own b f v)) (e ∙ ap (own b f) (eqb-true w v p)) ∙ is_same (own b f v))
      pick false p true q = absurd (eqb-false w v p (own-one b f w v m l (sym e ∙ same-is x (own b f v) q)))

  -- the record of all words of a list
  abbrev pub Traced : List Origin → List ℕ → Type 0
  Traced o words = (a : ℕ) → a < length o → Holds (origin_at o a) (held_at words a)

  module _ (o : List Origin) (words : List ℕ) (t : Traced o words) where
    pub held-span : (n a w : ℕ) → a + n ≤ length o → w + n ≤ b.words → held_words words a w n ≡ alike same_origin (map (origin_at o) (span a n)) (map (own b f) (span w n))
    held-span zero a w l m = refl
    held-span (suc n) a w l m =
        ap₂ (λ (p q : Bool). p && q) (held_same (origin_at o a) (held_at words a) w (t a (omega arith)) (omega arith)) (held-span n (suc a) (suc w) (omega arith) (omega arith))

    pub held-operands : (ts xs ys : List ℕ) → Below b.words ts xs → Below (length o) ts ys
        → held_operands words ts xs ys ≡ alike same_origin (map (origin_at o) (spans ts ys)) (map (own b f) (spans ts xs))
    held-operands [] [] [] p q = refl
    held-operands [] [] (y ∷ ys) p q = absurd q
    held-operands [] (x ∷ xs) ys p q = absurd p
    held-operands (t ∷ ts) [] ys p q = absurd p
    held-operands (t ∷ ts) (x ∷ xs) [] p q = absurd q
    held-operands (t ∷ ts) (x ∷ xs) (y ∷ ys) (l, p) (m, q) =
        let n = width t in
        let us = map (origin_at o) (span y n) in
        let vs = map (own b f) (span x n) in
        let us' = map (origin_at o) (spans ts ys) in
        let vs' = map (own b f) (spans ts xs) in
        let size : length us ≡ length vs = made-length Origin (origin_at o) n y ∙ sym (made-length Origin (own b f) n x) in
        ap₂ (λ (p q : Bool). p && q) (held-span n y x m l) (held-operands ts xs ys p q)
        ∙ sym (alike-append same_origin us vs us' vs' size)
        ∙ ap₂ (alike same_origin) (sym (map-append (origin_at o) (span y n) (spans ts ys))) (sym (map-append (own b f) (span x n) (spans ts xs)))

    -- output words
    pub held-outputs : (xs ys : List ℕ) → Each (λ x. x < b.words) xs → Each (λ y. y < length o) ys
        → alike eqb (map (held_at words) ys) xs ≡ alike same_origin (map (origin_at o) ys) (map (own b f) xs)
    held-outputs [] [] p q = refl
    held-outputs [] (y ∷ ys) p q = refl
    held-outputs (x ∷ xs) [] p q = refl
    held-outputs (x ∷ xs) (y ∷ ys) (l, p) (m, q) =
        ap₂ (λ (p q : Bool). p && q) (held_same (origin_at o y) (held_at words y) x (t y m) l) (held-outputs xs ys p q)
