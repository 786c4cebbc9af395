-- Ranges of words; lists by what some element, each or those kept pass; live values; runs of stores.
use Prim.Native.Nat.{ℕ, zero, suc, ◌+◌, ◌-◌, ◌≤◌, ◌<◌}
use mathlib.Core.Path.{◌≡◌, refl, ap, sym, ◌∙◌}
use mathlib.Core.Bool.{Bool, true, false, ◌&&◌, ◌||◌, cond}
use mathlib.Core.List.{List, [], ◌∷◌, ◌++◌}
use mathlib.Core.Logic.{◌⊎◌, inl, inr, ⊎_elim}
use native.Mathlib.Omega.{arith}
use lib.Dec.{leb, ltb}
use lib.ListN.{length, get_or, replicate, length-replicate, get_or-replicate}
use lib.Seq.{sets}
use borrow.Author.Tests.{leb-true, ltb-true, ltb-false, le-leb, lt-leb, le-ltb}
use Rattle.base.specs.Lists.{span, Each, Is}
use Rattle.base.proofs.Bools.{never, or-inv, or_left, or_right, and-false}
use Rattle.base.proofs.Stores.{stored-below, stored-above, stored-in}
use Rattle.bytecode.specs.Run.{Instruction}
use Rattle.bytecode.specs.Ranges.{any, Range, end, inside}
use Rattle.bytecode.proofs.Readable.{inside-inv, is-inside}
use Rattle.placement.specs.Live.{keep, read_by, live}
use Rattle.placement.specs.Place.{apart}

-- ---- words of a range

pub inside-not : (r : Range) (a : ℕ) → (a < r.first) ⊎ (end r ≤ a) → inside r a ≡ false
inside-not r a (inl p) = rw (lt-leb r.first a p) refl
inside-not r a (inr p) = ap (λ (y : Bool). leb r.first a && y) (le-ltb a (end r) p) ∙ and-false (leb r.first a)

pub apart-inv : (r s : Range) → apart r s ≡ true → (end r ≤ s.first) ⊎ (end s ≤ r.first)
apart-inv r s e = ⊎_elim (λ p. inl (leb-true _ _ p)) (λ q. inr (leb-true _ _ q)) (or-inv (leb (end r) s.first) (leb (end s) r.first) e)

pub apart-is : (r s : Range) → (end r ≤ s.first) ⊎ (end s ≤ r.first) → apart r s ≡ true
apart-is r s (inl p) = or_left _ _ (le-leb _ _ p)
apart-is r s (inr p) = or_right (leb (end r) s.first) _ (le-leb _ _ p)

-- a word of the one is none of the other
pub apart-outside : (r s : Range) (a : ℕ) → apart r s ≡ true → inside r a ≡ true → inside s a ≡ false
apart-outside r s a e h = pick (apart-inv r s e) (inside-inv r a h)
  where
    pick : (end r ≤ s.first) ⊎ (end s ≤ r.first) → (r.first ≤ a) × (a < end r) → inside s a ≡ false
    pick (inl p) (x, y) = inside-not s a (inl (omega arith))
    pick (inr p) (x, y) = inside-not s a (inr (omega arith))

-- ---- some, and those kept

module _ {A : Type 0} where
  pub any-is : (p : A → Bool) (xs : List A) (x : A) → Is x xs → p x ≡ true → any p xs ≡ true
  any-is p [] x i e = absurd i
  any-is p (y ∷ ys) x (inl q) e = or_left _ _ (ap p (sym q) ∙ e)
  any-is p (y ∷ ys) x (inr i) e = or_right (p y) _ (any-is p ys x i e)

  pub any_none : (p : A → Bool) (xs : List A) → Each (λ x. p x ≡ false) xs → any p xs ≡ false
  any_none p [] h = refl
  any_none p (x ∷ xs) (e, h) = rw e (any_none p xs h)

  pub each_keep : (P : A → Type 0) (q : A → Bool) (xs : List A) → Each P xs → Each P (keep q xs)
  each_keep P q [] h = tt
  each_keep P q (x ∷ xs) (p, h) = pick (q x) (each_keep P q xs h)
    where
      pick : (b : Bool) → Each P (keep q xs) → Each P (cond b (x ∷ keep q xs) (keep q xs))
      pick true r = (p, r)
      pick false r = r

  -- a stronger test keeps fewer
  module _ (q r : A → Bool) (h : (x : A) → q x ≡ true → r x ≡ true) where
    pub each_fewer : (P : A → Type 0) (xs : List A) → Each P (keep r xs) → Each P (keep q xs)
    each_fewer P [] e = tt
    each_fewer P (x ∷ xs) e = pick (q x) (r x) refl refl e (λ f. each_fewer P xs f)
      where
        pick : (b c : Bool) → q x ≡ b → r x ≡ c → Each P (cond c (x ∷ keep r xs) (keep r xs)) → (Each P (keep r xs) → Each P (keep q xs))
            → Each P (cond b (x ∷ keep q xs) (keep q xs))
        pick true true s t (p, f) g = (p, g f)
        pick true false s t f g = never (sym t ∙ h x s)
        pick false true s t (p, f) g = g f
        pick false false s t f g = g f

    pub keep-twice : (xs : List A) → keep q (keep r xs) ≡ keep q xs
    keep-twice [] = refl
    keep-twice (x ∷ xs) = pick (q x) (r x) refl refl (keep-twice xs)
      where
        pick : (b c : Bool) → q x ≡ b → r x ≡ c → keep q (keep r xs) ≡ keep q xs → keep q (cond c (x ∷ keep r xs) (keep r xs)) ≡ cond b (x ∷ keep q xs) (keep q xs)
        pick true true s t e = rw s (ap (λ (ys : List A). x ∷ ys) e)
        pick true false s t e = never (sym t ∙ h x s)
        pick false true s t e = rw s e
        pick false false s t e = e

  pub is-keep : (q : A → Bool) (xs : List A) (x : A) → Is x xs → q x ≡ true → Is x (keep q xs)
  is-keep q [] x i e = absurd i
  is-keep q (y ∷ ys) x i e = pick (q y) refl i (λ j. is-keep q ys x j e)
    where
      pick : (b : Bool) → q y ≡ b → (x ≡ y) ⊎ Is x ys → (Is x ys → Is x (keep q ys)) → Is x (cond b (y ∷ keep q ys) (keep q ys))
      pick true s (inl p) g = inl p
      pick true s (inr j) g = inr (g j)
      pick false s (inl p) g = never (sym s ∙ ap q (sym p) ∙ e)
      pick false s (inr j) g = g j

pub any_append : (t : ℕ → Bool) (xs ys : List ℕ) → any t (xs ++ ys) ≡ any t xs || any t ys
any_append t [] ys = refl
any_append t (x ∷ xs) ys = ap (λ (z : Bool). t x || z) (any_append t xs ys) ∙ regroup (t x) (any t xs) (any t ys)
  where
    regroup : (x y z : Bool) → x || (y || z) ≡ (x || y) || z
    regroup true y z = refl
    regroup false y z = refl

pub any-append-left : (t : ℕ → Bool) (xs ys : List ℕ) → any t xs ≡ true → any t (xs ++ ys) ≡ true
any-append-left t xs ys e = any_append t xs ys ∙ or_left (any t xs) (any t ys) e

pub any-append-right : (t : ℕ → Bool) (xs ys : List ℕ) → any t ys ≡ true → any t (xs ++ ys) ≡ true
any-append-right t xs ys e = any_append t xs ys ∙ or_right (any t xs) (any t ys) e

-- the first word of an operand is read
pub any-span : (t : ℕ → Bool) (n a : ℕ) → 1 ≤ n → t a ≡ true → any t (span a n) ≡ true
any-span t zero a l e = absurd (omega arith)
any-span t (suc n) a l e = or_left _ _ e

-- ---- held now, and held before

pub live-before : (i : Instruction) (is : List Instruction) (outputs : List ℕ) (r : Range) → live is outputs r ≡ true → live (i ∷ is) outputs r ≡ true
live-before i is outputs r e =
    ⊎_elim (λ p. or_left _ _ (or_right (read_by r i) _ p)) (λ q. or_right (read_by r i || any (read_by r) is) _ q)
    (or-inv (any (read_by r) is) (any (inside r) outputs) e)

pub live-read : (i : Instruction) (is : List Instruction) (outputs : List ℕ) (r : Range) → read_by r i ≡ true → live (i ∷ is) outputs r ≡ true
live-read i is outputs r e = or_left _ _ (or_left _ _ e)

-- what an instruction does not read stays held behind it
pub live-unread : (i : Instruction) (is : List Instruction) (outputs : List ℕ) (r : Range) → read_by r i ≡ false → live (i ∷ is) outputs r ≡ live is outputs r
live-unread i is outputs r e = rw e refl

pub live-output : (is : List Instruction) (outputs : List ℕ) (r : Range) → any (inside r) outputs ≡ true → live is outputs r ≡ true
live-output is outputs r e = or_right (any (read_by r) is) _ e

-- ---- one store of many

module _ {A : Type 0} (d : A) where
  pub stored-outside : (ws m : List A) (at i : ℕ) → (i < at) ⊎ (at + length ws ≤ i) → get_or (sets m at ws) i d ≡ get_or m i d
  stored-outside ws m at i (inl h) = stored-below d ws m at i h
  stored-outside ws m at i (inr h) = stored-above d ws m at i h

  -- a run of one mark
  pub stored-run : (m : List A) (r : Range) (b : A) (i : ℕ) → end r ≤ length m
      → get_or (sets m r.first (replicate r.width b)) i d ≡ cond (inside r i) b (get_or m i d)
  stored-run m r b i h = pick (ltb i r.first) (ltb i (end r)) refl refl
    where
      size : length (replicate r.width b) ≡ r.width
      size = length-replicate r.width b

      out : (i < r.first) ⊎ (end r ≤ i) → (i < r.first) ⊎ (r.first + length (replicate r.width b) ≤ i)
      out (inl x) = inl x
      out (inr x) = inr (omega (arith, size))

      outside : (i < r.first) ⊎ (end r ≤ i) → get_or (sets m r.first (replicate r.width b)) i d ≡ cond (inside r i) b (get_or m i d)
      outside o = stored-outside (replicate r.width b) m r.first i (out o) ∙ ap (λ (x : Bool). cond x b (get_or m i d)) (sym (inside-not r i o))

      within : (j : ℕ) → i ≡ r.first + j → j < r.width → get_or (sets m r.first (replicate r.width b)) i d ≡ cond (inside r i) b (get_or m i d)
      within j e l =
          ap (λ (x : ℕ). get_or (sets m r.first (replicate r.width b)) x d) e
          ∙ stored-in d (replicate r.width b) m r.first j (omega (arith, size)) (omega (arith, size))
          ∙ get_or-replicate r.width j b d l
          ∙ ap (λ (x : Bool). cond x b (get_or m i d)) (sym (is-inside r i (omega arith) (omega arith)))

      pick : (x y : Bool) → ltb i r.first ≡ x → ltb i (end r) ≡ y → get_or (sets m r.first (replicate r.width b)) i d ≡ cond (inside r i) b (get_or m i d)
      pick true y p q = outside (inl (ltb-true _ _ p))
      pick false true p q =
          let ge : r.first ≤ i = ltb-false _ _ p in
          let lt : i < end r = ltb-true _ _ q in
          within (i - r.first) (omega arith) (omega arith)
      pick false false p q = outside (inr (ltb-false _ _ q))

-- a record that nothing was stored in
pub all-zero : (a n : ℕ) → ◌≡◌ {A = ℕ} (get_or (replicate n 0) a 0) 0
all-zero a zero = refl
all-zero zero (suc n) = refl
all-zero (suc a) (suc n) = all-zero a n
