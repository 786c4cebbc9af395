-- The words of held values, and the lowest gap told from a record of them.
use Prim.Native.Nat.{ℕ, ◌+◌, ◌-◌, ◌≤◌, ◌<◌, max}
use mathlib.Core.Path.{◌≡◌, refl, ap, sym, ◌∙◌}
use mathlib.Core.Bool.{Bool, true, false, ◌||◌, cond}
use mathlib.Core.List.{List, [], ◌∷◌, ◌++◌}
use mathlib.Core.Logic.{inl, inr}
use native.Mathlib.Omega.{arith}
use lib.Dec.{leb, ltb}
use lib.ListN.{get_or}
use borrow.Author.Tests.{ltb-true, ltb-false, lt-ltb, le-ltb, leb-false}
use Rattle.base.specs.Lists.{Each, Is}
use Rattle.base.proofs.Bools.{never, and_both}
use Rattle.base.proofs.Lists.{each_on}
use Rattle.bytecode.specs.Ranges.{Range, end, inside}
use Rattle.bytecode.proofs.Readable.{is-inside}
use Rattle.placement.specs.Live.{keep}
use Rattle.placement.specs.Place.{Placed, words, top, apart, is_gap, gap}
use Rattle.placement.specs.Record.{Lowest, covered}
use Rattle.placement.proofs.Ranges.{inside-not, apart-outside, any_none}
use Rattle.placement.proofs.Gaps.{Free, gap-each, gap_is}

-- ---- words of kept values

pub covered-above : (q : Placed → Bool) (ps : List Placed) (a : ℕ) → top ps ≤ a → covered (keep q ps) a ≡ false
covered-above q [] a l = refl
covered-above q (p ∷ ps) a l = pick (q p) (covered-above q ps a (omega arith))
  where
    pick : (b : Bool) → covered (keep q ps) a ≡ false → covered (cond b (p ∷ keep q ps) (keep q ps)) a ≡ false
    pick true h = rw (inside-not (words p) a (inr (omega arith))) h
    pick false h = h

-- at the end or in front
pub covered-snoc : (q : Placed → Bool) (p : Placed) (ps : List Placed) (a : ℕ) → covered (keep q (ps ++ p ∷ [])) a ≡ covered (keep q (p ∷ ps)) a
covered-snoc q p [] a = refl
covered-snoc q p (o ∷ ps) a = pick (q o) (q p) (covered-snoc q p ps a)
  where
    swap : (x y z : Bool) → x || (y || z) ≡ y || (x || z)
    swap true true z = refl
    swap true false z = refl
    swap false true z = refl
    swap false false z = refl

    pick :
        (b c : Bool) → covered (keep q (ps ++ p ∷ [])) a ≡ covered (cond c (p ∷ keep q ps) (keep q ps)) a
        → covered (cond b (o ∷ keep q (ps ++ p ∷ [])) (keep q (ps ++ p ∷ []))) a
        ≡ covered (cond c (p ∷ cond b (o ∷ keep q ps) (keep q ps)) (cond b (o ∷ keep q ps) (keep q ps))) a
    pick true true h = ap (λ (x : Bool). inside (words o) a || x) h ∙ swap (inside (words o) a) (inside (words p) a) (covered (keep q ps) a)
    pick true false h = ap (λ (x : Bool). inside (words o) a || x) h
    pick false c h = h

pub top-snoc : (p : Placed) (ps : List Placed) → top (ps ++ p ∷ []) ≡ max (end (words p)) (top ps)
top-snoc p [] = refl
top-snoc p (o ∷ ps) = let h = top-snoc p ps in omega arith

pub is-snoc : (x p : Placed) (ps : List Placed) → Is x (p ∷ ps) → Is x (ps ++ p ∷ [])
is-snoc x p [] i = i
is-snoc x p (o ∷ ps) (inl e) = inr (is-snoc x p ps (inl e))
is-snoc x p (o ∷ ps) (inr (inl e)) = inl e
is-snoc x p (o ∷ ps) (inr (inr i)) = inr (is-snoc x p ps (inr i))

pub each_snoc : (P : Placed → Type 0) (p : Placed) (ps : List Placed) → Each P (p ∷ ps) → Each P (ps ++ p ∷ [])
each_snoc P p [] h = h
each_snoc P p (o ∷ ps) (x, (y, h)) = (y, each_snoc P p ps (x, h))

-- ---- the lowest gap

-- the words of a gap belong to none
gap-uncovered : (ps : List Placed) (n at : ℕ) → Free ps n at → (j : ℕ) → j < n → covered ps (at + j) ≡ false
gap-uncovered ps n at f j l =
    let r : Range = record { first = at; width = n } in
    let here : inside r (at + j) ≡ true = is-inside r (at + j) (omega arith) (omega arith) in
    any_none (λ p. inside (words p) (at + j)) ps (each_on (λ p. apart r (words p) ≡ true) _ (λ p e. apart-outside r (words p) (at + j) e here) ps f)

-- words that belong to none are a gap
uncovered-gap : (ps : List Placed) (n at : ℕ) → 1 ≤ n → Each (λ p. 1 ≤ p.value.width) ps → ((j : ℕ) → j < n → covered ps (at + j) ≡ false) → is_gap ps n at ≡ true
uncovered-gap [] n at l w h = refl
uncovered-gap (p ∷ ps) n at l (w, ws) h =
    and_both _ _ (pick (leb (at + n) p.place) (leb (end (words p)) at) refl refl)
    (uncovered-gap ps n at l ws (λ j x. right (inside (words p) (at + j)) (covered ps (at + j)) (h j x)))
  where
    right : (x y : Bool) → x || y ≡ false → y ≡ false
    right true y e = never (sym e)
    right false y e = e

    left : (x y : Bool) → x || y ≡ false → x ≡ false
    left true y e = e
    left false y e = refl

    pick : (x y : Bool) → leb (at + n) p.place ≡ x → leb (end (words p)) at ≡ y → x || y ≡ true
    pick true y e f = refl
    pick false true e f = refl
    pick false false e f =
        let a : p.place < at + n = leb-false (at + n) p.place e in
        let b : at < end (words p) = leb-false (end (words p)) at f in
        let j = max at p.place - at in
        never
        (sym (left (inside (words p) (at + j)) (covered ps (at + j)) (h j (omega arith))) ∙ is-inside (words p) (at + j) (omega arith) (omega arith))

-- the record has just the words of these values, and the words from `high` on are free
pub lowest-is : (k : ℕ) (until : List ℕ) (high n at : ℕ) (ps : List Placed) → ((a : ℕ) → ltb k (get_or until a 0) ≡ covered ps a)
    → ((a : ℕ) → high ≤ a → get_or until a 0 ≤ k) → Each (λ p. 1 ≤ p.value.width) ps → 1 ≤ n → Lowest until k n 0 high at → gap ps n ≡ at
lowest-is k until high n at ps marks above w one s =
    gap_is ps n at (uncovered-gap ps n at one w (λ j l. sym (marks (at + j)) ∙ le-ltb k (get_or until (at + j) 0) (vacant (at + j) (omega arith) (omega arith))))
    (λ c l. no_gap c l (is_gap ps n c) refl)
  where
    vacant : (a : ℕ) → at ≤ a → a < at + n → get_or until a 0 ≤ k
    vacant a l h = pick (ltb a high) refl
      where
        pick : (b : Bool) → ltb a high ≡ b → get_or until a 0 ≤ k
        pick true e = s.vacant a l h (ltb-true a high e)
        pick false e = above a (ltb-false a high e)

    no_gap : (c : ℕ) → c < at → (b : Bool) → is_gap ps n c ≡ b → b ≡ false
    no_gap c l false e = refl
    no_gap c l true e =
        let (a, p, q, v) = s.lower c (omega arith) l in
        let there : c + (a - c) ≡ a = omega arith in
        never
        (sym (gap-uncovered ps n c (gap-each ps n c e) (a - c) (omega arith)) ∙ ap (covered ps) there ∙ sym (marks a) ∙ lt-ltb k (get_or until a 0) (omega arith))
