-- The lowest gap.
use Prim.Native.Nat.{ℕ, zero, suc, ◌+◌, ◌≤◌, ◌<◌}
use mathlib.Core.Path.{◌≡◌, refl, ap, sym, ◌∙◌}
use mathlib.Core.Bool.{Bool, true, false, cond}
use mathlib.Core.List.{List, [], ◌∷◌}
use mathlib.Core.Logic.{◌⊎◌, inl, inr}
use native.Mathlib.Omega.{arith}
use native.Mathlib.Nat.{eq-or-lt_of_le}
use lib.Dec.{ltb}
use borrow.Author.Tests.{ltb-true, ltb-false}
use Rattle.base.specs.Lists.{Each}
use Rattle.base.proofs.Bools.{never, and-inv, and_both}
use Rattle.placement.specs.Place.{Placed, words, top, apart, is_gap, gap_from, gap}
use Rattle.placement.proofs.Ranges.{apart-is}

abbrev pub Free : List Placed → ℕ → ℕ → Type 0
Free held n at = Each (λ q. apart (record { first = at; width = n }) (words q) ≡ true) held

pub gap-each : (held : List Placed) (n at : ℕ) → is_gap held n at ≡ true → Free held n at
gap-each [] n at e = tt
gap-each (p ∷ ps) n at e =
    let (a, b) = and-inv (apart (record { first = at; width = n }) (words p)) (is_gap ps n at) e in
    (a, gap-each ps n at b)

above-free : (held : List Placed) (n at : ℕ) → top held ≤ at → is_gap held n at ≡ true
above-free [] n at h = refl
above-free (p ∷ ps) n at h = and_both _ _ (apart-is _ (words p) (inr (omega arith))) (above-free ps n at (omega arith))

from-free : (k at : ℕ) (held : List Placed) (n : ℕ) → top held ≤ at + k → is_gap held n (gap_from k at held n) ≡ true
from-free zero at held n h = above-free held n at (omega arith)
from-free (suc k) at held n h = pick (is_gap held n at) refl (from-free k (suc at) held n (omega arith))
  where
    pick : (b : Bool) → is_gap held n at ≡ b → is_gap held n (gap_from k (suc at) held n) ≡ true → is_gap held n (cond b at (gap_from k (suc at) held n)) ≡ true
    pick true e f = e
    pick false e f = f

from-most : (k at : ℕ) (held : List Placed) (n : ℕ) → gap_from k at held n ≤ at + k
from-most zero at held n = omega arith
from-most (suc k) at held n = pick (is_gap held n at) (from-most k (suc at) held n)
  where
    pick : (b : Bool) → gap_from k (suc at) held n ≤ suc at + k → cond b at (gap_from k (suc at) held n) ≤ at + suc k
    pick true h = omega arith
    pick false h = omega arith

from_lowest : (k at : ℕ) (held : List Placed) (n a : ℕ) → at ≤ a → a < gap_from k at held n → is_gap held n a ≡ false
from_lowest zero at held n a h l = absurd (omega arith)
from_lowest (suc k) at held n a h l = pick (is_gap held n at) refl l (from_lowest k (suc at) held n a)
  where
    here : is_gap held n at ≡ false → (suc at ≤ a → is_gap held n a ≡ false) → (at ≡ a) ⊎ (suc at ≤ a) → is_gap held n a ≡ false
    here e g (inl q) = ap (is_gap held n) (sym q) ∙ e
    here e g (inr q) = g q

    split : at ≤ a → (at ≡ a) ⊎ (suc at ≤ a)
    split h = eq-or-lt_of_le h

    pick : (b : Bool) → is_gap held n at ≡ b → a < cond b at (gap_from k (suc at) held n)
        → (suc at ≤ a → a < gap_from k (suc at) held n → is_gap held n a ≡ false) → is_gap held n a ≡ false
    pick true e l g = absurd (omega arith)
    pick false e l g = here e (λ s. g s l) (split h)

-- it is a gap, none is lower, and it is not above the highest word held
pub gap-free : (held : List Placed) (n : ℕ) → Free held n (gap held n)
gap-free held n = gap-each held n (gap held n) (from-free (top held) 0 held n (omega arith))

pub gap-lowest : (held : List Placed) (n a : ℕ) → a < gap held n → is_gap held n a ≡ false
gap-lowest held n a l = from_lowest (top held) 0 held n a (omega arith) l

pub gap-most : (held : List Placed) (n : ℕ) → gap held n ≤ top held
gap-most held n = let h = from-most (top held) 0 held n in omega arith

-- so a scan from the first word on that stops at a gap has found it
pub gap_is : (held : List Placed) (n a : ℕ) → is_gap held n a ≡ true → ((b : ℕ) → b < a → is_gap held n b ≡ false) → gap held n ≡ a
gap_is held n a e h = pick (ltb (gap held n) a) (ltb a (gap held n)) refl refl
  where
    own : is_gap held n (gap held n) ≡ true
    own = from-free (top held) 0 held n (omega arith)

    pick : (b c : Bool) → ltb (gap held n) a ≡ b → ltb a (gap held n) ≡ c → gap held n ≡ a
    pick true c p q = never (sym (h (gap held n) (ltb-true _ _ p)) ∙ own)
    pick false true p q = never (sym (gap-lowest held n a (ltb-true _ _ q)) ∙ e)
    pick false false p q = omega (arith, ltb-false (gap held n) a p, ltb-false a (gap held n) q)
