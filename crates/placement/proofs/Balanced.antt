-- At each instruction no two held values share a word: an instruction's result takes a gap. So the words of the held values are as many
-- as their lengths together, and with the words that belong to none they are all words up to the highest so far.
use Prim.Native.Nat.{ℕ, zero, suc, ◌+◌, ◌-◌, ◌≤◌, min, max}
use mathlib.Core.Path.{◌≡◌, refl, ap, ap₂, sym, ◌∙◌}
use mathlib.Core.Bool.{Bool, true, false, not, ◌&&◌, ◌||◌, cond}
use mathlib.Core.List.{List, [], ◌∷◌, map}
use mathlib.Core.Logic.{inl}
use native.Mathlib.Omega.{arith}
use lib.Dec.{leb, ltb}
use lib.ListN.{drop}
use borrow.Author.Tests.{ltb-true, ltb-false, leb-true, leb-false}
use Rattle.ports.specs.Ports.{width, widths}
use Rattle.base.specs.Lists.{Each}
use Rattle.base.proofs.Bools.{never}
use Rattle.base.proofs.Lists.{each_on}
use Rattle.bytecode.specs.Run.{Instruction, BoardList}
use Rattle.bytecode.specs.Origin.{result_width}
use Rattle.bytecode.specs.Ranges.{Range, end, inside}
use Rattle.placement.specs.Live.{keep, input_values, live}
use Rattle.placement.specs.Place.{Placed, words, top, apart, stay, inputs_of, held_at, placed}
use Rattle.placement.specs.Balance.{history_at, earlier, Apart, widths_of, count}
use Rattle.placement.specs.Record.{covered}
use Rattle.placement.proofs.Ranges.{apart-is, apart-outside, any_none, each_keep, each_fewer, live-before}
use Rattle.placement.proofs.Gaps.{gap-free}

-- ---- apart

apart-fewer : (q r : Placed → Bool) → ((p : Placed) → q p ≡ true → r p ≡ true) → (ps : List Placed) → Apart (keep r ps) → Apart (keep q ps)
apart-fewer q r h [] a = tt
apart-fewer q r h (p ∷ ps) a = pick (q p) (r p) refl refl a (λ b. apart-fewer q r h ps b)
  where
    pick : (b c : Bool) → q p ≡ b → r p ≡ c → Apart (cond c (p ∷ keep r ps) (keep r ps)) → (Apart (keep r ps) → Apart (keep q ps))
        → Apart (cond b (p ∷ keep q ps) (keep q ps))
    pick true true s t (e, f) g = (each_fewer q r h _ ps e, g f)
    pick true false s t f g = never (sym t ∙ h p s)
    pick false true s t (e, f) g = g f
    pick false false s t f g = g f

apart-keep : (q : Placed → Bool) (ps : List Placed) → Apart ps → Apart (keep q ps)
apart-keep q [] a = tt
apart-keep q (p ∷ ps) (e, a) = pick (q p) (apart-keep q ps a)
  where
    pick : (b : Bool) → Apart (keep q ps) → Apart (cond b (p ∷ keep q ps) (keep q ps))
    pick true r = (each_keep _ q ps e, r)
    pick false r = r

-- ---- at each instruction

-- a result takes a gap, so that it is apart from all that are held
pub placed-apart : (outputs : List ℕ) (i : Instruction) (is : List Instruction) (h : List Placed) → Apart (held_at (i ∷ is) outputs h)
    → Apart (placed outputs h i is ∷ held_at (i ∷ is) outputs h)
placed-apart outputs i is h a = (gap-free (held_at (i ∷ is) outputs h) (result_width i), a)

apart_next : (outputs : List ℕ) (i : Instruction) (is : List Instruction) (h : List Placed) → Apart (held_at (i ∷ is) outputs h)
    → Apart (held_at is outputs (placed outputs h i is ∷ h))
apart_next outputs i is h a = pick (live is outputs (placed outputs h i is).value)
  where
    before : (p : Placed) → live is outputs p.value ≡ true → live (i ∷ is) outputs p.value ≡ true
    before p e = live-before i is outputs p.value e

    pick : (b : Bool) → Apart (cond b (placed outputs h i is ∷ held_at is outputs h) (held_at is outputs h))
    pick true = (
      each_fewer (λ p. live is outputs p.value) (λ p. live (i ∷ is) outputs p.value) before _ h (placed-apart outputs i is h a).0,
      apart-fewer (λ p. live is outputs p.value) (λ p. live (i ∷ is) outputs p.value) before h a,
    )
    pick false = apart-fewer (λ p. live is outputs p.value) (λ p. live (i ∷ is) outputs p.value) before h a

apart-at : (outputs : List ℕ) (is : List Instruction) (h : List Placed) (k : ℕ) → Apart (held_at is outputs h)
    → Apart (held_at (drop k is) outputs (history_at outputs h is k))
apart-at outputs is h zero a = a
apart-at outputs [] h (suc k) a = a
apart-at outputs (i ∷ is) h (suc k) a = apart-at outputs is (placed outputs h i is ∷ h) k (apart_next outputs i is h a)

inputs-from : (ts : List ℕ) (at from : ℕ) → from ≤ at → Each (λ p. from ≤ p.place) (map stay (input_values at ts))
inputs-from [] at from h = tt
inputs-from (t ∷ ts) at from h = (h, inputs-from ts (at + width t) from (omega arith))

inputs_apart : (ts : List ℕ) (at : ℕ) → Apart (map stay (input_values at ts))
inputs_apart [] at = tt
inputs_apart (t ∷ ts) at = (
  each_on (λ p. at + width t ≤ p.place) _ (λ p h. apart-is (record { first = at; width = width t }) (words p) (inl h))
      (map stay (input_values (at + width t) ts)) (inputs-from ts (at + width t) (at + width t) (omega arith)),
  inputs_apart ts (at + width t),
)

pub earlier-apart : (inputs : List ℕ) (b : BoardList) (k : ℕ) → Apart (earlier inputs b k)
earlier-apart inputs b k =
    apart-at b.outputs b.instructions (inputs_of inputs) k
    (apart-keep (λ p. live b.instructions b.outputs p.value) (inputs_of inputs) (inputs_apart inputs 0))

-- ---- the highest word

pub inputs-top : (ts : List ℕ) (at : ℕ) → max at (top (map stay (input_values at ts))) ≡ at + widths ts
inputs-top [] at = omega arith
inputs-top (t ∷ ts) at = let h = inputs-top ts (at + width t) in omega arith

pub tops : (ps : List Placed) → Each (λ p. end (words p) ≤ top ps) ps
tops [] = tt
tops (p ∷ ps) = (omega arith, each_on _ _ (λ q (h : end (words q) ≤ top ps). omega arith) ps (tops ps))

-- ---- counting

-- a word of one value is of none that is apart from it
others : (p : Placed) (ps : List Placed) (a : ℕ) → Each (λ q. apart (words p) (words q) ≡ true) ps → inside (words p) a ≡ true → covered ps a ≡ false
others p ps a e h = any_none (λ q. inside (words q) a) ps (each_on _ _ (λ q f. apart-outside (words p) (words q) a f h) ps e)

count_same : (s t : ℕ → Bool) → ((a : ℕ) → s a ≡ t a) → (n : ℕ) → count s n ≡ count t n
count_same s t h zero = refl
count_same s t h (suc n) = ap₂ (λ (b : Bool) (x : ℕ). cond b 1 0 + x) (h n) (count_same s t h n)

-- what passes one of two tests that no number passes both
count-either : (s t : ℕ → Bool) → ((a : ℕ) → s a ≡ true → t a ≡ false) → (n : ℕ) → count s n + count (λ a. not (s a || t a)) n ≡ count (λ a. not (t a)) n
count-either s t h zero = refl
count-either s t h (suc n) = pick (s n) (t n) refl refl (count-either s t h n)
  where
    pick : (b c : Bool) → s n ≡ b → t n ≡ c → count s n + count (λ a. not (s a || t a)) n ≡ count (λ a. not (t a)) n
        → cond b 1 0 + count s n + (cond (not (b || c)) 1 0 + count (λ a. not (s a || t a)) n) ≡ cond (not c) 1 0 + count (λ a. not (t a)) n
    pick true true p q r = never (sym (h n p) ∙ q)
    pick true false p q r = omega arith
    pick false true p q r = omega arith
    pick false false p q r = omega arith

count-range : (r : Range) (n : ℕ) → count (inside r) n ≡ min n (end r) - min n r.first
count-range r zero = omega arith
count-range r (suc n) = pick (leb r.first n) (ltb n (end r)) refl refl (count-range r n)
  where
    pick : (b c : Bool) → leb r.first n ≡ b → ltb n (end r) ≡ c → count (inside r) n ≡ min n (end r) - min n r.first
        → cond (b && c) 1 0 + count (inside r) n ≡ min (suc n) (end r) - min (suc n) r.first
    pick true true p q ih = omega (arith, leb-true r.first n p, ltb-true n (end r) q)
    pick true false p q ih = omega (arith, leb-true r.first n p, ltb-false n (end r) q)
    pick false true p q ih = omega (arith, leb-false r.first n p, ltb-true n (end r) q)
    pick false false p q ih = omega (arith, leb-false r.first n p, ltb-false n (end r) q)

count-all : (n : ℕ) → count (λ a. true) n ≡ n
count-all zero = refl
count-all (suc n) = let h = count-all n in omega arith

-- the words of values that are apart, and the words of none of them
balance : (ps : List Placed) (n : ℕ) → Apart ps → Each (λ p. end (words p) ≤ n) ps → widths_of ps + count (λ a. not (covered ps a)) n ≡ n
balance [] n a h = let c = count-all n in omega arith
balance (p ∷ ps) n (e, a) (l, h) =
    let r : widths_of ps + count (λ a. not (covered ps a)) n ≡ n = balance ps n a h in
    let s = count-either (inside (words p)) (covered ps) (λ x y. others p ps x e y) n in
    let w = count-range (words p) n in
    omega arith

-- so it is for any record that has as free just the words of none of them
pub balanced-record : (ps : List Placed) (n : ℕ) (free : ℕ → Bool) → Apart ps → Each (λ p. end (words p) ≤ n) ps → ((a : ℕ) → free a ≡ not (covered ps a))
    → widths_of ps + count free n ≡ n
balanced-record ps n free a h e = ap (λ (x : ℕ). widths_of ps + x) (count_same free (λ a. not (covered ps a)) e n) ∙ balance ps n a h
