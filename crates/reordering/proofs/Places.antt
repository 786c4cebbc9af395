-- The values of a routed list: the inputs and a result for each instruction. They have all words of version 1, each one, and share none, in
-- version 1 or where they are placed.
use Prim.Native.Nat.{ℕ, zero, suc, ◌+◌, ◌≤◌, ◌<◌}
use mathlib.Core.Path.{◌≡◌, refl, ap, sym, ◌∙◌, subst}
use mathlib.Core.Bool.{true}
use mathlib.Core.List.{List, [], ◌∷◌, map}
use mathlib.Core.Logic.{◌⊎◌, inl, inr, ⊎_elim}
use native.Mathlib.Omega.{arith}
use lib.ListN.{length, get_or}
use Rattle.ports.specs.Kinds.{kind_of}
use Rattle.ports.specs.Ports.{width, takes}
use Rattle.base.specs.Lists.{Is}
use Rattle.base.proofs.Lists.{each_in}
use Rattle.bytecode.specs.Run.{Instruction}
use Rattle.bytecode.specs.Sequential.{next_word, Fit, AllFit}
use Rattle.bytecode.specs.Ranges.{Range, result_value}
use Rattle.bytecode.specs.Origin.{result_width}
use Rattle.placement.specs.Live.{input_values}
use Rattle.placement.specs.Place.{Placed, words, top, apart, stay}
use Rattle.placement.specs.OneValue.{InOneEach, AllInOne}
use Rattle.placement.specs.Balance.{blank, Apart}
use Rattle.placement.proofs.Ranges.{apart-inv, apart-is}
use Rattle.placement.proofs.Carried.{some_word, Distinct, Along, along-next}
use Rattle.reordering.specs.Reorder.{results_at}

-- ---- any two of them

apart-sym : (r s : Range) → apart r s ≡ true → apart s r ≡ true
apart-sym r s e = apart-is s r (⊎_elim inr inl (apart-inv r s e))

abbrev Separate : Placed → Placed → Type 0
Separate p q = (apart p.value q.value ≡ true) × (apart (words p) (words q) ≡ true)

pub one-or-apart : (ps : List Placed) → Distinct ps → Apart ps → (p q : Placed) → Is p ps → Is q ps → (p ≡ q) ⊎ Separate p q
one-or-apart [] d a p q i j = absurd i
one-or-apart (x ∷ ps) (d, ds) (a, rest) p q (inl e) (inl f) = inl (e ∙ sym f)
one-or-apart (x ∷ ps) (d, ds) (a, rest) p q (inl e) (inr j) =
    inr (subst (λ (y : Placed). Separate y q) (sym e) (each_in (λ y. apart x.value y.value ≡ true) ps d q j, each_in (λ y. apart (words x) (words y) ≡ true) ps a q j))
one-or-apart (x ∷ ps) (d, ds) (a, rest) p q (inr i) (inl f) =
    inr
    (subst (λ (y : Placed). Separate p y) (sym f) (
      apart-sym x.value p.value (each_in (λ y. apart x.value y.value ≡ true) ps d p i),
      apart-sym (words x) (words p) (each_in (λ y. apart (words x) (words y) ≡ true) ps a p i),
    ))
one-or-apart (x ∷ ps) (d, ds) (a, rest) p q (inr i) (inr j) = one-or-apart ps ds rest p q i j

-- ---- all of them

pub results-keep : (is : List Instruction) (at : List ℕ) (ps : List Placed) (p : Placed) → Is p ps → Is p (results_at ps is at)
results-keep [] at ps p i = i
results-keep (x ∷ is) [] ps p i = i
results-keep (x ∷ is) (a ∷ at) ps p i = results-keep is at (record { value = result_value x; place = a } ∷ ps) p (inr i)

pub results-along : (is : List Instruction) (at : List ℕ) (next stop : ℕ) (ps : List Placed) → AllFit next is stop → length at ≡ length is → Along next ps
    → Along stop (results_at ps is at)
results-along [] at next stop ps f l r = subst (λ (n : ℕ). Along n ps) f r
results-along (i ∷ is) [] next stop ps f l r = absurd (omega arith)
results-along (i ∷ is) (a ∷ at) next stop ps (x, f) l r =
    let p : Placed = record { value = result_value i; place = a } in
    results-along is at (next_word next i) stop (p ∷ ps) f (omega arith) (along-next next (result_width i) ps p x.result refl r)

pub results-top : (is : List Instruction) (at : List ℕ) (ps : List Placed) → top ps ≤ top (results_at ps is at)
results-top [] at ps = omega arith
results-top (i ∷ is) [] ps = omega arith
results-top (i ∷ is) (a ∷ at) ps = let r = results-top is at (record { value = result_value i; place = a } ∷ ps) in omega arith

-- the result of instruction k
pub result-there : (is : List Instruction) (at : List ℕ) (ps : List Placed) (k : ℕ) → length at ≡ length is → k < length is
    → (p : Placed) × Is p (results_at ps is at) × (p.value ≡ result_value (get_or is k blank))
result-there [] at ps k e l = absurd (omega arith)
result-there (i ∷ is) [] ps k e l = absurd (omega arith)
result-there (i ∷ is) (a ∷ at) ps zero e l =
    let p : Placed = record { value = result_value i; place = a } in
    (p, results-keep is at (p ∷ ps) p (inl refl), refl)
result-there (i ∷ is) (a ∷ at) ps (suc k) e l = result-there is at (record { value = result_value i; place = a } ∷ ps) k (omega arith) (omega arith)

abbrev pub ResultOf : List Instruction → Placed → Type 0
ResultOf is p = (m : ℕ) × (m < length is) × (p.value ≡ result_value (get_or is m blank))

-- each is of those before, or the result of one of them
pub result-from : (is : List Instruction) (at : List ℕ) (ps : List Placed) (p : Placed) → Is p (results_at ps is at) → Is p ps ⊎ ResultOf is p
result-from [] at ps p i = inl i
result-from (x ∷ is) [] ps p i = inl i
result-from (x ∷ is) (a ∷ at) ps p i = ⊎_elim first (λ (m, l, e). inr (suc m, omega arith, e)) (result-from is at (record { value = result_value x; place = a } ∷ ps) p i)
  where
    first : Is p (record { value = result_value x; place = a } ∷ ps) → Is p ps ⊎ ResultOf (x ∷ is) p
    first (inl e) = inr (0, omega arith, ap (λ (y : Placed). y.value) e)
    first (inr j) = inl j

-- ---- instruction k of version 1

pub fit_at : (is : List Instruction) (next stop k : ℕ) → AllFit next is stop → k < length is → (n : ℕ) × Fit n (get_or is k blank)
fit_at [] next stop k f l = absurd (omega arith)
fit_at (i ∷ is) next stop zero (x, f) l = (next, x)
fit_at (i ∷ is) next stop (suc k) (x, f) l = fit_at is (next_word next i) stop k f (omega arith)

-- its operands, each within one of the values before it
pub record Operands (H : List Placed) (i : Instruction) : Type 0 where
  pub values : List Placed
  pub among : (p : Placed) → Is p values → Is p H
  pub one : InOneEach (map (λ p. p.value) values) (takes (kind_of i.kind) i.type) i.operands

pub operands-at : (is : List Instruction) (at : List ℕ) (ps : List Placed) (k : ℕ) → AllInOne (map (λ p. p.value) ps) is → length at ≡ length is
    → k < length is → Operands (results_at ps is at) (get_or is k blank)
operands-at [] at ps k w e l = absurd (omega arith)
operands-at (i ∷ is) [] ps k w e l = absurd (omega arith)
operands-at (i ∷ is) (a ∷ at) ps zero (x, w) e l = record { values = ps; among = λ p j. results-keep (i ∷ is) (a ∷ at) ps p j; one = x }
operands-at (i ∷ is) (a ∷ at) ps (suc k) (x, w) e l = operands-at is at (record { value = result_value i; place = a } ∷ ps) k w (omega arith) (omega arith)

pub inputs-wide : (ts : List ℕ) (at : ℕ) (p : Placed) → Is p (map stay (input_values at ts)) → 1 ≤ p.value.width
inputs-wide [] at p i = absurd i
inputs-wide (t ∷ ts) at p (inl e) = let w = ap (λ (x : Placed). x.value.width) e in let o = some_word t in omega arith
inputs-wide (t ∷ ts) at p (inr i) = inputs-wide ts (at + width t) p i
