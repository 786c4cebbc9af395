-- Version 1's own order and words respect its reads, and the list written from them is version 1's list: the claim speaks of every function within
-- the limits, and its list is renamed as it should be.
use Prim.Native.Nat.{ℕ, zero, suc, ◌+◌, ◌-◌, ◌≤◌, ◌<◌}
use mathlib.Core.Path.{◌≡◌, refl, ap, ap₂, sym, ◌∙◌, subst}
use mathlib.Core.Bool.{Bool, true, false}
use mathlib.Core.List.{List, [], ◌∷◌, ◌++◌, map}
use mathlib.Core.Logic.{inl, inr, ⊎_elim}
use native.Mathlib.Omega.{arith}
use lib.Dec.{ltb}
use lib.ListN.{length, get_or, length-map}
use borrow.Author.Tests.{ltb-true, ltb-false, ne_eqb}
use Rattle.ports.specs.Kinds.{kind_of}
use Rattle.ports.specs.Ports.{takes}
use Rattle.base.specs.Limits.{word_limit}
use Rattle.base.specs.Lists.{Each, Is, member, Distinct, span}
use Rattle.base.proofs.Bools.{never}
use Rattle.base.proofs.Lists.{each_in, each_on, span_below}
use Rattle.bytecode.specs.Run.{Instruction, BoardList}
use Rattle.bytecode.specs.Sequential.{next_word, Below, AllFit}
use Rattle.bytecode.specs.Ranges.{end, inside, result_value}
use Rattle.bytecode.specs.Origin.{operand_places}
use Rattle.bytecode.proofs.Readable.{inside-inv}
use Rattle.bytecode.proofs.Sequential.{fit-up, spans-below}
use Rattle.placement.specs.Live.{input_values}
use Rattle.placement.specs.Place.{Placed, words, top, apart, inputs_of, rename, renamed}
use Rattle.placement.specs.OneValue.{Placeable}
use Rattle.placement.specs.Balance.{blank, instruction_at, Apart}
use Rattle.placement.proofs.Ranges.{inside-not, apart-inv, apart-is, any_none}
use Rattle.placement.proofs.Balanced.{tops}
use Rattle.placement.proofs.Carried as placing
use Rattle.placement.proofs.Carried.{some_word, rename-is, Along}
use Rattle.placement.proofs.Following.{each-by, inputs-along, stays}
use Rattle.reordering.specs.Reorder.{Routing, results_at, routed_places, reordered, Reads, Respects}
use Rattle.reordering.proofs.Places.{results-along, fit_at}
use Rattle.reordering.proofs.Formed.{top-most}

abbrev pub own_routing : BoardList → Routing
own_routing b = record { order = span 0 (length b.instructions); addresses = map (λ i. i.result) b.instructions }

-- ---- the order

middle : (xs : List ℕ) (x : ℕ) (ys : List ℕ) → Is x (xs ++ x ∷ ys)
middle [] x ys = inl refl
middle (y ∷ xs) x ys = inr (middle xs x ys)

-- numbers in a row, cut at one of them
span-split : (k n a : ℕ) → k < n → (rest : List ℕ) × (span a n ≡ span a k ++ (a + k) ∷ rest)
span-split k zero a l = absurd (omega arith)
span-split zero (suc n) a l =
    let here : a ≡ a + 0 = omega arith in
    (span (suc a) n, ap (λ (x : ℕ). x ∷ span (suc a) n) here)
span-split (suc k) (suc n) a l =
    let next : suc a + k ≡ a + suc k = omega arith in
    let (rest, e) = span-split k n (suc a) (omega arith) in
    (rest, ap (λ (xs : List ℕ). a ∷ xs) (e ∙ ap (λ (x : ℕ). span (suc a) k ++ x ∷ rest) next))

span-in : (n k : ℕ) → k < n → Is k (span 0 n)
span-in n k l =
    let z : 0 + k ≡ k = omega arith in
    let (rest, e) = span-split k n 0 l in
    subst (λ (x : ℕ). Is x (span 0 n)) z (subst (Is (0 + k)) (sym e) (middle (span 0 k) (0 + k) rest))

span-without : (n a v : ℕ) → v < a → member v (span a n) ≡ false
span-without zero a v l = refl
span-without (suc n) a v l = rw (ne_eqb a v (λ e. omega arith)) (span-without n (suc a) v (omega arith))

pub span-once : (n a : ℕ) → Distinct (span a n)
span-once zero a = tt
span-once (suc n) a = (span-without n (suc a) a (omega arith), span-once n (suc a))

-- what stands before k is all below it
span-cut : (before behind : List ℕ) (n a k : ℕ) → span a n ≡ before ++ k ∷ behind → (before ≡ span a (length before)) × (k ≡ a + length before)
span-cut [] behind zero a k e = let z : ◌≡◌ {A = ℕ} 0 1 = cc in absurd (omega arith)
span-cut [] behind (suc n) a k e = let z : k ≡ a = cc in (refl, omega arith)
span-cut (x ∷ before) behind zero a k e = let z : ◌≡◌ {A = ℕ} 0 1 = cc in absurd (omega arith)
span-cut (x ∷ before) behind (suc n) a k e =
    let first : x ≡ a = cc in
    let rest : span (suc a) n ≡ before ++ k ∷ behind = cc in
    let (p, q) = span-cut before behind n (suc a) k rest in
    (ap₂ (λ (y : ℕ) (ys : List ℕ). y ∷ ys) first p, omega arith)

results-up : (is : List Instruction) (next stop k : ℕ) → AllFit next is stop → k < length is → next ≤ (get_or is k blank).result
results-up [] next stop k f l = absurd (omega arith)
results-up (i ∷ is) next stop zero (x, f) l = let e = x.result in omega arith
results-up (i ∷ is) next stop (suc k) (x, f) l = let h = results-up is (next_word next i) stop k f (omega arith) in omega arith

-- no result stands before one of an earlier instruction
results-order : (is : List Instruction) (next stop k m : ℕ) → AllFit next is stop → k ≤ m → m < length is → (get_or is k blank).result ≤ (get_or is m blank).result
results-order [] next stop k m f l h = absurd (omega arith)
results-order (i ∷ is) next stop zero m (x, f) l h = let e = x.result in let u = results-up (i ∷ is) next stop m (x, f) h in omega arith
results-order (i ∷ is) next stop (suc k) zero (x, f) l h = absurd (omega arith)
results-order (i ∷ is) next stop (suc k) (suc m) (x, f) l h = results-order is (next_word next i) stop k m f (omega arith) (omega arith)

-- ---- the words

abbrev Stays : Placed → Type 0
Stays p = p.place ≡ p.value.first

results-stay : (is : List Instruction) (ps : List Placed) → ((p : Placed) → Is p ps → Stays p) → (p : Placed) → Is p (results_at ps is (map (λ i. i.result) is)) → Stays p
results-stay [] ps h p j = h p j
results-stay (i ∷ is) ps h p j =
    results-stay is (record { value = result_value i; place = i.result } ∷ ps)
    (λ q z. ⊎_elim (λ (e : q ≡ record { value = result_value i; place = i.result }). subst Stays (sym e) refl) (h q) z) p j

stay-apart : (ps : List Placed) → ((p : Placed) → Is p ps → Stays p) → placing.Distinct ps → Apart ps
stay-apart [] h d = tt
stay-apart (p ∷ ps) h (x, d) = (
  each-by (λ q. apart (words p) (words q) ≡ true) ps
      (λ q i.
      let u = h p (inl refl) in
      let v = h q (inr i) in
      apart-is (words p) (words q)
      (⊎_elim (λ (l : end p.value ≤ q.value.first). inl (omega arith)) (λ (l : end q.value ≤ p.value.first). inr (omega arith))
      (apart-inv p.value q.value (each_in (λ q. apart p.value q.value ≡ true) ps x q i)))),
  stay-apart ps (λ q i. h q (inr i)) d,
)

-- ---- both

module _ (inputs : List ℕ) (b : BoardList) (t : Placeable inputs b) where
  abbrev places : List Placed
  places = routed_places inputs b (own_routing b)

  all_stay : (p : Placed) → Is p places → Stays p
  all_stay = results-stay b.instructions (inputs_of inputs) (stays (input_values 0 inputs))

  all-along : Along b.words places
  all-along =
      results-along b.instructions (map (λ i. i.result) b.instructions) b.arguments b.words (inputs_of inputs) t.fit
      (length-map b.instructions (λ i. i.result)) (subst (λ (n : ℕ). Along n (inputs_of inputs)) (sym t.arguments) (inputs-along inputs))

  all-below : (p : Placed) → Is p places → end (words p) ≤ b.words
  all-below p i =
      let e = all_stay p i in
      let l : end p.value ≤ b.words = each_in (λ q. end q.value ≤ b.words) places all-along.below p i in
      omega arith

  -- an instruction reads results of earlier ones alone
  reads-earlier : (k m : ℕ) → k < length b.instructions → m < length b.instructions → Reads b k m → m < k
  reads-earlier k m l h e = pick (ltb m k) refl
    where
      i : Instruction
      i = instruction_at b k

      pick : (c : Bool) → ltb m k ≡ c → m < k
      pick true z = ltb-true m k z
      pick false z =
          let (n, fit) = fit_at b.instructions b.arguments b.words k t.fit l in
          let (low, size) = spans-below n (takes (kind_of i.kind) i.type) i.operands fit.operands in
          let up = results-order b.instructions b.arguments b.words k m t.fit (ltb-false m k z) h in
          let own = fit.result in
          never
          (sym
          (any_none (inside (result_value (instruction_at b m))) (operand_places i)
          (each_on (λ x. x < n) _ (λ x (y : x < n). inside-not (result_value (instruction_at b m)) x (inl (omega arith))) (operand_places i) low))
          ∙ e)

  pub own-respects : b.words ≤ word_limit → Respects inputs b (own_routing b)
  own-respects limit =
      let n = length b.instructions in
      record {
        within = span_below n 0 n (omega arith);
        has = span-in n;
        once = span-once n 0;
        after = λ before behind k m e l r.
            let (p, q) = span-cut before behind n 0 k e in
            let bound : k < n = each_in (λ j. j < n) (span 0 n) (span_below n 0 n (omega arith)) k (subst (Is k) (sym e) (middle before k behind)) in
            let lt = reads-earlier k m bound l r in
            subst (Is m) (sym p) (span-in (length before) m (omega arith));
        each = length-map b.instructions (λ i. i.result);
        own = stay-apart places all_stay all-along.distinct;
        below = each-by (λ p. end (words p) ≤ word_limit) places (λ p i. let l = all-below p i in omega arith);
      }

  -- ---- the list

  rename-own : (a : ℕ) → a < b.words → rename places a ≡ a
  rename-own a l =
      let (p, i, s) = all-along.covers a l in
      let (lo, hi) = inside-inv p.value a s in
      let e = all_stay p i in
      let r = rename-is places p a all-along.distinct i s in
      omega arith

  rename-all : (xs : List ℕ) → Each (λ a. a < b.words) xs → map (rename places) xs ≡ xs
  rename-all [] l = refl
  rename-all (a ∷ xs) (l, ls) = ap₂ (λ (y : ℕ) (ys : List ℕ). y ∷ ys) (rename-own a l) (rename-all xs ls)

  operands-low : (next : ℕ) → next ≤ b.words → (ts at : List ℕ) → Below next ts at → Each (λ a. a < b.words) at
  operands-low next h [] [] l = tt
  operands-low next h [] (a ∷ at) l = absurd l
  operands-low next h (u ∷ ts) [] l = absurd l
  operands-low next h (u ∷ ts) (a ∷ at) (l, ls) = let w = some_word u in (omega arith, operands-low next h ts at ls)

  renamed-own : (k : ℕ) → k < length b.instructions → renamed places (instruction_at b k) ≡ instruction_at b k
  renamed-own k l =
      let i = instruction_at b k in
      let (n, fit) = fit_at b.instructions b.arguments b.words k t.fit l in
      let below : (n ≤ b.words) × (i.result < b.words) = result_low b.instructions b.arguments b.words k n t.fit l fit.result in
      ap₂ (λ (xs : List ℕ) (a : ℕ). record { kind = i.kind; type = i.type; operands = xs; constants = i.constants; result = a })
      (rename-all i.operands (operands-low n below.0 (takes (kind_of i.kind) i.type) i.operands fit.operands)) (rename-own i.result below.1)
    where
      result_low : (is : List Instruction) (next stop k n : ℕ) → AllFit next is stop → k < length is → (get_or is k blank).result ≡ n → (n ≤ stop) × ((get_or is k blank).result < stop)
      result_low [] next stop k n f l e = absurd (omega arith)
      result_low (i ∷ is) next stop zero n (x, f) l e =
          let up = fit-up is (next_word next i) stop f in
          let one = placing.legal-wide i x.legal in
          let own = x.result in
          (omega arith, omega arith)
      result_low (i ∷ is) next stop (suc k) n (x, f) l e = result_low is (next_word next i) stop k n f (omega arith) e

  numbers-back : (is : List Instruction) (a : ℕ) (g : ℕ → Instruction) → ((k : ℕ) → k < length is → g (a + k) ≡ get_or is k blank) → map g (span a (length is)) ≡ is
  numbers-back [] a g h = refl
  numbers-back (i ∷ is) a g h =
      let z : a + 0 ≡ a = omega arith in
      ap₂ (λ (x : Instruction) (xs : List Instruction). x ∷ xs) (ap g (sym z) ∙ h 0 (omega arith))
      (numbers-back is (suc a) g (λ k l. let y : suc a + k ≡ a + suc k = omega arith in ap g y ∙ h (suc k) (omega arith)))

  top-own : top places ≡ b.words
  top-own =
      let most : top places ≤ b.words = top-most places b.words all-below in
      let least : b.words ≤ top places = pick (ltb 0 b.words) refl in
      omega arith
    where
      pick : (c : Bool) → ltb 0 b.words ≡ c → b.words ≤ top places
      pick true e =
          let some : 0 < b.words = ltb-true 0 b.words e in
          let (p, i, s) = all-along.covers (b.words - 1) (omega arith) in
          let (lo, hi) = inside-inv p.value (b.words - 1) s in
          let w = all_stay p i in
          let u : end (words p) ≤ top places = each_in (λ q. end (words q) ≤ top places) places (tops places) p i in
          omega arith
      pick false e = let none : b.words ≤ 0 = ltb-false 0 b.words e in omega arith

  pub own-list : reordered inputs b (own_routing b) ≡ b
  own-list =
      let is = b.instructions in
      let instructions : map (λ k. renamed places (instruction_at b k)) (span 0 (length is)) ≡ is =
      numbers-back is 0 (λ k. renamed places (instruction_at b k)) (λ k l. let z : 0 + k ≡ k = omega arith in ap (λ (j : ℕ). renamed places (instruction_at b j)) z ∙ renamed-own k l) in
      ap₂ (λ (js : List Instruction) (n : ℕ). record { arguments = b.arguments; instructions = js; words = n; outputs = map (rename places) b.outputs }) instructions top-own
      ∙ ap (λ (ys : List ℕ). record { arguments = b.arguments; instructions = is; words = b.words; outputs = ys }) (rename-all b.outputs t.below)
