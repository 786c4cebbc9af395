-- The words of version 1 and their origins correspond one to one: no word is written twice, so the word i .result + j has the origin `result k j`
-- of its own instruction for good, and no other word has it.
use Prim.Native.Nat.{ℕ, zero, suc, ◌+◌, ◌-◌, ◌≤◌, ◌<◌}
use mathlib.Core.Path.{◌≡◌, refl, ap, sym, ◌∙◌, subst}
use mathlib.Core.Bool.{Bool, true, false}
use mathlib.Core.List.{List, [], ◌∷◌, map}
use mathlib.Core.Option.{some}
use native.Mathlib.Omega.{arith}
use native.Mathlib.Nat.{add-zero, add-suc, suc-add}
use lib.Dec.{ltb}
use lib.ListN.{length, get_elem?}
use lib.Seq.{length-sets}
use borrow.Author.Tests.{ltb-true, ltb-false}
use Rattle.ports.specs.Kinds.{kind_of}
use Rattle.ports.specs.Ports.{takes}
use Rattle.base.specs.Lists.{Each}
use Rattle.base.proofs.Lists.{some_is}
use Rattle.base.proofs.Stores.{stored-below}
use Rattle.bytecode.specs.Run.{Instruction, BoardList}
use Rattle.bytecode.specs.Sequential.{next_word, AllFit}
use Rattle.bytecode.specs.Origin.{Origin, unwritten, argument, result, Known, origin_at, operand_places, result_width, made, after, start, readings, final}
use Rattle.bytecode.proofs.Origins.{start-argument, start-length}
use Rattle.bytecode.proofs.Sequential.{fit-up, AllKnown, fit-known}
use Rattle.placement.proofs.Carried.{final-keeps, stored-made, own-reads}
use Rattle.validator.specs.Judge.{own_readings, own_origins}

-- an origin that is there before instruction k
abbrev Old : ℕ → Origin → Type 0
Old k unwritten = ⊥
Old k (argument i) = Unit {0}
Old k (result m j) = m < k

older : (k : ℕ) (x : Origin) → Old k x → Old (suc k) x
older k unwritten h = h
older k (argument i) h = tt
older k (result m j) h = omega arith

record Distinct (k next : ℕ) (o : List Origin) : Type 0 where
  old : (a : ℕ) → a < next → Old k (origin_at o a)
  one : (a b : ℕ) → a < next → b < next → origin_at o a ≡ origin_at o b → a ≡ b

same-result : {k i j : ℕ} → result k i ≡ result k j → i ≡ j
same-result e = cc

module _ (k next : ℕ) (i : Instruction) (o : List Origin) (e : i.result ≡ next) (room : next_word next i ≤ length o) where
  -- a word of before, or the j-th word of the result
  data Place (a : ℕ) : Type 0 where
    before : a < next → origin_at (after k i o) a ≡ origin_at o a → Place a
    fresh : (j : ℕ) → a ≡ next + j → origin_at (after k i o) a ≡ result k j → Place a

  place : (a : ℕ) → a < next_word next i → Place a
  place a l = pick (ltb a next) refl
    where
      pick : (b : Bool) → ltb a next ≡ b → Place a
      pick true q = let h : a < next = ltb-true a next q in before h (stored-below unwritten (made k (result_width i)) o i.result a (omega arith))
      pick false q =
          let h : next ≤ a = ltb-false a next q in
          let at : a ≡ i.result + (a - next) = omega arith in
          fresh (a - next) (omega arith) (ap (origin_at (after k i o)) at ∙ stored-made k i.result (result_width i) o (a - next) (omega arith) (omega arith))

  distinct-next : Distinct k next o → Distinct (suc k) (next_word next i) (after k i o)
  distinct-next d = record { old = λ a l. old a (place a l); one = λ a b l m q. one a b (place a l) (place b m) q }
    where
      old : (a : ℕ) → Place a → Old (suc k) (origin_at (after k i o) a)
      old a (before l q) = subst (Old (suc k)) (sym q) (older k (origin_at o a) (d.old a l))
      old a (fresh j q r) = subst (Old (suc k)) (sym r) (omega arith)

      -- what was there before is no result of k
      not_new : (a j : ℕ) → a < next → origin_at o a ≡ result k j → ⊥
      not_new a j l q = let h : k < k = subst (Old k) q (d.old a l) in omega arith

      one : (a b : ℕ) → Place a → Place b → origin_at (after k i o) a ≡ origin_at (after k i o) b → a ≡ b
      one a b (before l q) (before m r) s = d.one a b l m (sym q ∙ s ∙ r)
      one a b (before l q) (fresh j m r) s = absurd (not_new a j l (sym q ∙ s ∙ r))
      one a b (fresh j l q) (before m r) s = absurd (not_new b j m (sym r ∙ sym s ∙ q))
      one a b (fresh j l q) (fresh h m r) s = let z : j ≡ h = same-result (sym q ∙ s ∙ r) in omega arith

distinct-all : (is : List Instruction) (k next stop : ℕ) (o : List Origin) → AllFit next is stop → stop ≤ length o → Distinct k next o
    → (a b : ℕ) → a < stop → b < stop → origin_at (final k is o) a ≡ origin_at (final k is o) b → a ≡ b
distinct-all [] k next stop o f l d a b la lb e = d.one a b (omega arith) (omega arith) e
distinct-all (i ∷ is) k next stop o (x, f) l d a b la lb e =
    let up : next_word next i ≤ stop = fit-up is (next_word next i) stop f in
    let size : length (after k i o) ≡ length o = length-sets o i.result (made k (result_width i)) in
    distinct-all is (suc k) (next_word next i) stop (after k i o) f (omega arith) (distinct-next k next i o x.result (omega arith) d) a b la lb e

-- the origins of an instruction's result
result-origin : (is : List Instruction) (k next stop : ℕ) (o : List Origin) (m j : ℕ) (i : Instruction) → AllFit next is stop → stop ≤ length o
    → get_elem? is m ≡ some i → j < result_width i → (origin_at (final k is o) (i.result + j) ≡ result (k + m) j) × (i.result + j < stop)
result-origin [] k next stop o m j i f l e h = let z : ◌≡◌ {A = ℕ} 0 1 = cc in absurd (omega arith)
result-origin (x ∷ is) k next stop o zero j i (g, f) l e h =
    let up : next_word next x ≤ stop = fit-up is (next_word next x) stop f in
    let r : x.result ≡ next = g.result in
    let same : x ≡ i = some_is e in
    let w : j < result_width x = subst (λ (y : Instruction). j < result_width y) (sym same) h in
    subst (λ (y : Instruction). (origin_at (final k (x ∷ is) o) (y.result + j) ≡ result (k + 0) j) × (y.result + j < stop)) same (
      final-keeps is (suc k) (next_word next x) stop (after k x o) (x.result + j) f (omega arith)
          ∙ stored-made k x.result (result_width x) o j (omega arith) w
          ∙ ap (λ (n : ℕ). result n j) (sym (add-zero k)),
      omega arith,
    )
result-origin (x ∷ is) k next stop o (suc m) j i (g, f) l e h =
    let size : length (after k x o) ≡ length o = length-sets o x.result (made k (result_width x)) in
    let (p, q) = result-origin is (suc k) (next_word next x) stop (after k x o) m j i f (omega arith) e h in
    (p ∙ ap (λ (n : ℕ). result n j) (suc-add k m ∙ sym (add-suc k m)), q)

-- what an instruction reads, by the origins at the end
reading-at : (is : List Instruction) (k next stop : ℕ) (o : List Origin) (m : ℕ) (i : Instruction) → AllFit next is stop → get_elem? is m ≡ some i
    → get_elem? (readings k is o) m ≡ some (record { instruction = i; reads = map (origin_at (final k is o)) (operand_places i) })
reading-at [] k next stop o m i f e = let z : ◌≡◌ {A = ℕ} 0 1 = cc in absurd (omega arith)
reading-at (x ∷ is) k next stop o zero i (g, f) e =
    let F = origin_at (final k (x ∷ is) o) in
    let reads : map (origin_at o) (operand_places x) ≡ map F (operand_places x) =
    own-reads F o next (λ a l. sym (final-keeps (x ∷ is) k next stop o a (g, f) l)) (takes (kind_of x.kind) x.type) x.operands g.operands in
    ap (λ (os : List Origin). some (record { instruction = x; reads = os })) reads
    ∙ ap (λ (y : Instruction). some (record { instruction = y; reads = map F (operand_places y) })) (some_is e)
reading-at (x ∷ is) k next stop o (suc m) i (g, f) e = reading-at is (suc k) (next_word next x) stop (after k x o) m i f e

pub readings-length : (is : List Instruction) (k : ℕ) (o : List Origin) → length (readings k is o) ≡ length is
readings-length [] k o = refl
readings-length (x ∷ is) k o = ap suc (readings-length is (suc k) (after k x o))

-- ---- of a whole list

module _ (b : BoardList) (f : AllFit b.arguments b.instructions b.words) where
  abbrev pub own : ℕ → Origin
  own = origin_at (own_origins b)

  up : b.arguments ≤ b.words
  up = fit-up b.instructions b.arguments b.words f

  size : length (start b.arguments b.words) ≡ b.words
  size = start-length b.arguments b.words up

  first : Distinct 0 b.arguments (start b.arguments b.words)
  first =
      record {
        old = λ a l. subst (Old 0) (sym (start-argument b.arguments b.words a l)) tt;
        one = λ a c l m e. argument_is (sym (start-argument b.arguments b.words a l) ∙ e ∙ start-argument b.arguments b.words c m);
      }
    where
      argument_is : {i j : ℕ} → argument i ≡ argument j → i ≡ j
      argument_is e = cc

  pub own-one : (a c : ℕ) → a < b.words → c < b.words → own a ≡ own c → a ≡ c
  own-one = distinct-all b.instructions 0 b.arguments b.words (start b.arguments b.words) f (omega (arith, size)) first

  all-written : Each (λ r. Each Known r.reads) (own_readings b) × AllKnown (own_origins b) b.words
  all-written =
      fit-known b.instructions b.arguments b.words 0 (start b.arguments b.words) f
      (λ a l. subst Known (sym (start-argument b.arguments b.words a l)) tt) (omega (arith, size))

  pub reads_known : Each (λ r. Each Known r.reads) (own_readings b)
  reads_known = all-written.0

  pub own-known : (a : ℕ) → a < b.words → Known (own a)
  own-known = all-written.1

  pub own-argument : (a : ℕ) → a < b.arguments → own a ≡ argument a
  own-argument a l =
      final-keeps b.instructions 0 b.arguments b.words (start b.arguments b.words) a f l ∙ start-argument b.arguments b.words a l

  module _ (m : ℕ) (i : Instruction) (e : get_elem? b.instructions m ≡ some i) where
    pub own-result : (j : ℕ) → j < result_width i → (own (i.result + j) ≡ result m j) × (i.result + j < b.words)
    own-result j h =
        let (p, q) = result-origin b.instructions 0 b.arguments b.words (start b.arguments b.words) m j i f (omega (arith, size)) e h in
        (p ∙ ap (λ (n : ℕ). result n j) (omega arith), q)

    pub own-reading : get_elem? (own_readings b) m ≡ some (record { instruction = i; reads = map own (operand_places i) })
    own-reading = reading-at b.instructions 0 b.arguments b.words (start b.arguments b.words) m i f e

  pub readings-all : length (own_readings b) ≡ length b.instructions
  readings-all = readings-length b.instructions 0 (start b.arguments b.words)
