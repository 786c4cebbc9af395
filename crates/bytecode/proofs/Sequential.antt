-- Lists whose results follow one another: they are well formed in version 1, each instruction has room, and reads only words that are
-- written.
use Prim.Native.Nat.{ℕ, zero, suc, ◌+◌, ◌-◌, ◌≤◌, ◌<◌}
use mathlib.Core.Path.{◌≡◌, refl, ap, sym, ◌∙◌, subst}
use mathlib.Core.Bool.{Bool, true, false}
use mathlib.Core.List.{List, [], ◌∷◌, ◌++◌, map}
use native.Mathlib.Omega.{arith}
use lib.Dec.{ltb}
use lib.ListN.{length, length-append}
use lib.Seq.{length-sets}
use borrow.Author.Tests.{lt-ltb, ltb-true, ltb-false}
use Rattle.ports.specs.Kinds.{kind_of}
use Rattle.ports.specs.Ports.{width, widths, takes}
use Rattle.base.specs.Limits.{word_limit, address_limit}
use Rattle.base.specs.Lists.{span, Each}
use Rattle.base.proofs.Lists.{span-length, span_below, each_append, made_at, made-length}
use Rattle.base.proofs.Stores.{stored-below, stored-in}
use Rattle.bytecode.specs.Run.{Instruction, spans}
use Rattle.bytecode.specs.Origin.{Origin, unwritten, result, Known, origin_at, operand_places, result_width, made, after, readings, final, Roomy}
use Rattle.bytecode.specs.Ranges.{Range, behind, result_value}
use Rattle.bytecode.specs.declared.Version.TheVariants.{V1}
use Rattle.bytecode.specs.Code.{readable}
use Rattle.bytecode.specs.WellFormed.{written_by, Formed, AllFormed}
use Rattle.bytecode.specs.Sequential.{next_word, Below, Fit, AllFit}

pub below_length : (next : ℕ) (ts xs : List ℕ) → Below next ts xs → length xs ≡ length ts
below_length next [] [] h = refl
below_length next [] (x ∷ xs) h = absurd h
below_length next (t ∷ ts) [] h = absurd h
below_length next (t ∷ ts) (x ∷ xs) (l, h) = ap suc (below_length next ts xs h)

below-small : (next : ℕ) (ts xs : List ℕ) → next ≤ word_limit → Below next ts xs → Each (λ a. a < address_limit) xs
below-small next [] [] l h = tt
below-small next [] (x ∷ xs) l h = absurd h
below-small next (t ∷ ts) [] l h = absurd h
below-small next (t ∷ ts) (x ∷ xs) l (p, h) = (omega arith, below-small next ts xs l h)

-- all their words stand below, and are as many as the types have
pub spans-below : (next : ℕ) (ts at : List ℕ) → Below next ts at → Each (λ x. x < next) (spans ts at) × (length (spans ts at) ≡ widths ts)
spans-below next [] [] h = (tt, refl)
spans-below next [] (a ∷ at) h = absurd h
spans-below next (t ∷ ts) [] h = absurd h
spans-below next (t ∷ ts) (a ∷ at) (p, h) =
    let (b, c) = spans-below next ts at h in
    let d : length (span a (width t)) ≡ width t = span-length a (width t) in (
      each_append (λ x. x < next) (span a (width t)) (spans ts at) (span_below (width t) a next p) b,
      length-append (span a (width t)) (spans ts at) ∙ omega arith,
    )

pub fit-up : (is : List Instruction) (next stop : ℕ) → AllFit next is stop → next ≤ stop
fit-up [] next stop f = omega arith
fit-up (i ∷ is) next stop (a, f) = let h : next_word next i ≤ stop = fit-up is (next_word next i) stop f in omega arith

pub below-readable : (written : List Range) (next : ℕ) (xs : List ℕ) → behind written ≡ next → Each (λ a. a < next) xs → Each (λ a. readable V1 written a ≡ true) xs
below-readable written next [] e h = tt
below-readable written next (x ∷ xs) e (l, h) = (lt-ltb x (behind written) (omega arith), below-readable written next xs e h)

fit-formed : (written : List Range) (next : ℕ) (i : Instruction) → behind written ≡ next → next ≤ word_limit → Fit next i → Formed V1 written i
fit-formed written next i e l f =
    let ts = takes (kind_of i.kind) i.type in
    record {
      legal = f.legal;
      arity = below_length next ts i.operands f.operands;
      small = below-small next ts i.operands l f.operands;
      reads = below-readable written next (operand_places i) e (spans-below next ts i.operands f.operands).0;
      count = f.count;
      words = f.words;
      constants = f.constants;
      result = f.result ∙ sym e;
    }

pub all-fit-formed :
    (is : List Instruction) (written : List Range) (next stop : ℕ) → behind written ≡ next → stop ≤ word_limit → AllFit next is stop
    → AllFormed V1 written is × (behind (written_by written is) ≡ stop)
all-fit-formed [] written next stop e l f = (tt, e ∙ f)
all-fit-formed (i ∷ is) written next stop e l (a, f) =
    let up : next_word next i ≤ stop = fit-up is (next_word next i) stop f in
    let r : i.result ≡ next = a.result in
    let (g, h) = all-fit-formed is (result_value i ∷ written) (next_word next i) stop (omega arith) l f in
    ((fit-formed written next i e (omega arith) a, g), h)

-- ---- what is read is written

pub fit-roomy : (is : List Instruction) (next stop words : ℕ) → AllFit next is stop → stop ≤ words → Each (Roomy words) is
fit-roomy [] next stop words f l = tt
fit-roomy (i ∷ is) next stop words (a, f) l =
    let up : next_word next i ≤ stop = fit-up is (next_word next i) stop f in
    let e : i.result ≡ next = a.result in (
      record { legal = a.legal; count = below_length next (takes (kind_of i.kind) i.type) i.operands a.operands; room = omega arith },
      fit-roomy is (next_word next i) stop words f l,
    )

-- all words below are known
abbrev pub AllKnown : List Origin → ℕ → Type 0
AllKnown o next = (a : ℕ) → a < next → Known (origin_at o a)

module _ (o : List Origin) (next : ℕ) (h : AllKnown o next) where
  span-known : (n a : ℕ) → a + n ≤ next → Each Known (map (origin_at o) (span a n))
  span-known zero a l = tt
  span-known (suc n) a l = (h a (omega arith), span-known n (suc a) (omega arith))

  map-append : (xs ys : List ℕ) → Each Known (map (origin_at o) xs) → Each Known (map (origin_at o) ys) → Each Known (map (origin_at o) (xs ++ ys))
  map-append [] ys p q = q
  map-append (x ∷ xs) ys (k, p) q = (k, map-append xs ys p q)

  spans-known : (ts at : List ℕ) → Below next ts at → Each Known (map (origin_at o) (spans ts at))
  spans-known [] [] b = tt
  spans-known [] (a ∷ at) b = absurd b
  spans-known (t ∷ ts) [] b = absurd b
  spans-known (t ∷ ts) (a ∷ at) (l, b) = map-append (span a (width t)) (spans ts at) (span-known (width t) a l) (spans-known ts at b)

  pub all_known : (at : List ℕ) → Each (λ a. a < next) at → Each Known (map (origin_at o) at)
  all_known [] l = tt
  all_known (a ∷ at) (x, l) = (h a x, all_known at l)

known-after : (o : List Origin) (next k : ℕ) (i : Instruction) → AllKnown o next → i.result ≡ next → next_word next i ≤ length o → AllKnown (after k i o) (next_word next i)
known-after o next k i h e l a lt = pick_one (ltb a next) refl
  where
    size : length (made k (result_width i)) ≡ result_width i
    size = made-length Origin (result k) (result_width i) 0

    inside : (j : ℕ) → a ≡ i.result + j → j < result_width i → Known (origin_at (after k i o) a)
    inside j q lj =
        let p : origin_at (after k i o) (i.result + j) ≡ result k (0 + j) =
        stored-in unwritten (made k (result_width i)) o i.result j (omega (arith, size)) (omega (arith, size))
        ∙ made_at Origin unwritten (result k) (result_width i) 0 j lj in
        subst (λ (b : ℕ). Known (origin_at (after k i o) b)) (sym q) (subst Known (sym p) tt)

    pick_one : (b : Bool) → ltb a next ≡ b → Known (origin_at (after k i o) a)
    pick_one true q =
        let x : a < next = ltb-true a next q in
        subst Known (sym (stored-below unwritten (made k (result_width i)) o i.result a (omega arith))) (h a x)
    pick_one false q = let x : next ≤ a = ltb-false a next q in inside (a - i.result) (omega arith) (omega arith)

pub fit-known : (is : List Instruction) (next stop k : ℕ) (o : List Origin) → AllFit next is stop → AllKnown o next → stop ≤ length o
    → Each (λ r. Each Known r.reads) (readings k is o) × AllKnown (final k is o) stop
fit-known [] next stop k o f h l = (tt, λ a lt. h a (omega arith))
fit-known (i ∷ is) next stop k o (x, f) h l =
    let up : next_word next i ≤ stop = fit-up is (next_word next i) stop f in
    let size : length (after k i o) ≡ length o = length-sets o i.result (made k (result_width i)) in
    let (p, q) = fit-known is (next_word next i) stop (suc k) (after k i o) f (known-after o next k i h x.result (omega arith)) (omega arith) in
    ((spans-known o next h (takes (kind_of i.kind) i.type) i.operands x.operands, p), q)
