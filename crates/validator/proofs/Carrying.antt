-- One instruction of the proposed list beside the instruction of version 1 that it carries out: the test on bytes and record is the definition's test.
use Prim.Native.Nat.{ℕ, zero, suc, ◌+◌, ◌≤◌}
use mathlib.Core.Path.{◌≡◌, refl, ap, ap₂, sym, ◌∙◌, subst}
use mathlib.Core.Bool.{Bool, true, false, ◌&&◌}
use mathlib.Core.List.{List, [], ◌∷◌, map}
use mathlib.Core.Option.{some}
use native.Mathlib.Omega.{arith}
use lib.Dec.{eqb, leb}
use lib.ListN.{length, get_elem?}
use borrow.Author.Tests.{eqb-true, leb-true}
use Rattle.ports.specs.Kinds.{kind_of}
use Rattle.ports.specs.Ports.{width, takes, arity}
use Rattle.ports.proofs.Laws.{length-takes}
use Rattle.base.specs.Bytes.{byte, u16}
use Rattle.base.specs.Limits.{word_limit}
use Rattle.base.proofs.Bools.{and-inv}
use Rattle.base.proofs.Lists.{some_is}
use Rattle.bytecode.specs.Run.{Instruction, BoardList, spans}
use Rattle.bytecode.specs.Ranges.{Range, behind}
use Rattle.bytecode.specs.Sequential.{next_word, Below, AllFit}
use Rattle.bytecode.specs.declared.Version.TheVariants.{V1, V2}
use Rattle.bytecode.specs.Code.{addresses}
use Rattle.bytecode.specs.Origin.{Origin, operand_places, origins, Reading}
use Rattle.bytecode.proofs.Decoded.{addresses-length}
use Rattle.bytecode.proofs.Sequential.{fit-up}
use Rattle.executor.specs.Execution.{instruction_at}
use Rattle.executor.proofs.Loop.{operands_at}
use Rattle.runner.specs.Checks.{all_below}
use Rattle.runner.proofs.Reading.{reads-below}
use Rattle.validator.specs.Judge.{same_origin, alike, carries_out}
use Rattle.validator.specs.Tests.{held_operands, operands_of, constants_of, carried_at}
use Rattle.validator.proofs.OneToOne.{own}
use Rattle.validator.proofs.Standing.{Stands}
use Rattle.validator.proofs.Records.{Traced, held-operands}

-- ---- what stands at a place

-- where the operands stand, its kind, type, operands and constants
pub record Bytes (s : List ℕ) (at from : ℕ) (i : Instruction) : Type 0 where
  pub kind : byte s at ≡ i.kind
  pub type : byte s (at + 1) ≡ i.type
  pub operands : operands_of i.kind s from ≡ i.operands
  pub constants : constants_of i.kind s from ≡ i.constants

bytes_of : (s : List ℕ) (at from result : ℕ) (i : Instruction) → instruction_at (byte s at) (byte s (at + 1)) s from result ≡ i → Bytes s at from i
bytes_of s at from result i e =
    let k : byte s at ≡ i.kind = ap (λ (x : Instruction). x.kind) e in
    record {
      kind = k;
      type = ap (λ (x : Instruction). x.type) e;
      operands = ap (λ (n : ℕ). operands_of n s from) (sym k) ∙ ap (λ (x : Instruction). x.operands) e;
      constants = ap (λ (n : ℕ). constants_of n s from) (sym k) ∙ ap (λ (x : Instruction). x.constants) e;
    }

pub own-bytes : (written : List Range) (s : List ℕ) (at : ℕ) (i : Instruction) → Stands V1 written s at i → Bytes s at (at + 2) i
own-bytes written s at i h =
    let e : operands_at V1 at ≡ at + 2 = omega arith in
    subst (λ (n : ℕ). Bytes s at n i) e (bytes_of s at (operands_at V1 at) _ i h.is)

pub their-bytes : (written : List Range) (s : List ℕ) (at : ℕ) (i : Instruction) → Stands V2 written s at i → Bytes s at (at + 4) i
their-bytes written s at i h =
    let e : operands_at V2 at ≡ at + 4 = omega arith in
    subst (λ (n : ℕ). Bytes s at n i) e (bytes_of s at (operands_at V2 at) _ i h.is)

-- the address of the result
pub their-result : (written : List Range) (s : List ℕ) (at : ℕ) (i : Instruction) → Stands V2 written s at i → u16 s (at + 2) ≡ i.result
their-result written s at i h = ap (λ (x : Instruction). x.result) h.is

-- ---- words below a bound

below_up : (n m : ℕ) (ts xs : List ℕ) → n ≤ m → Below n ts xs → Below m ts xs
below_up n m [] [] l h = tt
below_up n m [] (x ∷ xs) l h = absurd h
below_up n m (t ∷ ts) [] l h = absurd h
below_up n m (t ∷ ts) (x ∷ xs) l (p, h) = (omega arith, below_up n m ts xs l h)

all-below : (n : ℕ) (ts xs : List ℕ) → length xs ≡ length ts → all_below n ts xs ≡ true → Below n ts xs
all-below n [] [] l e = tt
all-below n [] (x ∷ xs) l e = absurd (omega arith)
all-below n (t ∷ ts) [] l e = absurd (omega arith)
all-below n (t ∷ ts) (x ∷ xs) l e =
    let (p, q) = and-inv (leb (x + width t) n) (all_below n ts xs) e in
    (leb-true _ _ p, all-below n ts xs (omega arith) q)

-- version 1's operands stand before its words' end
own_below : (is : List Instruction) (next stop m : ℕ) (i : Instruction) → AllFit next is stop → get_elem? is m ≡ some i
    → Below stop (takes (kind_of i.kind) i.type) i.operands
own_below [] next stop m i f e = let z : ◌≡◌ {A = ℕ} 0 1 = cc in absurd (omega arith)
own_below (x ∷ is) next stop zero i (g, f) e =
    let up : next_word next x ≤ stop = fit-up is (next_word next x) stop f in
    subst (λ (y : Instruction). Below stop (takes (kind_of y.kind) y.type) y.operands) (some_is e)
    (below_up next stop (takes (kind_of x.kind) x.type) x.operands (omega arith) g.operands)
own_below (x ∷ is) next stop (suc m) i (g, f) e = own_below is (next_word next x) stop m i f e

-- those of the proposed list before the word behind all that are written
their-below : (written : List Range) (s : List ℕ) (at n : ℕ) (i : Instruction) → Stands V2 written s at i → behind written ≤ n
    → Below n (takes (kind_of i.kind) i.type) i.operands
their-below written s at n i h l =
    let k = kind_of (byte s at) in
    let ts = takes k (byte s (at + 1)) in
    let xs = addresses (arity k) s (operands_at V2 at) in
    subst (λ (y : Instruction). Below n (takes (kind_of y.kind) y.type) y.operands) h.is
    (below_up (behind written) n ts xs l
    (all-below (behind written) ts xs (addresses-length (arity k) s (operands_at V2 at) ∙ sym (length-takes k (byte s (at + 1)))) (reads-below V2 written ts xs h.reads)))

-- ---- the test

module _ (b : BoardList) (f : AllFit b.arguments b.instructions b.words) (few : b.words ≤ word_limit) where
  -- what version 1's instruction i reads
  abbrev pub reading_of : Instruction → Reading
  reading_of i = record { instruction = i; reads = map (own b f) (operand_places i) }

  module _ (ours : List ℕ) (from : ℕ) (code : List ℕ) (at : ℕ) (o : List Origin) (words : List ℕ) (t : Traced b f few o words) where
    pub carried-is : (m : ℕ) (i i' : Instruction) → get_elem? b.instructions m ≡ some i → (written : List Range) → Stands V1 written ours from i
        → (written' : List Range) → Stands V2 written' code at i' → behind written' ≤ length o
        → carried_at ours from code at words ≡ carries_out o i' (some (reading_of i))
    unfolding carried_at
    carried-is m i i' e written h written' h' l =
        let own-b = own-bytes written ours from i h in
        let their-b = their-bytes written' code at i' h' in
        by (byte code at) (byte ours from) (byte code (at + 1)) (byte ours (from + 1)) their-b.kind own-b.kind their-b.type own-b.type
        (eqb i'.kind i.kind) refl (eqb i'.type i.type) refl
      where
        test : Bool → Bool → ℕ → ℕ → Bool
        test p q k y =
            p && q && alike eqb (constants_of k code (at + 4)) (constants_of k ours (from + 2))
            && held_operands words (takes (kind_of k) y) (operands_of k ours (from + 2)) (operands_of k code (at + 4))

        -- where kind and type are the same, operands and constants are read alike
        same : eqb i'.kind i.kind ≡ true → eqb i'.type i.type ≡ true
            → alike eqb (constants_of i'.kind code (at + 4)) (constants_of i'.kind ours (from + 2))
            && held_operands words (takes (kind_of i'.kind) i'.type) (operands_of i'.kind ours (from + 2)) (operands_of i'.kind code (at + 4))
            ≡ alike eqb i'.constants i.constants && alike same_origin (origins i' o) (map (own b f) (operand_places i))
        same p q =
            let own-b = own-bytes written ours from i h in
            let their-b = their-bytes written' code at i' h' in
            let k : i'.kind ≡ i.kind = eqb-true _ _ p in
            let y : i'.type ≡ i.type = eqb-true _ _ q in
            let ts = takes (kind_of i'.kind) i'.type in
            let types : takes (kind_of i.kind) i.type ≡ ts = ap₂ (λ (n u : ℕ). takes (kind_of n) u) (sym k) (sym y) in
            let cs : constants_of i'.kind ours (from + 2) ≡ i.constants = ap (λ (n : ℕ). constants_of n ours (from + 2)) k ∙ own-b.constants in
            let xs : operands_of i'.kind ours (from + 2) ≡ i.operands = ap (λ (n : ℕ). operands_of n ours (from + 2)) k ∙ own-b.operands in
            let places : spans ts i.operands ≡ operand_places i = ap (λ (us : List ℕ). spans us i.operands) (sym types) in
            ap₂ (λ (u v : Bool). u && v) (ap₂ (alike eqb) their-b.constants cs)
            (ap₂ (held_operands words ts) xs their-b.operands
            ∙ held-operands b f few o words t ts i.operands i'.operands
            (subst (λ (us : List ℕ). Below b.words us i.operands) types (own_below b.instructions b.arguments b.words m i f e))
            (their-below written' code at (length o) i' h' l)
            ∙ ap (λ (us : List ℕ). alike same_origin (origins i' o) (map (own b f) us)) places)

        by : (k k₁ y y₁ : ℕ) → k ≡ i'.kind → k₁ ≡ i.kind → y ≡ i'.type → y₁ ≡ i.type → (p : Bool) → eqb i'.kind i.kind ≡ p → (q : Bool)
            → eqb i'.type i.type ≡ q
            → test (eqb k k₁) (eqb y y₁) k y ≡ carries_out o i' (some (reading_of i))
        by k k₁ y y₁ ek ek₁ ey ey₁ p ep q eq =
            ap₂ (λ (u v : Bool). test u v k y) (ap₂ eqb ek ek₁ ∙ ep) (ap₂ eqb ey ey₁ ∙ eq)
            ∙ ap₂ (test p q) ek ey
            ∙ pick p ep q eq
            ∙ sym (ap₂ (λ (u v : Bool). u && v && alike eqb i'.constants i.constants && alike same_origin (origins i' o) (map (own b f) (operand_places i))) ep eq)
          where
            pick : (p : Bool) → eqb i'.kind i.kind ≡ p → (q : Bool) → eqb i'.type i.type ≡ q
                → test p q i'.kind i'.type
                ≡ p && q && alike eqb i'.constants i.constants && alike same_origin (origins i' o) (map (own b f) (operand_places i))
            pick true ep true eq = same ep eq
            pick true ep false eq = refl
            pick false ep q eq = refl
