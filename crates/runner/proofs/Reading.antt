-- One instruction: the check of its row, with its operands before a word, and the words that it may read, against the reading of it.
use Prim.Native.Nat.{ℕ, zero, suc, ◌+◌, ◌-◌, ◌*◌, ◌≤◌, ◌<◌}
use mathlib.Core.Path.{◌≡◌, refl, ap, sym, ◌∙◌}
use mathlib.Core.Bool.{Bool, true, false, ◌&&◌}
use mathlib.Core.List.{List, [], ◌∷◌}
use mathlib.Core.Option.{Option, none, some}
use native.Mathlib.Omega.{arith}
use borrow.Author.Tests.{le-leb, lt-ltb, leb-true}
use lib.Dec.{leb, ltb}
use lib.ListN.{length}
use Rattle.ports.specs.Kinds.{kind_of}
use Rattle.ports.specs.Ports.{width, takes, arity, constant_words, legal_instruction}
use Rattle.value.specs.Values.{constant_word}
use Rattle.base.specs.Bytes.{byte, constants}
use Rattle.base.specs.Lists.{every, span}
use Rattle.base.specs.Outcome.{Part}
use Rattle.base.proofs.Bools.{and-inv, and_both}
use Rattle.bytecode.specs.Run.{Instruction, spans}
use Rattle.bytecode.specs.Ranges.{Range, behind}
use Rattle.bytecode.specs.declared.Version.{Version}
use Rattle.bytecode.specs.declared.Version.TheVariants.{V1}
use Rattle.bytecode.specs.Code.{guard, addresses, readable, result_at, read_instruction}
use Rattle.bytecode.proofs.Readable.{readable-behind, width_some, every_append, every-span}
use Rattle.executor.specs.Execution.{instruction_at, end_of}
use Rattle.executor.proofs.Loop.{operands_at}
use Rattle.runner.specs.Checks.{all_below, all_less, marked, Recorded, operands_good}
use Rattle.runner.proofs.Marks.{both_ways, every-same}
use Rattle.executor.specs.Instructions.{version_by}

-- ---- words before the next result

-- what may be read stands before it
pub reads-below : (v : Version) (written : List Range) (ts xs : List ℕ) → every (readable v written) (spans ts xs) ≡ true → all_below (behind written) ts xs ≡ true
reads-below v written [] xs e = refl
reads-below v written (t ∷ ts) [] e = refl
reads-below v written (t ∷ ts) (a ∷ xs) e =
    let ok = readable v written in
    let (x, y) = and-inv (every ok (span a (width t))) (every ok (spans ts xs)) (sym (every_append ok (span a (width t)) (spans ts xs)) ∙ e) in
    let w : 1 ≤ width t = width_some t in
    let last : a + (width t - 1) < behind written =
    readable-behind v written (a + (width t - 1)) (every-span ok (width t) a x (a + (width t - 1)) (omega arith) (omega arith)) in
    and_both (leb (a + width t) (behind written)) (all_below (behind written) ts xs) (le-leb (a + width t) (behind written) (omega arith)) (reads-below v written ts xs y)

span_less : (n a next : ℕ) → a + n ≤ next → every (λ x. ltb x next) (span a n) ≡ true
span_less zero a next h = refl
span_less (suc n) a next h = and_both (ltb a next) (every (λ x. ltb x next) (span (suc a) n)) (lt-ltb a next (omega arith)) (span_less n (suc a) next (omega arith))

-- and version 1 asks no more
pub below-reads : (written : List Range) (ts xs : List ℕ) → all_below (behind written) ts xs ≡ true → every (readable V1 written) (spans ts xs) ≡ true
below-reads written [] xs e = refl
below-reads written (t ∷ ts) [] e = refl
below-reads written (t ∷ ts) (a ∷ xs) e =
    let ok = readable V1 written in
    let (x, y) = and-inv (leb (a + width t) (behind written)) (all_below (behind written) ts xs) e in
    every_append ok (span a (width t)) (spans ts xs)
    ∙ and_both (every ok (span a (width t))) (every ok (spans ts xs)) (span_less (width t) a (behind written) (leb-true _ _ x)) (below-reads written ts xs y)

pub less-reads : (written : List Range) (xs : List ℕ) → every (readable V1 written) xs ≡ all_less (behind written) xs
less-reads written [] = refl
less-reads written (x ∷ xs) = ap (λ (b : Bool). ltb x (behind written) && b) (less-reads written xs)

-- ---- operands that pass, against the words that may be read

below-good : (marks : List Bool) (high : ℕ) (ts xs : List ℕ) → operands_good false marks high ts xs ≡ all_below high ts xs
below-good marks high [] xs = refl
below-good marks high (t ∷ ts) [] = refl
below-good marks high (t ∷ ts) (a ∷ xs) = ap (λ (x : Bool). leb (a + width t) high && x) (below-good marks high ts xs)

written-good : (marks : List Bool) (high : ℕ) (ts xs : List ℕ) → operands_good true marks high ts xs ≡ every (marked marks) (spans ts xs)
written-good marks high [] xs = refl
written-good marks high (t ∷ ts) [] = refl
written-good marks high (t ∷ ts) (a ∷ xs) =
    ap (λ (x : Bool). every (marked marks) (span a (width t)) && x) (written-good marks high ts xs)
    ∙ sym (every_append (marked marks) (span a (width t)) (spans ts xs))

pub good-reads : (b : Bool) (written : List Range) (marks : List Bool) → Recorded b written marks → (ts xs : List ℕ)
    → operands_good b marks (behind written) ts xs ≡ every (readable (version_by b) written) (spans ts xs)
good-reads false written marks r ts xs =
    below-good marks (behind written) ts xs
    ∙ both_ways (all_below (behind written) ts xs) (every (readable V1 written) (spans ts xs)) (below-reads written ts xs) (reads-below V1 written ts xs)
good-reads true written marks r ts xs =
    written-good marks (behind written) ts xs ∙ every-same (marked marks) (readable (version_by true) written) r.is (spans ts xs)

-- ---- the reading

unless-passed : {A : Type 0} (b : Bool) (o : Option A) → (b ≡ true → o ≡ none) → guard b o ≡ none
unfolding guard
unless-passed true o f = f refl
unless-passed false o f = refl

module _ (v : Version) (written : List Range) (s : List ℕ) (at : ℕ) where
  abbrev kind : ℕ
  kind = byte s at

  abbrev type : ℕ
  type = byte s (at + 1)

  -- the words that it reads
  abbrev pub reads_of : List ℕ
  reads_of = spans (takes (kind_of kind) type) (addresses (arity (kind_of kind)) s (operands_at v at))

  abbrev pub instruction_of : Part Instruction
  instruction_of = record { it = instruction_at kind type s (operands_at v at) (result_at v s (at + 2) written); next = end_of kind (operands_at v at) }

  abbrev all_allowed : Bool
  all_allowed = every constant_word (constants (constant_words (kind_of kind)) s (operands_at v at + 2 * arity (kind_of kind)))

  pub unread :
      (at + 2 ≤ length s → legal_instruction (kind_of kind) type ≡ true → leb (end_of kind (operands_at v at)) (length s) ≡ true
      → every (readable v written) reads_of ≡ true → all_allowed ≡ true → ⊥)
      → read_instruction v written s at ≡ none
  unread f =
      unless-passed (leb (at + 2) (length s)) _
      (λ a. unless-passed (legal_instruction (kind_of kind) type) _
      (λ b. unless-passed (leb (end_of kind (operands_at v at)) (length s)) _
      (λ c. unless-passed (every (readable v written) reads_of) _
      (λ d. unless-passed all_allowed _
      (λ e. absurd (f (leb-true _ _ a) b c d e))))))

  pub is_read : at + 2 ≤ length s → legal_instruction (kind_of kind) type ≡ true → leb (end_of kind (operands_at v at)) (length s) ≡ true
      → every (readable v written) reads_of ≡ true → all_allowed ≡ true → read_instruction v written s at ≡ some instruction_of
  unfolding guard
  is_read l a b c d = rw (le-leb (at + 2) (length s) l, a, b, c, d) refl
