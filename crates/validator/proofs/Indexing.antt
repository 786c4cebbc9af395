-- What the index and the record say before the first instruction: each number's instruction stands at twice its entry, its result has the word that
-- is noted, arguments hold themselves, and the other words nothing.
use Prim.Native.Nat.{ℕ, zero, suc, ◌+◌, ◌-◌, ◌*◌, ◌/◌, ◌%◌, ◌≤◌, ◌<◌}
use mathlib.Core.Path.{◌≡◌, refl, ap, ap₂, sym, ◌∙◌, subst}
use mathlib.Core.List.{List, [], ◌∷◌, map}
use mathlib.Core.Option.{some}
use mathlib.Core.Logic.{◌⊎◌, inl, inr}
use native.Mathlib.Omega.{arith}
use lib.ListN.{length, get_or, get_elem?, replicate, length-append, length-replicate, get_or-append}
use lib.Seq.{sets, length-sets, get_or-append-add}
use Rattle.ports.specs.Kinds.{kind_of}
use Rattle.ports.specs.Ports.{ports_of, result_words}
use Rattle.ports.proofs.Laws.{words-given}
use Rattle.base.specs.Bytes.{byte}
use Rattle.base.specs.Limits.{address_limit, header_length, word_limit}
use Rattle.base.specs.Lists.{span}
use Rattle.base.proofs.Bools.{never}
use Rattle.base.proofs.Lists.{some_is, made-length, span-length}
use Rattle.base.proofs.Numbers.{lt-or-le}
use Rattle.base.proofs.Stores.{sets-in, sets-above, stored-in}
use Rattle.bytecode.specs.Run.{Instruction, BoardList}
use Rattle.bytecode.specs.Ranges.{Range, result_value}
use Rattle.bytecode.specs.Sequential.{next_word, AllFit}
use Rattle.bytecode.specs.declared.Version.TheVariants.{V1}
use Rattle.bytecode.specs.Code.{argument_words}
use Rattle.bytecode.specs.Origin.{Origin, unwritten, argument, origin_at, result_width, start}
use Rattle.bytecode.specs.WellFormed.{Codes}
use Rattle.bytecode.proofs.Origins.{start-argument, start-length}
use Rattle.bytecode.proofs.Sequential.{fit-up}
use Rattle.executor.specs.Execution.{end_of}
use Rattle.executor.proofs.Loop.{operands_at}
use Rattle.validator.specs.Tests.{no_word, held_at, own_end, words_at, halves, results_from, Listed, first_words}
use Rattle.validator.proofs.OneToOne.{own-argument}
use Rattle.validator.proofs.Standing.{Stands, AllStand, stand}
use Rattle.validator.proofs.Records.{Holds}
use Rattle.validator.proofs.Carrying.{own-bytes}
use Rattle.validator.proofs.Tracing.{some_below, Tracing, span-at}

-- the end of an instruction, as both say it
own-end : (s : List ℕ) (at : ℕ) → end_of (byte s at) (operands_at V1 at) ≡ own_end s at
own-end s at = omega arith

own-words : (written : List Range) (s : List ℕ) (at : ℕ) (i : Instruction) → Stands V1 written s at i → words_at s at ≡ result_width i
own-words written s at i h =
    let t = own-bytes written s at i h in
    ap₂ (λ (k y : ℕ). result_words (ports_of (kind_of k)) y) t.kind t.type ∙ words-given (kind_of i.kind) i.type

halves-length : (n : ℕ) (s : List ℕ) (at : ℕ) → length (halves n s at) ≡ n
halves-length zero s at = refl
halves-length (suc n) s at = ap suc (halves-length n s (own_end s at))

results-length : (n : ℕ) (s : List ℕ) (at w : ℕ) → length (results_from n s at w) ≡ n
results-length zero s at w = refl
results-length (suc n) s at w = ap suc (results-length n s (own_end s at) (w + words_at s at))

-- ---- where the instructions stand

pub listed : (is : List Instruction) (s : List ℕ) (at : ℕ) (written : List Range) (next stop : ℕ) → AllStand V1 s at written is → AllFit next is stop → stop < address_limit
    → Listed (length is) s at next
listed [] s at written next stop h f l = tt
listed (i ∷ is) s at written next stop (x, h) (g, f) l =
    let up : next_word next i ≤ stop = fit-up is (next_word next i) stop f in
    let e = own-end s at in
    let w = own-words written s at i x in
    let rest = listed is s (end_of (byte s at) (operands_at V1 at)) (result_value i ∷ written) (next_word next i) stop h f l in
    let fits = x.fits in (
      omega arith,
      omega arith,
      subst (λ (q : ℕ). Listed (length is) s q (next + words_at s at)) e (subst (λ (q : ℕ). Listed (length is) s (end_of (byte s at) (operands_at V1 at)) (next + q)) (sym w) rest),
    )

half_at : (is : List Instruction) (s : List ℕ) (at : ℕ) (written : List Range) (m : ℕ) (i : Instruction) → AllStand V1 s at written is → at % 2 ≡ 0 → 2 ≤ at
    → get_elem? is m ≡ some i → (w : List Range) × Stands V1 w s (2 * get_or (halves (length is) s at) m 0) i × (1 ≤ get_or (halves (length is) s at) m 0)
half_at [] s at written m i h even l e = let z : ◌≡◌ {A = ℕ} 0 1 = cc in absurd (omega arith)
half_at (x ∷ is) s at written zero i (here, h) even l e =
    let twice : at ≡ 2 * (at / 2) = omega arith in
    (written, subst (λ (q : ℕ). Stands V1 written s q i) twice (subst (λ (y : Instruction). Stands V1 written s at y) (some_is e) here), omega arith)
half_at (x ∷ is) s at written (suc m) i (here, h) even l e =
    let q = own-end s at in
    half_at is s (own_end s at) (result_value x ∷ written) m i (subst (λ (p : ℕ). AllStand V1 s p (result_value x ∷ written) is) q h) (omega arith) (omega arith) e

result-at : (is : List Instruction) (s : List ℕ) (at : ℕ) (written : List Range) (next stop m : ℕ) (i : Instruction) → AllStand V1 s at written is → AllFit next is stop
    → get_elem? is m ≡ some i → get_or (results_from (length is) s at next) m 0 ≡ i.result
result-at [] s at written next stop m i h f e = let z : ◌≡◌ {A = ℕ} 0 1 = cc in absurd (omega arith)
result-at (x ∷ is) s at written next stop zero i (here, h) (g, f) e = sym g.result ∙ ap (λ (y : Instruction). y.result) (some_is e)
result-at (x ∷ is) s at written next stop (suc m) i (here, h) (g, f) e =
    let q = own-end s at in
    let w = own-words written s at x here in
    ap (λ (n : ℕ). get_or (results_from (length is) s (own_end s at) (next + n)) m 0) w
    ∙ result-at is s (own_end s at) (result_value x ∷ written) (next_word next x) stop m i (subst (λ (p : ℕ). AllStand V1 s p (result_value x ∷ written) is) q h) f e

-- ---- what the words hold

nothing-there : (n j : ℕ) → get_or (replicate n unwritten) j unwritten ≡ unwritten
nothing-there zero j = refl
nothing-there (suc n) zero = refl
nothing-there (suc n) (suc j) = nothing-there n j

start-nothing : (n w a : ℕ) → n ≤ a → origin_at (start n w) a ≡ unwritten
start-nothing n w a h =
    let front = map argument (span 0 n) in
    let l : length front ≡ n = made-length Origin argument n 0 in
    let e : a ≡ length front + (a - n) = omega arith in
    ap (origin_at (start n w)) e ∙ get_or-append-add front (replicate (w - n) unwritten) (a - n) unwritten ∙ nothing-there (w - n) (a - n)

none-held : (n j : ℕ) → get_or (replicate n no_word) j no_word ≡ no_word
none-held zero j = refl
none-held (suc n) zero = refl
none-held (suc n) (suc j) = none-held n j

first-length : (n rest : ℕ) → length (first_words n rest) ≡ n + rest
first-length n rest =
    length-append (span 0 n) (replicate rest no_word) ∙ ap₂ ◌+◌ (span-length 0 n) (length-replicate rest no_word)

first-argument : (n rest a : ℕ) → a < n → get_or (first_words n rest) a no_word ≡ a
first-argument n rest a l =
    let size = span-length 0 n in
    get_or-append (span 0 n) (replicate rest no_word) no_word a (omega arith) ∙ span-at n 0 a no_word l ∙ omega arith

first-nothing : (n rest a : ℕ) → n ≤ a → get_or (first_words n rest) a no_word ≡ no_word
first-nothing n rest a l =
    let size = span-length 0 n in
    let e : a ≡ length (span 0 n) + (a - n) = omega arith in
    ap (λ (q : ℕ). get_or (first_words n rest) q no_word) e ∙ get_or-append-add (span 0 n) (replicate rest no_word) (a - n) no_word ∙ none-held rest (a - n)

-- ---- together

module _ (b : BoardList) (f : AllFit b.arguments b.instructions b.words) (few : b.words ≤ word_limit) (ours : List ℕ) (c : Codes V1 ours b) where
  abbrev count : ℕ
  count = length b.instructions

  pub all_listed : Listed count ours header_length b.arguments
  all_listed = listed b.instructions ours header_length (argument_words b.arguments) b.arguments b.words (stand V1 ours b c) f (omega arith)

  module _ (total : ℕ) (up : b.arguments ≤ total) (most : total ≤ word_limit) (index₀ words₀ : List ℕ) (ix : count ≤ length index₀) (wx : word_limit + count ≤ length words₀) where
    abbrev pub first_index : List ℕ
    first_index = sets index₀ 0 (halves count ours header_length)

    abbrev noted : List ℕ
    noted = sets words₀ word_limit (results_from count ours header_length b.arguments)

    abbrev pub first_record : List ℕ
    first_record = sets noted 0 (first_words b.arguments (total - b.arguments))

    noted-length : length noted ≡ length words₀
    noted-length = length-sets words₀ word_limit (results_from count ours header_length b.arguments)

    half : (m : ℕ) → m < count → get_or first_index m 0 ≡ get_or (halves count ours header_length) m 0
    half m l =
        let size = halves-length count ours header_length in
        let z : m ≡ 0 + m = omega arith in
        ap (λ (q : ℕ). get_or first_index q 0) z ∙ sets-in (halves count ours header_length) index₀ 0 m (omega arith) (omega arith)

    holds : (a : ℕ) → a < total → (a < b.arguments) ⊎ (b.arguments ≤ a) → Holds b f few (origin_at (start b.arguments total) a) (held_at first_record a)
    holds a l x =
        let size = first-length b.arguments (total - b.arguments) in
        let z : a ≡ 0 + a = omega arith in
        let e : held_at first_record a ≡ get_or (first_words b.arguments (total - b.arguments)) a no_word =
        ap (held_at first_record) z ∙ stored-in no_word (first_words b.arguments (total - b.arguments)) noted 0 a (omega (arith, noted-length)) (omega arith) in
        subst (Holds b f few (origin_at (start b.arguments total) a)) (sym e) (pick x)
      where
        pick : (a < b.arguments) ⊎ (b.arguments ≤ a) → Holds b f few (origin_at (start b.arguments total) a) (get_or (first_words b.arguments (total - b.arguments)) a no_word)
        pick (inl y) =
            let up : b.arguments ≤ b.words = fit-up b.instructions b.arguments b.words f in
            subst (Holds b f few (origin_at (start b.arguments total) a)) (sym (first-argument b.arguments (total - b.arguments) a y))
            (inr (omega arith, start-argument b.arguments total a y ∙ sym (own-argument b f a y)))
        pick (inr y) = inl (start-nothing b.arguments total a y, first-nothing b.arguments (total - b.arguments) a y)

    pub tracing-first : Tracing b f few ours [] (start b.arguments total) first_index first_record
    tracing-first =
        let size = start-length b.arguments total up in
        let first = first-length b.arguments (total - b.arguments) in
        let results = results-length count ours header_length b.arguments in
        let placed = stand V1 ours b c in
        record {
          fresh = λ m i e u.
              subst (λ (q : ℕ). (w : List Range) × Stands V1 w ours (2 * q) i × (1 ≤ q)) (sym (half m (some_below b.instructions m i e)))
              (half_at b.instructions ours header_length (argument_words b.arguments) m i placed (omega arith) (omega arith) e);
          taken = λ m u. never u;
          results = λ m i e.
              let l = some_below b.instructions m i e in
              sets-above (first_words b.arguments (total - b.arguments)) noted 0 (word_limit + m) (omega (arith, first))
              ∙ sets-in (results_from count ours header_length b.arguments) words₀ word_limit m (omega (arith, results)) (omega (arith, results))
              ∙ result-at b.instructions ours header_length (argument_words b.arguments) b.arguments b.words m i placed f e;
          traced = λ a l. holds a (omega (arith, size, l)) (lt-or-le a b.arguments);
          indexed = omega (arith, length-sets index₀ 0 (halves count ours header_length));
          room = omega (arith, length-sets noted 0 (first_words b.arguments (total - b.arguments)), noted-length);
          size = omega (arith, size);
        }
