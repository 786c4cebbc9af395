-- The function of an id in a table, and what its saturated sizes say of its counts and of whether it can be compiled.
use Prim.Native.Nat.{ℕ, suc, ◌≤◌, ◌<◌, min}
use mathlib.Core.Path.{◌≡◌, refl, sym, ap, ◌∙◌, subst}
use mathlib.Core.Bool.{Bool, true, false, cond}
use mathlib.Core.List.{List}
use mathlib.Core.Option.{Option, none, some}
use native.Mathlib.Omega.{arith}
use lib.Dec.{leb, eqb}
use lib.ListN.{length}
use borrow.Author.Tests.{leb-true, le-leb, lt-leb, ne_eqb}
use Rattle.base.specs.Limits.{function_limit, operation_limit, word_limit, within_limits}
use Rattle.base.specs.Outcome.{Outcome, ok, fault, ◌>>=◌, ◌>>◌, need, or_else}
use Rattle.base.specs.Bytes.{u16}
use Rattle.base.proofs.Outcomes.{takes, stops, passes, fails, some-else}
use Rattle.graph.specs.Graph.{Function}
use Rattle.graph.specs.Judge.{table, verdict}
use Rattle.graph.specs.Sums.{function_operations, operations_of, function_words}
use Rattle.graph.specs.Table.{Chosen, chosen}
use Rattle.bytecode.specs.declared.Version.{Version}
use Rattle.bytecode.specs.declared.Version.TheVariants.{V1, V2}
use Rattle.bytecode.specs.Version.{version_of}
use Rattle.lowering.specs.Answers.{Job, words_of, within, compilable, code_of}
use Rattle.reader.specs.Layout.{function_at, earlier}
use Rattle.sums.specs.declared.Sizes.{Sizes}
use Rattle.sums.specs.CodeSums.{function_instructions, function_bytes, instructions_of, bytes_of_function}
use Rattle.sums.specs.Position.{place_of, function_in, before, position_of}
use Rattle.sums.specs.Capped.{operation_cap, word_cap, byte_cap}
use Rattle.sums.specs.Answers.{capped_sizes, sizes_of}
use Rattle.sums.proofs.Positions.{at_position, no-position}
use Rattle.sums.proofs.Accepted.{functions-are, refused-table}
use Rattle.sums.proofs.CodeLimits.{function-operations, bytes_below}
use Rattle.sums.proofs.Measuring.{leb-cap}
use Rattle.std.specs.Prelude as Rust
use Rattle.std.specs.Prelude.{Some, None}
use Rattle.std.specs.Bool.{then_some}
use Rattle.quetlapin.specs.Measures.{named, chosen_at, job_at, exact_sizes, measured_of, up_to, count_of, operation_count, word_count, code_count}

-- ---- the function of an id

chosen-one : (s : List ℕ) (m c : ℕ) → chosen c (before s (suc m)) ≡ cond (eqb (u16 s (place_of s m)) c) (some (chosen_at s m)) (chosen c (before s m))
unfolding earlier function_at
chosen-one s m c = refl

module _ (s : List ℕ) (c : ℕ) where
  module _ (n g : ℕ) (e : verdict s ≡ ok n) (eg : g ≡ position_of s n c) where
    here : named s c ≡ or_else (chosen c (before s n)) 14 0
    here = takes (table s) (λ fs. or_else (chosen c fs) 14 0) (before s n) (functions-are s n e)

    pub named-at : n ≤ function_limit → g < n → named s c ≡ ok (chosen_at s g)
    named-at few l =
        let p : chosen c (before s n) ≡ some (chosen_at s (position_of s n c)) =
        at_position s (λ fs d. chosen d fs) (λ m. some (chosen_at s m)) none (λ d. refl) (chosen-one s) n c few (subst (λ (q : ℕ). q < n) eg l) in
        here ∙ ap (λ (o : Option Chosen). or_else o 14 0) p ∙ ap (λ (m : ℕ). ok (chosen_at s m)) (sym eg)

    pub named_none : n ≤ g → named s c ≡ fault 14 0
    named_none l =
        let p : chosen c (before s n) ≡ none =
        no-position s (λ fs d. chosen d fs) (λ m. some (chosen_at s m)) none (λ d. refl) (chosen-one s) n c (subst (λ (q : ℕ). n ≤ q) eg l) in
        here ∙ ap (λ (o : Option Chosen). or_else o 14 0) p

  pub named-refused : (a b : ℕ) → verdict s ≡ fault a b → named s c ≡ fault a b
  named-refused a b e = stops (table s) (λ fs. or_else (chosen c fs) 14 0) a b (refused-table s a b e)

-- ---- 15 and 16

-- what is asked of a function that was found, in a version
abbrev pub limited : Version → Chosen → Outcome Job
limited v x =
    need (leb (function_operations (operations_of x.early) x.function) operation_limit) 15 0
    >> (need (leb (words_of v x) word_limit) 16 0 >> ok (record { chosen = x; version = v }))

within-found : (t : Outcome (List Function)) (c n : ℕ) (v : Version) (x : Chosen) → version_of n ≡ some v → (t >>= λ fs. or_else (chosen c fs) 14 0) ≡ ok x → (t >>= λ fs. within fs c n) ≡ limited v x
unfolding ◌>>=◌
within-found (ok fs) c n v x ev e = takes (or_else (chosen c fs) 14 0) _ x e ∙ takes (or_else (version_of n) 31 0) _ v (some-else _ _ ev)
within-found (fault a p) c n v x ev e = let z : ◌≡◌ {A = ℕ} 0 1 = cc in absurd (omega arith)

within-refused : (t : Outcome (List Function)) (c n a b : ℕ) → (t >>= λ fs. or_else (chosen c fs) 14 0) ≡ fault a b → (t >>= λ fs. within fs c n) ≡ fault a b
unfolding ◌>>=◌
within-refused (ok fs) c n a b e = stops (or_else (chosen c fs) 14 0) _ a b e
within-refused (fault m p) c n a b e = let x : m ≡ a = cc in let y : p ≡ b = cc in rw (x, y) refl

within-unknown : (t : Outcome (List Function)) (c n : ℕ) (x : Chosen) → version_of n ≡ none → (t >>= λ fs. or_else (chosen c fs) 14 0) ≡ ok x → (t >>= λ fs. within fs c n) ≡ fault 31 0
unfolding ◌>>=◌
within-unknown (ok fs) c n x ev e = takes (or_else (chosen c fs) 14 0) _ x e ∙ stops (or_else (version_of n) 31 0) _ 31 0 (ap (λ (o : Option Version). or_else o 31 0) ev)
within-unknown (fault a p) c n x ev e = let z : ◌≡◌ {A = ℕ} 0 1 = cc in absurd (omega arith)

pub compilable-refused : (s : List ℕ) (c n a b : ℕ) → named s c ≡ fault a b → compilable s c n ≡ fault a b
compilable-refused s c n a b e = within-refused (table s) c n a b e

pub compilable-unknown : (s : List ℕ) (c n : ℕ) (x : Chosen) → version_of n ≡ none → named s c ≡ ok x → compilable s c n ≡ fault 31 0
compilable-unknown s c n x ev e = within-unknown (table s) c n x ev e

pub unknown-number : (n : ℕ) → (n ≡ 1 → ⊥) → (n ≡ 2 → ⊥) → version_of n ≡ none
unknown-number n a b = rw (ne_eqb n 1 a, ne_eqb n 2 b) refl

pub count-refused : (g : Chosen → Rust.Option ℕ) (s : List ℕ) (c : ℕ) {a b : ℕ} → named s c ≡ fault a b → fault a b ≡ count_of g (named s c)
count-refused g s c e = ap (count_of g) (sym e)

pub measured-refused : (s : List ℕ) (c : ℕ) {a b : ℕ} → compilable s c 1 ≡ fault a b → fault a b ≡ measured_of (compilable s c 1)
measured-refused s c e = ap measured_of (sym e)

-- a count may be capped above its limit
up-to-cap : (limit n : ℕ) → up_to limit (min (suc limit) n) ≡ up_to limit n
up-to-cap limit n = by-limit (leb n limit) refl
  where
    by-limit : (b : Bool) → leb n limit ≡ b → up_to limit (min (suc limit) n) ≡ up_to limit n
    by-limit true e =
        let h : n ≤ limit = leb-true n limit e in
        let z : min (suc limit) n ≡ n = omega arith in
        ap (up_to limit) z
    by-limit false e = rw (leb-cap limit n, e)

pub up_to_fits : (limit n : ℕ) → n ≤ limit → Some n ≡ up_to limit n
up_to_fits limit n l = rw (le-leb n limit l)

pub up-to-over : (limit n : ℕ) → limit < n → None ≡ up_to limit n
up-to-over limit n l = rw (lt-leb n limit l)

module _ (s : List ℕ) (c k : ℕ) (e : named s c ≡ ok (chosen_at s k)) (m : Sizes) (em : m ≡ sizes_of s k) where
  capped-operations : m.operations ≡ min operation_cap (function_operations (operations_of (before s k)) (function_in s k))
  unfolding capped_sizes
  capped-operations = ap (λ (x : Sizes). x.operations) em

  capped-words : m.words ≡ min word_cap (function_words (before s k) (function_in s k))
  unfolding capped_sizes
  capped-words = ap (λ (x : Sizes). x.words) em

  -- the tests of the capped counts are those of the counts
  operations-test : leb m.operations operation_limit ≡ leb (function_operations (operations_of (before s k)) (function_in s k)) operation_limit
  operations-test = ap (λ (n : ℕ). leb n operation_limit) capped-operations ∙ leb-cap operation_limit (function_operations (operations_of (before s k)) (function_in s k))

  words-test : leb m.words word_limit ≡ leb (function_words (before s k) (function_in s k)) word_limit
  words-test = ap (λ (n : ℕ). leb n word_limit) capped-words ∙ leb-cap word_limit (function_words (before s k) (function_in s k))

  abbrev operations : ℕ
  operations = function_operations (operations_of (before s k)) (function_in s k)

  abbrev words : ℕ
  words = function_words (before s k) (function_in s k)

  pub over-operations : (n : ℕ) (v : Version) → version_of n ≡ some v → operation_limit < m.operations → compilable s c n ≡ fault 15 0
  over-operations n v ev l = within-found (table s) c n v (chosen_at s k) ev e ∙ fails _ 15 0 _ (sym operations-test ∙ lt-leb m.operations operation_limit l)

  module _ (l : m.operations ≤ operation_limit) where
    few : leb operations operation_limit ≡ true
    few = sym operations-test ∙ le-leb m.operations operation_limit l

    -- version 2: by the words that the placement gives
    pub over-placed : word_limit < words_of V2 (chosen_at s k) → compilable s c 2 ≡ fault 16 0
    over-placed h = within-found (table s) c 2 V2 (chosen_at s k) refl e ∙ passes _ 15 0 _ few ∙ fails _ 16 0 _ (lt-leb (words_of V2 (chosen_at s k)) word_limit h)

    pub within-placed : words_of V2 (chosen_at s k) ≤ word_limit → compilable s c 2 ≡ ok (job_at V2 s k)
    within-placed h = within-found (table s) c 2 V2 (chosen_at s k) refl e ∙ passes _ 15 0 _ few ∙ passes _ 16 0 _ (le-leb (words_of V2 (chosen_at s k)) word_limit h)

    pub over-words : word_limit < m.words → compilable s c 1 ≡ fault 16 0
    over-words h =
        within-found (table s) c 1 V1 (chosen_at s k) refl e ∙ passes _ 15 0 _ few ∙ fails _ 16 0 _ (sym words-test ∙ lt-leb m.words word_limit h)

    module _ (h : m.words ≤ word_limit) where
      short : leb words word_limit ≡ true
      short = sym words-test ∙ le-leb m.words word_limit h

      pub within-limits : compilable s c 1 ≡ ok (job_at V1 s k)
      within-limits = within-found (table s) c 1 V1 (chosen_at s k) refl e ∙ passes _ 15 0 _ few ∙ passes _ 16 0 _ short

      -- within the limits the sizes are exact
      pub exact : m ≡ exact_sizes (chosen_at s k)
      unfolding capped_sizes exact_sizes
      exact =
          let eo = capped-operations in
          let ew = capped-words in
          let i = function-operations (before s k) (function_in s k) in
          let zo : min operation_cap operations ≡ operations = omega arith in
          let zw : min word_cap words ≡ words = omega arith in
          let zi : min operation_cap (function_instructions (instructions_of (before s k)) (function_in s k)) ≡ function_instructions (instructions_of (before s k)) (function_in s k) = omega arith in
          let zb : min byte_cap (function_bytes (bytes_of_function (before s k)) (function_in s k)) ≡ function_bytes (bytes_of_function (before s k)) (function_in s k) = bytes_below (before s k) (function_in s k) (omega arith) in
          em ∙ rw (few, short, zo, zw, zi, zb)

  -- ---- the code's length

  both-test : within_limits m.operations m.words ≡ within_limits operations words
  both-test = rw (operations-test, words-test)

  pub its-code : (b : Bool) → b ≡ within_limits m.operations m.words → ok (then_some b m.code) ≡ count_of code_count (named s c)
  unfolding code_count capped_sizes
  its-code true t =
      let b : within_limits operations words ≡ true = sym both-test ∙ sym t in
      let z : m.code ≡ length (code_of V1 (chosen_at s k)) = ap (λ (x : Sizes). x.code) em ∙ rw b in
      ap (λ (n : ℕ). ok (Some n)) z ∙ sym (ap (count_of code_count) e ∙ rw b)
  its-code false t = let b : within_limits operations words ≡ false = sym both-test ∙ sym t in sym (ap (count_of code_count) e ∙ rw b)

  -- ---- each count by itself

  pub its-operations : {r : Rust.Option ℕ} → r ≡ up_to operation_limit m.operations → ok r ≡ count_of operation_count (named s c)
  unfolding operation_count
  its-operations q =
      ap ok (q ∙ ap (up_to operation_limit) capped-operations ∙ up-to-cap operation_limit (function_operations (operations_of (before s k)) (function_in s k)))
      ∙ sym (ap (count_of operation_count) e)

  pub its-words : {r : Rust.Option ℕ} → r ≡ up_to word_limit m.words → ok r ≡ count_of word_count (named s c)
  unfolding word_count
  its-words q = ap ok (q ∙ ap (up_to word_limit) capped-words ∙ up-to-cap word_limit (function_words (before s k) (function_in s k))) ∙ sym (ap (count_of word_count) e)
