-- What the judge of a router's list answers of a function that was found, and what it asks: the list of version 1 that stands in its array is the
-- function's own, and a list that passed the check, of version 2 and with the same counts, can be held to it.
use Prim.Native.Nat.{ℕ, ◌≤◌}
use mathlib.Core.Path.{◌≡◌, refl, ap, sym, ◌∙◌, subst}
use mathlib.Core.Bool.{Bool, true, false, ◌&&◌}
use mathlib.Core.List.{List, ◌∷◌}
use mathlib.Core.Option.{Option, none, some}
use native.Mathlib.Omega.{arith}
use lib.Dec.{eqb}
use lib.ListN.{length, take}
use lib.Seq.{sets, length-sets}
use borrow.Author.Tests.{eqb-true, eq-eqb, ne_eqb}
use Rattle.base.specs.Bytes.{Bytes, u16}
use Rattle.base.specs.Limits.{header_length, word_limit, reference_limit}
use Rattle.base.specs.Outcome.{Outcome, ok, fault, or_else}
use Rattle.base.proofs.Bools.{and-inv, and_both}
use Rattle.base.proofs.Outcomes.{takes, stops, passes, fails, some-else}
use Rattle.base.proofs.Stores.{front}
use Rattle.ports.specs.Ports.{widths}
use Rattle.graph.specs.Sound.{AllSound}
use Rattle.bytecode.specs.declared.Version.{Version}
use Rattle.bytecode.specs.declared.Version.TheVariants.{V1, V2}
use Rattle.bytecode.specs.Version.{number}
use Rattle.bytecode.specs.Run.{BoardList, places}
use Rattle.bytecode.specs.Code.{decode, guard}
use Rattle.bytecode.specs.WellFormed.{Codes}
use Rattle.bytecode.proofs.Back.{decode-encode}
use Rattle.bytecode.proofs.Decoded.{well-formed}
use Rattle.lowering.specs.Answers.{compilable}
use Rattle.lowering.proofs.Limits.{laid, output-words, formed-list}
use Rattle.sums.specs.declared.Sizes.{Sizes}
use Rattle.sums.specs.Position.{function_in, before}
use Rattle.sums.proofs.CodeSizes.{function-instructions}
use Rattle.runner.specs.declared.Counts.{Counts}
use Rattle.runner.specs.Checks.{counts_of, checked_of}
use Rattle.runner.proofs.Decoding.{is-formed, is-malformed, decoded}
use Rattle.compiler.specs.Sizes.{order_limit}
use Rattle.compiler.specs.Whole.{code_at, Measured, source_at}
use Rattle.validator.specs.Judge.{same_counts}
use Rattle.validator.specs.Sizes.{list_limit}
use Rattle.validator.specs.Tests.{followed_in, Judgeable}
use Rattle.std.specs.Prelude.{Some, None, Result, Ok}
use Rattle.base.specs.Refusals.{outcome}
use Rattle.base.specs.declared.refusal.Refusal.{Refusal}
use Rattle.quetlapin.specs.declared.lookup.Found.{Found}
use Rattle.validator.proofs.Length.{own-length}
use Rattle.validator.proofs.Standing.{codes-decoded, version-at}
use Rattle.acceptance.specs.Answers.{proposed, judged_placement}
use Rattle.acceptance.specs.Promise.{Promise}
use Rattle.acceptance.proofs.Promised.{promised}
use Rattle.quetlapin.specs.Measures.{exact_sizes, job_at, ReadyAt}
use Rattle.quetlapin.specs.Judging.{Ready, judged_at, counts_alike, Comparable}
use Rattle.quetlapin.proofs.Evaluating.{is-done}
use Rattle.quetlapin.proofs.Compiling.{sound, code_is, words_are, measured}

guard_none : (t : Bool) → guard {A = BoardList} t none ≡ none
unfolding guard
guard_none true = refl
guard_none false = refl

-- a well-formed list has no more words than the limit
pub words-low : {s : List ℕ} {k : ℕ} {code numbers : List ℕ} {words : ℕ} → Comparable s k code numbers words → words ≤ word_limit
words-low c = omega (arith, c.words_are, c.codes.formed.words)

-- ---- the function's own list

module _ {s : List ℕ} {g : Found} (ready : Ready s g) where
  abbrev r : ReadyAt s ready.0 g
  r = ready.1

  abbrev own : AllSound (function_in s g.position ∷ before s g.position)
  own = sound s ready.0 g r

  abbrev b : BoardList
  b = source_at s g.position

  pub counts-are : (g.sizes.arguments ≡ b.arguments) × (g.sizes.outputs ≡ length b.outputs) × (g.sizes.instructions ≡ length b.instructions)
  unfolding exact_sizes
  counts-are =
      let e = r.sizes in
      let f = function_in s g.position in (
        ap (λ (x : Sizes). x.arguments) e,
        ap (λ (x : Sizes). x.outputs) e ∙ sym (output-words (before s g.position) f own),
        ap (λ (x : Sizes). x.instructions) e ∙ sym (function-instructions widths (before s g.position) f own (places 0 f.inputs) (widths f.inputs)),
      )

  own-codes : Codes V1 (code_at s g.position) b
  unfolding exact_sizes
  own-codes =
      let o = ap (λ (x : Sizes). x.operations) r.sizes in
      let w = ap (λ (x : Sizes). x.words) r.sizes in
      let lo = r.few-operations in
      let lw = r.few_words in
      record { formed = formed-list (before s g.position) (function_in s g.position) own (omega arith) (omega arith); bytes = refl }

  -- it fits the array
  pub list-fits : length (code_at s g.position) ≤ list_limit
  list-fits =
      let f = own-codes.formed in
      own-length b (laid (before s g.position) (function_in s g.position) own).0 f.count f.words f.outputs

  -- what its writing asks
  pub writable : (list : List ℕ) → length list ≡ list_limit
      → Measured V1 s g.position g.sizes.instructions g.sizes.arguments g.sizes.outputs × (g.sizes.words ≡ b.words) × (g.sizes.words ≤ word_limit) × (length (code_at s g.position) ≤ length list)
  writable list l = (
    measured s ready.0 g r,
    words_are s ready.0 g r,
    r.few_words,
    (let h = list-fits in omega arith),
  )

  pub code-there : (list : List ℕ) → length list ≡ list_limit → {list' : List ℕ} → list' ≡ sets list 0 (code_at s g.position) → g.sizes.code ≤ length list'
  code-there list l e =
      let n = code_is s ready.0 g r in
      let h = list-fits in
      let q = ap length e ∙ length-sets list 0 (code_at s g.position) in
      omega arith

  -- what is handed to the judge are its bytes
  pub list_written : (list : List ℕ) → length list ≡ list_limit → {list' : List ℕ} → list' ≡ sets list 0 (code_at s g.position) → take g.sizes.code list' ≡ code_at s g.position
  list_written list l {list'} e =
      ap (λ (n : ℕ). take n list') (code_is s ready.0 g r) ∙ ap (take (length (code_at s g.position))) e
      ∙ front list (code_at s g.position) (let h = list-fits in omega arith)

  module _ {code numbers : List ℕ} {total : ℕ} (c : Comparable s g.position code numbers total) where
    pub judgeable : {ours : List ℕ} (order locations : List ℕ) → ours ≡ code_at s g.position → length order ≡ order_limit → length locations ≡ reference_limit
        → Judgeable ours code numbers g.sizes.arguments g.sizes.outputs g.sizes.instructions total (length order) (length locations)
    judgeable order locations e lo ll =
        let (a, o, i) = counts-are in
        let few = own-codes.formed.count in
        record {
          list = b;
          proposed = c.list;
          own = subst (λ (xs : List ℕ). Codes V1 xs b) (sym e) own-codes;
          fit = (laid (before s g.position) (function_in s g.position) own).0;
          theirs = c.codes;
          counted = c.counted;
          arguments-is = a;
          outputs-is = o;
          count-is = i;
          total-is = c.words_are;
          index-room = omega arith;
          words-room = omega arith;
        }

    -- what it answers is the answer of the definition
    pub judged-counted : {ours : List ℕ} → ours ≡ code_at s g.position → followed_in (decode ours) (decode code) numbers ≡ judged_at s g.position code numbers
    unfolding judged_at followed_in guard
    judged-counted e =
        let q = c.counted in
        let same : same_counts b c.list numbers ≡ true =
        and_both _ _ (and_both _ _ (and_both _ _ (eq-eqb _ _ q.arguments) (eq-eqb _ _ q.outputs)) (eq-eqb _ _ q.instructions)) (eq-eqb _ _ q.numbered) in
        let theirs : decode code ≡ some c.list = codes-decoded V2 code c.list c.codes in
        let here : proposed code ≡ some c.list = ap (λ (n : ℕ). guard (eqb n 2) (decode code)) (version-at V2 code c.list c.codes) ∙ theirs in
        let ours : decode _ ≡ some b = ap decode e ∙ decode-encode V1 b own-codes.formed in
        ap (λ (o : Option BoardList). followed_in o (decode code) numbers) ours
        ∙ ap (λ (o : Option BoardList). followed_in (some b) o numbers) theirs
        ∙ sym (takes (or_else (proposed code) 18 0) _ c.list (some-else _ _ here) ∙ passes (same_counts b c.list numbers) 33 0 _ same)

  -- ---- refusals

  module _ (code numbers : List ℕ) where
    no-list : proposed code ≡ none → fault 18 0 ≡ judged_at s g.position code numbers
    unfolding judged_at
    no-list e = sym (stops (or_else (proposed code) 18 0) _ 18 0 (ap (λ (o : Option BoardList). or_else o 18 0) e))

    pub malformed : checked_of (decode code) ≡ None → fault 18 0 ≡ judged_at s g.position code numbers
    unfolding guard
    malformed e = no-list (ap (guard (eqb (u16 code 3) 2)) (is-malformed (decode code) e) ∙ guard_none (eqb (u16 code 3) 2))

    pub other-version : {v : ℕ} → v ≡ u16 code 3 → (v ≡ 2 → ⊥) → fault 18 0 ≡ judged_at s g.position code numbers
    unfolding guard
    other-version e n = no-list (ap (λ (t : Bool). guard t (decode code)) (ne_eqb (u16 code 3) 2 (λ q. n (e ∙ q))))

    module _ (small : Bytes code) {counts : Counts} (formed : checked_of (decode code) ≡ Some counts) where
      abbrev x : BoardList
      x = (is-formed (decode code) counts formed).0

      read : decode code ≡ some x
      read = (is-formed (decode code) counts formed).1

      counts-read : counts_of x ≡ counts
      counts-read = (is-formed (decode code) counts formed).2

      pub header-there : header_length ≤ length code
      header-there = (decoded code counts formed).long

      module _ {v : ℕ} (e : v ≡ u16 code 3) (two : v ≡ 2) where
        codes : Codes V2 code x
        codes = let (w, q) = (well-formed code small x).0 read in pick w q (sym (version-at w code x q) ∙ sym e ∙ two)
          where
            pick : (w : Version) → Codes w code x → number w ≡ 2 → Codes V2 code x
            pick V1 q n = absurd (omega arith)
            pick V2 q n = q

        here : proposed code ≡ some x
        unfolding guard
        here = ap (λ (t : Bool). guard t (decode code)) (eq-eqb (u16 code 3) 2 (sym e ∙ two)) ∙ read

        -- the tests of the code are the definition's
        counts_same : counts_alike counts g.sizes (length numbers) ≡ same_counts b x numbers
        counts_same =
            let (a, o, i) = counts-are in
            ap (λ (c : Counts). counts_alike c g.sizes (length numbers)) (sym counts-read) ∙ rw (a, o, i)

        pub other-counts : counts_alike counts g.sizes (length numbers) ≡ false → fault 33 0 ≡ judged_at s g.position code numbers
        unfolding judged_at
        other-counts t =
            sym (takes (or_else (proposed code) 18 0) _ x (some-else _ _ here) ∙ fails (same_counts b x numbers) 33 0 _ (sym counts_same ∙ t))

        pub comparable : counts_alike counts g.sizes (length numbers) ≡ true → Comparable s g.position code numbers counts.words
        comparable t =
            let t0 : same_counts b x numbers ≡ true = sym counts_same ∙ t in
            let (t1, n) = and-inv (eqb x.arguments b.arguments && eqb (length x.outputs) (length b.outputs) && eqb (length x.instructions) (length b.instructions))
            (eqb (length numbers) (length b.instructions)) t0 in
            let (t2, i) = and-inv (eqb x.arguments b.arguments && eqb (length x.outputs) (length b.outputs)) (eqb (length x.instructions) (length b.instructions)) t1 in
            let (a, o) = and-inv (eqb x.arguments b.arguments) (eqb (length x.outputs) (length b.outputs)) t2 in
            record {
              list = x;
              codes = codes;
              counted = record { arguments = eqb-true _ _ a; outputs = eqb-true _ _ o; instructions = eqb-true _ _ i; numbered = eqb-true _ _ n };
              words_are = ap (λ (c : Counts). c.words) (sym counts-read);
            }

-- ---- the whole

module _ (s : List ℕ) (c : ℕ) (code numbers : List ℕ) where
  pub judged-refused : {n p : ℕ} → compilable s c 1 ≡ fault n p → fault n p ≡ judged_placement s c code numbers
  unfolding judged_placement
  judged-refused {n} {p} e = sym (stops (compilable s c 1) _ n p e)

  -- an answer that is this one says all that is promised
  pub judged-promised : Bytes s → Bytes code → (r : Result ℕ Refusal) → outcome r ≡ judged_placement s c code numbers
      → Promise (λ n. r ≡ Ok n) (λ n p. outcome r ≡ fault n p) s c code numbers
  judged-promised small small' r e =
      promised s c code numbers small small'
      (λ n. (λ q. sym e ∙ ap outcome q, λ q. is-done r (e ∙ q)))
      (λ n p. (λ q. sym e ∙ q, λ q. e ∙ q))

pub judged-found : {s : List ℕ} {c : ℕ} {g : Found} → ReadyAt s c g → (code numbers : List ℕ)
    → judged_at s g.position code numbers ≡ judged_placement s c code numbers
unfolding judged_at judged_placement
judged-found {s} {c} {g = g} r code numbers = sym (takes (compilable s c 1) _ (job_at V1 s g.position) r.compilable)
