-- An evaluation judges everything before it writes. Its refusals are those of the compiler and then of the runner, in their order: 18
-- does not arise, since the runner reads the list that the compiler wrote. Where nothing is refused both pass, and demand 3 holds.
use Prim.Native.Nat.{ℕ, suc, ◌≤◌, ◌<◌}
use mathlib.Core.Path.{◌≡◌, refl, ap, sym, ◌∙◌}
use mathlib.Core.Bool.{Bool, true, false, ◌&&◌}
use mathlib.Core.List.{List, [], ◌∷◌}
use mathlib.Core.Logic.{◌⊎◌, inl, inr}
use native.Mathlib.Omega.{arith}
use lib.Dec.{leb, eqb}
use lib.ListN.{length, take}
use lib.Seq.{sets}
use borrow.Author.Tests.{leb-true, eqb-true, le-leb, lt-leb, eq-eqb, ne_eqb}
use Rattle.ports.specs.Ports.{widths}
use Rattle.base.specs.Lists.{word_at, every, Word, Each}
use Rattle.value.specs.Values.{argument_word}
use Rattle.base.specs.Outcome.{Outcome, ok, fault, ◌>>◌, need}
use Rattle.base.specs.Bytes.{Bytes}
use Rattle.graph.specs.Graph.{Function}
use Rattle.graph.specs.Types.{output_types}
use Rattle.graph.specs.Table.{Chosen}
use Rattle.base.proofs.Bools.{and-inv, and-false}
use Rattle.base.proofs.Outcomes.{stops, passes, fails, ok-is}
use Rattle.base.proofs.Stores.{front}
use Rattle.bytecode.specs.Answers.{Buffers, ran}
use Rattle.lowering.specs.Answers as Answers
use Rattle.bytecode.specs.declared.Version.{Version}
use Rattle.bytecode.specs.declared.Version.TheVariants.{V1, V2}
use Rattle.lowering.specs.Answers.{words_of, compilable, code_of, compiled, evaluated}
use Rattle.lowering.specs.Demand3.{Within, Lent, Demand3}
use Rattle.value.proofs.Laws.{each-finite}
use Rattle.lowering.proofs.Whole.{compilable-within, leaves, with_code, run_or_refusal, evaluated-is, list-ok, evaluated-ok, demand3}
use Rattle.sums.specs.declared.Sizes.{Sizes}
use Rattle.runner.specs.Runs as runner
use Rattle.std.specs.Prelude.{Result, Ok, Err}
use Rattle.base.specs.Refusals.{outcome}
use Rattle.base.specs.declared.refusal.Refusal.{Refusal}
use Rattle.quetlapin.specs.declared.lookup.Found.{Found}
use Rattle.quetlapin.specs.Measures.{chosen_at, exact_sizes, placed_length, FoundAt, ReadyAt}
use Rattle.quetlapin.proofs.Choosing.{within-placed}
use Rattle.quetlapin.proofs.Compiling.{too_long, placed-length}
use Rattle.base.specs.Limits.{operation_limit, word_limit}
use Rattle.sums.specs.Answers.{capped_sizes}
use Rattle.quetlapin.specs.Numbers.{number_of}
use Rattle.quetlapin.specs.Answers.{answer_of, lent, code_after, work_after, out_after, Answered}

-- ---- a function that can be compiled, and its sizes

pub record Sized (s : List ℕ) (c n : ℕ) (v : Version) (size words inputs outs : ℕ) (it : Chosen) : Type 0 where
  pub found : compilable s c n ≡ ok (record { chosen = it; version = v })
  pub words_are : words ≡ words_of v it
  pub code : size ≡ length (code_of v it)
  pub arguments : inputs ≡ widths it.function.inputs
  pub outputs : outs ≡ widths (output_types it.function.outputs)

-- in version 1
pub sized : (s : List ℕ) (c : ℕ) (g : Found) → ReadyAt s c g
    → Sized s c 1 V1 g.sizes.code g.sizes.words g.sizes.arguments g.sizes.outputs (chosen_at s g.position)
unfolding exact_sizes
sized s c g r =
    record {
      found = r.compilable;
      words_are = ap (λ (z : Sizes). z.words) r.sizes;
      code = ap (λ (z : Sizes). z.code) r.sizes;
      arguments = ap (λ (z : Sizes). z.arguments) r.sizes;
      outputs = ap (λ (z : Sizes). z.outputs) r.sizes;
    }

-- in version 2
pub sized-placed :
    (s : List ℕ) (c : ℕ) (g : Found) → FoundAt s c g → g.sizes.operations ≤ operation_limit → {all : ℕ}
    → all ≡ words_of V2 (chosen_at s g.position) → all ≤ word_limit → Sized s c 2 V2 (placed_length g.sizes) all g.sizes.arguments g.sizes.outputs (chosen_at s g.position)
unfolding capped_sizes
sized-placed s c g r few ea l =
    record {
      found = within-placed s c g.position r.named g.sizes r.sizes.sizes few (omega (arith, ea, l));
      words_are = ea;
      code = placed-length s c g r few;
      arguments = ap (λ (z : Sizes). z.arguments) r.sizes.sizes;
      outputs = ap (λ (z : Sizes). z.outputs) r.sizes.sizes;
    }

each_word : (xs : List ℕ) → ((i : ℕ) → Word (word_at xs i)) → Each Word xs
each_word [] h = tt
each_word (x ∷ xs) h = (h 0, each_word xs (λ i. h (suc i)))

-- ---- tests in a row, and what comes after them

module _ {B : Type 0} where
  longer : (t u w : Bool) (d : Outcome B) (a p : ℕ) → fault a p ≡ (need t 19 0 >> (need u 20 0 >> need w 21 0)) → (need t 19 0 >> (need u 20 0 >> (need w 21 0 >> d))) ≡ fault a p
  unfolding need ◌>>◌
  longer true true true d a p e = let z : ◌≡◌ {A = ℕ} 0 1 = cc in absurd (omega arith)
  longer true true false d a p e = let x : a ≡ 21 = cc in let y : p ≡ 0 = cc in rw (x, y) refl
  longer true false w d a p e = let x : a ≡ 20 = cc in let y : p ≡ 0 = cc in rw (x, y) refl
  longer false u w d a p e = let x : a ≡ 19 = cc in let y : p ≡ 0 = cc in rw (x, y) refl

all-passed : (t u w : Bool) (i : Unit {0}) → ok i ≡ (need t 19 0 >> (need u 20 0 >> need w 21 0)) → (t ≡ true) × (u ≡ true) × (w ≡ true)
unfolding need ◌>>◌
all-passed true true true i e = (refl, refl, refl)
all-passed true true false i e = let z : ◌≡◌ {A = ℕ} 0 1 = cc in absurd (omega arith)
all-passed true false w i e = let z : ◌≡◌ {A = ℕ} 0 1 = cc in absurd (omega arith)
all-passed false u w i e = let z : ◌≡◌ {A = ℕ} 0 1 = cc in absurd (omega arith)

-- ---- the tests of what is lent

module _ (m : Sizes) (words : ℕ) (arguments : List ℕ) (work out : ℕ) where
  pub lent-19 : (length arguments ≡ m.arguments → ⊥) → fault 19 0 ≡ lent m words arguments work out
  lent-19 n = sym (fails _ 19 0 _ (ne_eqb _ _ n))

  module _ (count : length arguments ≡ m.arguments) where
    pub lent-20 : every argument_word arguments ≡ false → fault 20 0 ≡ lent m words arguments work out
    lent-20 f = sym (passes _ 19 0 _ (eq-eqb _ _ count) ∙ fails _ 20 0 _ f)

    module _ (finite : every argument_word arguments ≡ true) where
      tests-passed : (leb words work && leb m.outputs out ≡ false → fault 21 0 ≡ lent m words arguments work out)
          × (leb words work && leb m.outputs out ≡ true → ok tt ≡ lent m words arguments work out)
      unfolding need
      tests-passed =
          let h : lent m words arguments work out ≡ need (leb words work && leb m.outputs out) 21 0 = passes _ 19 0 _ (eq-eqb _ _ count) ∙ passes _ 20 0 _ finite in
          (λ e. sym (h ∙ rw e refl), λ e. sym (h ∙ rw e refl))

      pub lent-21 : (work < words) ⊎ (out < m.outputs) → fault 21 0 ≡ lent m words arguments work out
      lent-21 (inl l) = tests-passed.0 (rw (lt-leb _ _ l) refl)
      lent-21 (inr l) = tests-passed.0 (ap (λ (b : Bool). leb words work && b) (lt-leb _ _ l) ∙ and-false (leb words work))

      pub lent-went : words ≤ work → m.outputs ≤ out → ok tt ≡ lent m words arguments work out
      lent-went l l' = tests-passed.1 (rw (le-leb _ _ l, le-leb _ _ l') refl)

pub is-done : (r : Result ℕ Refusal) {k : ℕ} → outcome r ≡ ok k → r ≡ Ok k
is-done (Ok m) e = ap Ok (ok-is e)
is-done (Err x) e = let z : ◌≡◌ {A = ℕ} 0 1 = cc in absurd (omega arith)

module _ (s : List ℕ) (c n : ℕ) (arguments code work out : List ℕ) where
  -- demand 3, of every answer that is the definition's
  pub meant : (code' work' out' : List ℕ) (r : Result ℕ Refusal) → Answered (evaluated s c n arguments code work out) code work out code' work' out' (outcome r)
      → Demand3 (λ k. r ≡ Ok k) s c n arguments code work out code' work' out'
  unfolding code_after work_after out_after
  meant code' work' out' r a =
      demand3 s c n arguments code work out {Answer = λ k. r ≡ Ok k}
      (λ e q. (
        is-done r (a.answer ∙ ap answer_of q),
        a.code-after ∙ ap (λ (g : Outcome Answers.Evaluated). code_after g code) q,
        a.work-after ∙ ap (λ (g : Outcome Answers.Evaluated). work_after g work) q,
        a.out-after ∙ ap (λ (g : Outcome Answers.Evaluated). out_after g out) q,
      ))

  -- and of its number
  pub meant-number : (code' work' out' : List ℕ) {r : Result ℕ Refusal} {a : ℕ} → Demand3 (λ k. r ≡ Ok k) s c n arguments code work out code' work' out'
      → a ≡ number_of (outcome r) → Demand3 (λ k. a ≡ k) s c n arguments code work out code' work' out'
  meant-number code' work' out' d e functions v x w l =
      let m = d functions v x w l in
      record {
        answer = m.answer;
        meant = m.meant;
        size = m.size;
        count = e ∙ ap (λ (r : Result ℕ Refusal). number_of (outcome r)) m.count;
        given = m.given;
        list = m.list;
        same = m.same;
        rest = m.rest;
      }

  -- what the contract says
  abbrev pub Says : List ℕ → List ℕ → List ℕ → Outcome ℕ → Type 0
  Says code' work' out' r = Answered (evaluated s c n arguments code work out) code work out code' work' out' r

  -- ---- refusals

  refused : (a p : ℕ) → evaluated s c n arguments code work out ≡ fault a p → Says code work out (fault a p)
  unfolding code_after work_after out_after
  refused a p e = record { answer = sym (ap answer_of e); code-after = rw e; work-after = rw e; out-after = rw e }

  -- the compiler's
  pub refused-compiled : {a p : ℕ} → compiled s c n code ≡ fault a p → Says code work out (fault a p)
  unfolding evaluated
  refused-compiled {a} {p} e = refused a p (stops (compiled s c n code) _ a p e)

  pub refused-table : {a p : ℕ} → compilable s c n ≡ fault a p → Says code work out (fault a p)
  unfolding compiled
  refused-table {a} {p} e = refused-compiled (stops (compilable s c n) _ a p e)

  pub refused-17 : (v : Version) (size words inputs outs : ℕ) (x : Chosen) → Sized s c n v size words inputs outs x → length code < size → Says code work out (fault 17 0)
  refused-17 v size words inputs outs x z l = let q = z.code in refused-compiled (too_long s c n code v x z.found (omega arith))

  module _ (small : Bytes s) (v : Version) (m : Sizes) (size words : ℕ) (x : Chosen) (z : Sized s c n v size words m.arguments m.outputs x) (l17 : size ≤ length code) where
    abbrev functions : List Function
    functions = (compilable-within s c n (record { chosen = x; version = v }) small z.found).0

    abbrev w : Within s c n functions v x
    w = (compilable-within s c n (record { chosen = x; version = v }) small z.found).1

    code_fits : length (code_of v x) ≤ length code
    code_fits = let q = z.code in omega arith

    abbrev asked : Outcome (Unit {0})
    asked = lent m words arguments (length work) (length out)

    abbrev tests : Outcome (Unit {0})
    tests =
        need (eqb (length arguments) (widths x.function.inputs)) 19 0
        >> (need (every argument_word arguments) 20 0 >> need (leb (words_of v x) (length work) && leb (widths (output_types x.function.outputs)) (length out)) 21 0)

    same-tests : asked ≡ tests
    same-tests = rw (z.arguments, z.words_are, z.outputs) refl

    -- the runner's
    pub refused-lent : {a p : ℕ} → fault a p ≡ asked → Says code work out (fault a p)
    refused-lent {a} {p} e =
        refused a p
        (evaluated-is s c n functions v x w arguments code work out code_fits
        ∙ stops (run_or_refusal s c n functions v x w arguments code work out) (λ b. ok (with_code v x code b)) a p (longer _ _ _ _ a p (e ∙ same-tests)))

    -- ---- the answer

    module _ (i : Unit {0}) (went : ok i ≡ asked) (ws : (i : ℕ) → Word (word_at arguments i)) where
      passed-tests : (eqb (length arguments) (widths x.function.inputs) ≡ true) × (every argument_word arguments ≡ true)
          × (leb (words_of v x) (length work) && leb (widths (output_types x.function.outputs)) (length out) ≡ true)
      passed-tests = all-passed _ _ _ i (went ∙ same-tests)

      lends : Lent v x arguments code work out
      lends =
          let (t, u, q) = passed-tests in
          let (a, b) = and-inv (leb (words_of v x) (length work)) (leb (widths (output_types x.function.outputs)) (length out)) q in
          record {
            finite = each-finite arguments u (each_word arguments ws);
            count = eqb-true _ _ t;
            code_fits = code_fits;
            work-fits = leb-true _ _ a;
            out-fits = leb-true _ _ b;
          }

      -- the compiler takes it, and the runner the code's bytes alone
      pub completed : {code' work' out' : List ℕ} {r : Outcome ℕ} → code' ≡ sets code 0 (code_of v x)
          → runner.Answered (ran (take size code') arguments work out) work out work' out' r → Says code' work' out' r
      unfolding code_after work_after out_after runner.work_after runner.out_after
      completed {code'} {work'} {out'} {r} list er =
          let e = evaluated-ok s c n functions v x w arguments code work out lends in
          let bytes : take size code' ≡ code_of v x = ap (λ (k : ℕ). take k code') z.code ∙ ap (take (length (code_of v x))) list ∙ front code (code_of v x) code_fits in
          let runs : ran (take size code') arguments work out ≡ ok (leaves v x arguments work out) =
          ap (λ (k : List ℕ). ran k arguments work out) bytes ∙ list-ok s c n functions v x w arguments code work out lends in
          record {
            answer = er.answer ∙ ap runner.answer_of runs ∙ sym (ap answer_of e);
            code-after = list ∙ sym (ap (λ (g : Outcome Answers.Evaluated). code_after g code) e);
            work-after =
                er.work-after ∙ ap (λ (g : Outcome Buffers). runner.work_after g work) runs
                ∙ sym (ap (λ (g : Outcome Answers.Evaluated). work_after g work) e);
            out-after =
                er.out-after ∙ ap (λ (g : Outcome Buffers). runner.out_after g out) runs
                ∙ sym (ap (λ (g : Outcome Answers.Evaluated). out_after g out) e);
          }
