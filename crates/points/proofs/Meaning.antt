-- Demand 3 for each point. Every call runs the list of the function, so it gives what the graph means at its point, whatever the call before
-- left in the work buffer.
use Rattle.std.specs.Prelude.{Result, Ok, Err}
use Prim.Native.Nat.{ℕ, ◌*◌, ◌≤◌}
use mathlib.Core.Path.{◌≡◌, refl, ap, ap₂, sym, ◌∙◌, subst}
use mathlib.Core.Bool.{◌&&◌}
use mathlib.Core.List.{List, reverse}
use mathlib.Core.Option.{some}
use native.Mathlib.Omega.{arith}
use borrow.Author.Tests.{le-leb, eq-eqb}
use lib.Dec.{leb, eqb}
use lib.ListN.{length}
use lib.Seq.{sets, length-sets, take_all}
use Rattle.base.specs.Limits.{point_limit}
use Rattle.base.specs.Lists.{word_at, every, Each}
use Rattle.base.specs.Outcome.{Outcome, ok, or_else}
use Rattle.base.proofs.Bools.{and_both}
use Rattle.base.proofs.Outcomes.{takes, passes, some-else, ok-is, no-fault}
use Rattle.base.specs.declared.refusal.Refusal.{Refusal}
use Rattle.base.specs.Refusals.{number, outcome}
use Rattle.base.proofs.Stores.{front}
use Rattle.value.specs.Values.{argument_word}
use Rattle.value.specs.Typed.{Finite}
use Rattle.value.proofs.Laws.{all-finite}
use Rattle.graph.specs.Graph.{Function}
use Rattle.graph.specs.Meaning.{graph_means}
use Rattle.graph.specs.Table.{Chosen}
use Rattle.bytecode.specs.declared.Version.{Version}
use Rattle.bytecode.specs.Code.{decode}
use Rattle.bytecode.specs.Answers.{Buffers, ran}
use Rattle.bytecode.proofs.Back.{decode-encode}
use Rattle.lowering.specs.Answers.{list_of, words_of, code_of}
use Rattle.lowering.specs.Demand3.{Within, Lent}
use Rattle.lowering.proofs.Whole.{leaves, laws, fits, list-ok, means}
use Rattle.runner.specs.Runs.{answer_of, work_after, out_after, Answered}
use Rattle.points.specs.Points.{one_by_one, ran_points}
use Rattle.points.specs.Demand3.{input_words, output_words, LentPoints, Demand3Points}
use Rattle.points.proofs.Calls.{Called, AllCalled, Keeping, all-called}

module _ (s : List ℕ) (c n : ℕ) (functions : List Function) (v : Version) (x : Chosen) (w : Within s c n functions v x) where
  abbrev words : ℕ
  words = words_of v x

  abbrev Means : List ℕ → List ℕ → Type 0
  Means arguments outputs = graph_means (reverse functions) c arguments ≡ some outputs

  -- behind the list's words nothing changes
  abbrev Kept : List ℕ → List ℕ → Type 0
  Kept l m = (length m ≡ length l) × ((i : ℕ) → words ≤ i → word_at m i ≡ word_at l i)

  keeping : Keeping Kept
  keeping = record { none = λ l. (refl, λ i h. refl); both = λ l m n (p, f) (q, g). (q ∙ p, λ i h. g i h ∙ f i h); size = λ l m (p, f). p }

  call : (arguments work out : List ℕ) → length arguments ≡ input_words x → Each Finite arguments → words ≤ length work → length out ≡ output_words x
      → Called Means Kept (output_words x) (ran (code_of v x) arguments work out) arguments work
  call arguments work out l f r o =
      let lent : Lent v x arguments (code_of v x) work out = record { finite = f; count = l; code_fits = omega arith; work-fits = r; out-fits = omega arith } in
      let m = means s c n functions v x w arguments (code_of v x) work out lent in
      let z = m.size in
      let size : length (sets out 0 m.answer) ≡ length out = length-sets out 0 m.answer in
      let same : (leaves v x arguments work out).out ≡ m.answer =
      m.given ∙ sym (take_all (length m.answer) (sets out 0 m.answer) (omega arith)) ∙ front out m.answer (omega arith) in
      record {
        after = leaves v x arguments work out;
        is = list-ok s c n functions v x w arguments (code_of v x) work out lent;
        count = refl;
        size = ap length same ∙ z;
        good = m.meant ∙ ap some (sym same);
        kept = (m.same, m.rest);
      }

  module _ (points : ℕ) (arguments work out : List ℕ) (l : LentPoints v x points arguments work out) where
    abbrev calls : Outcome Buffers
    calls = one_by_one (code_of v x) (input_words x) (output_words x) points arguments work out

    pub all : AllCalled Means Kept (input_words x) (output_words x) points calls arguments work out
    all =
        all-called (code_of v x) (input_words x) (output_words x) words Means Kept Finite keeping call points arguments work out
        l.count l.finite l.work-fits l.out-fits

    -- nothing is refused
    pub judged : ran_points (code_of v x) points arguments work out ≡ calls
    unfolding ran_points
    judged =
        let b = list_of v x in
        let law = laws s c n functions v x w in
        let outputs : length b.outputs ≡ output_words x = law.outputs in
        let list : b.words ≡ words = law.words in
        let r = l.work-fits in
        let o = l.out-fits in
        let all_in : points * input_words x ≡ points * b.arguments = ap (λ (k : ℕ). points * k) (sym law.arguments) in
        let all-out : points * length b.outputs ≡ points * output_words x = ap (λ (k : ℕ). points * k) outputs in
        takes (or_else (decode (code_of v x)) _ _) _ b (some-else _ _ (decode-encode v b (fits s c n functions v x w)))
        ∙ passes (leb points point_limit) _ _ _ (le-leb points point_limit l.few)
        ∙ passes (eqb (length arguments) (points * b.arguments)) _ _ _ (eq-eqb _ _ (l.count ∙ all_in))
        ∙ passes (every argument_word arguments) _ _ _ (all-finite arguments l.finite)
        ∙ passes (leb b.words (length work) && leb (points * length b.outputs) (length out)) _ _ _
        (and_both _ _ (le-leb b.words (length work) (omega arith)) (le-leb (points * length b.outputs) (length out) (omega arith)))
        ∙ ap₂ (λ (i k : ℕ). one_by_one (code_of v x) i k points arguments work out) law.arguments outputs

-- whatever answers as `ran_points` does, in whatever form, and leaves the buffers as that says, meets demand 3 at each point
pub demand3-points :
    (code : List ℕ) (points : ℕ) (arguments work out : List ℕ) {Answer : ℕ → Type 0} {work' out' : List ℕ}
    → ((b : Buffers) → ran_points code points arguments work out ≡ ok b → Answer b.count × (work' ≡ b.work) × (out' ≡ b.out))
    → Demand3Points Answer code points arguments work out work' out'
demand3-points code points arguments work out {Answer} {work'} {out'} h s c n functions v x w is l =
    let a = all s c n functions v x w points arguments work out l in
    let g = ap (λ (ys : List ℕ). ran_points ys points arguments work out) is ∙ judged s c n functions v x w points arguments work out l ∙ a.is in
    let (r, ew, eo) = h a.after g in
    record {
      count = subst Answer a.count r;
      meant = λ i k. rw eo (a.good i k);
      out-same = ap length eo ∙ a.out-same;
      out-rest = λ i k. ap (λ (ys : List ℕ). word_at ys i) eo ∙ a.out-rest i k;
      work-same = ap length ew ∙ a.kept.0;
      work-rest = λ i k. ap (λ (ys : List ℕ). word_at ys i) ew ∙ a.kept.1 i k;
    }

went-well : (r : Result ℕ Refusal) {n : ℕ} → outcome r ≡ ok n → r ≡ Ok n
went-well (Ok m) e = ap Ok (ok-is e)
went-well (Err f) {n} e = absurd (no-fault n (number f.fault) f.place (sym e))

-- so does an answer of `run_points`
pub answered-points :
    (code : List ℕ) (points : ℕ) (arguments work out : List ℕ) {work' out' : List ℕ} {r : Result ℕ Refusal}
    → Answered (ran_points code points arguments work out) work out work' out' (outcome r) → Demand3Points (λ n. r ≡ Ok n) code points arguments work out work' out'
unfolding work_after out_after
answered-points code points arguments work out {r = r} a =
    demand3-points code points arguments work out (λ b g. (went-well r (a.answer ∙ ap answer_of g), a.work-after ∙ ap (λ (o : Outcome Buffers). work_after o work) g, a.out-after ∙ ap (λ (o : Outcome Buffers). out_after o out) g))
