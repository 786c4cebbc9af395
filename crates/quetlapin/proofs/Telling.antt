-- Every answer is told whole: a success is below 2^32, a refusal has one of the numbers 1 to 22 or 31 (29 or 33 too, of a judgement) and a place below 2^32, and so no two
-- answers have the same number.
use Prim.Native.Nat.{ℕ, ◌≤◌, ◌<◌}
use mathlib.Core.Path.{◌≡◌, refl, ap, sym, ◌∙◌, subst}
use mathlib.Core.Bool.{Bool, true, false, ◌&&◌}
use mathlib.Core.List.{List}
use mathlib.Core.Option.{Option, none, some}
use mathlib.Core.Logic.{◌⊎◌, inl, inr, ◌↔◌}
use native.Mathlib.Omega.{arith}
use lib.Dec.{leb, eqb}
use lib.ListN.{length}
use borrow.Author.Tests.{leb-true}
use Rattle.ports.specs.Ports.{widths}
use Rattle.base.specs.Lists.{every}
use Rattle.base.specs.Bytes.{Bytes}
use Rattle.base.specs.Limits.{operation_limit, word_limit}
use Rattle.base.specs.Outcome.{Outcome, ok, fault, ◌>>=◌, ◌>>◌, need, or_else}
use Rattle.base.proofs.Outcomes.{took, passed, stops}
use Rattle.value.specs.Values.{argument_word}
use Rattle.graph.specs.Graph.{Function}
use Rattle.graph.specs.Judge.{table, verdict}
use Rattle.graph.specs.Types.{output_types}
use Rattle.graph.specs.Sums.{function_operations, operations_of}
use Rattle.graph.specs.Table.{Chosen, chosen}
use Rattle.graph.proofs.Formats.{places-held}
use Rattle.graph.proofs.Ranges.{fault-bounds, count-bounds}
use Rattle.bytecode.specs.Code.{decode}
use Rattle.bytecode.specs.Answers.{Buffers, ran}
use Rattle.bytecode.proofs.Decoded.{well-formed}
use Rattle.lowering.specs.Answers as Answers
use Rattle.bytecode.specs.declared.Version.{Version}
use Rattle.bytecode.specs.Version.{version_of}
use Rattle.bytecode.proofs.Length.{result-most}
use Rattle.lowering.specs.Answers.{words_of, within, compilable, code_of, compiled, evaluated}
use Rattle.lowering.specs.Demand3.{Within}
use Rattle.lowering.proofs.Whole.{compilable-within, code-length, output-count, evaluated-is, run_or_refusal, with_code}
use Rattle.reordering.specs.AnyOrder.{AnyOrder}
use Rattle.reordering.proofs.Whole.{any_order}
use Rattle.points.specs.Points.{ran_points}
use Rattle.points.specs.Demand3.{Demand3Points}
use Rattle.points.proofs.Judged.{Late, points-fault, points-count}
use Rattle.points.proofs.Meaning.{demand3-points}
use Rattle.acceptance.specs.Answers.{judged_placement}
use Rattle.acceptance.proofs.Exactly.{placement-bounds, placement-count}
use Rattle.runner.specs.Runs as runner
use Rattle.quetlapin.specs.Numbers.{number_of, Tellable, Refusal, Bounded, Told, JudgeRefusal, JudgeBounded, JudgeTold, counted, code_length, run_count, evaluation_count, RunAnswered}

-- ---- one answer, one number

-- what lies in its range by itself
abbrev InRange : Outcome ℕ → Type 0
InRange (ok n) = n < 0x1_0000_0000
InRange (fault n p) = (1 ≤ n) × (p < 0x1_0000_0000)

one-number : (o o' : Outcome ℕ) → InRange o → InRange o' → number_of o ≡ number_of o' → o ≡ o'
one-number (ok n) (ok m) b d e = ap ok e
one-number (ok n) (fault m q) b (d, d2) e = absurd (omega arith)
one-number (fault n p) (ok m) (b, b2) d e = absurd (omega arith)
one-number (fault n p) (fault m q) (b, b2) (d, d2) e =
    let k : n ≡ m = omega arith in
    let l : p ≡ q = omega arith in
    rw (k, l) refl

bounded-range : (o : Outcome ℕ) → Bounded o → InRange o
bounded-range (ok n) b = b
bounded-range (fault n p) (b, b1, b2) = (b, b2)

judged-range : (o : Outcome ℕ) → JudgeBounded o → InRange o
judged-range (ok n) b = b
judged-range (fault n p) (b, b1, b2) = (b, b2)

pub told-one : (o o' : Outcome ℕ) → Bounded o → Bounded o' → number_of o ≡ number_of o' → o ≡ o'
told-one o o' b d = one-number o o' (bounded-range o b) (bounded-range o' d)

pub judged-one : (o o' : Outcome ℕ) → JudgeBounded o → JudgeBounded o' → number_of o ≡ number_of o' → o ≡ o'
judged-one o o' b d = one-number o o' (judged-range o b) (judged-range o' d)

-- ---- bounds, step by step

module _ {A : Type 0} (f : A → ℕ) where
  bounded-fault : (g : Outcome A) → Bounded (counted f g) → (n p : ℕ) → g ≡ fault n p → Refusal n p
  bounded-fault (ok a) b n p e = let z : ◌≡◌ {A = ℕ} 0 1 = cc in absurd (omega arith)
  bounded-fault (fault m q) (b, b1, b2) n p e = let k : m ≡ n = cc in let l : q ≡ p = cc in (omega arith, subst (λ (j : ℕ). (j ≤ 22) ⊎ (j ≡ 31)) k b1, omega arith)

module _ {A B : Type 0} (f : B → ℕ) where
  bound-bounded : (g : Outcome A) (k : A → Outcome B) → ((n p : ℕ) → g ≡ fault n p → Refusal n p) → ((a : A) → g ≡ ok a → Bounded (counted f (k a)))
      → Bounded (counted f (g >>= k))
  unfolding ◌>>=◌
  bound-bounded (ok a) k b h = h a refl
  bound-bounded (fault n p) k b h = b n p refl

  there-bounded : (o : Option A) (k : A → Outcome B) (n : ℕ) → Refusal n 0 → ((a : A) → o ≡ some a → Bounded (counted f (k a)))
      → Bounded (counted f (or_else o n 0 >>= k))
  unfolding ◌>>=◌
  there-bounded none k n h g = h
  there-bounded (some a) k n h g = g a refl

module _ {B : Type 0} (f : B → ℕ) where
  need-bounded : (t : Bool) (n : ℕ) (g : Outcome B) → Refusal n 0 → Bounded (counted f g) → Bounded (counted f (need t n 0 >> g))
  unfolding need ◌>>◌
  need-bounded true n g h b = b
  need-bounded false n g h b = h

-- ---- the four answers

-- a step that only refuses
abbrev none_told : {A : Type 0} → A → ℕ
none_told a = 0

abbrev size-told : Answers.Compiled → ℕ
size-told a = a.size

abbrev count-told : Buffers → ℕ
count-told b = b.count

abbrev words-told : Answers.Evaluated → ℕ
words-told e = e.count

module _ (s : List ℕ) (small : Bytes s) where
  pub verdict-bounded : Bounded (verdict s)
  verdict-bounded = go (verdict s) refl
    where
      go : (o : Outcome ℕ) → verdict s ≡ o → Bounded o
      go (ok n) e = let (a, b) = count-bounds s small n e in omega arith
      go (fault n p) e = let (a, b, c) = fault-bounds s small n p e in let h = places-held s in (a, inl (omega arith), omega arith)

  table-fault : (n p : ℕ) → table s ≡ fault n p → Refusal n p
  unfolding verdict
  table-fault n p e = let (a, b, c) = fault-bounds s small n p (stops (table s) _ n p e) in let h = places-held s in (a, inl (omega arith), omega arith)

  compilable-fault : (c v n p : ℕ) → compilable s c v ≡ fault n p → Refusal n p
  compilable-fault c v n p e =
      bounded-fault none_told (compilable s c v)
      (bound-bounded none_told (table s) (λ latest. within latest c v) table-fault
      (λ latest q.
      there-bounded none_told (chosen c latest) _ 14 (omega arith, inl (omega arith), omega arith)
      (λ x r.
      there-bounded none_told (version_of v) _ 31 (omega arith, inr refl, omega arith)
      (λ w t.
      need-bounded none_told (leb (function_operations (operations_of x.early) x.function) operation_limit) 15 _ (omega arith, inl (omega arith), omega arith)
      (need-bounded none_told (leb (words_of w x) word_limit) 16 (ok (record { chosen = x; version = w })) (omega arith, inl (omega arith), omega arith) (omega arith))))))
      n p e

  module _ (c v : ℕ) (code : List ℕ) where
    pub compiled-bounded : Bounded (code_length (compiled s c v code))
    unfolding compiled
    compiled-bounded =
        bound-bounded size-told (compilable s c v) _ (compilable-fault c v)
        (λ j e.
        need-bounded size-told (leb (length (code_of j.version j.chosen)) (length code)) 17 _ (omega arith, inl (omega arith), omega arith)
        (let (fs, w) = compilable-within s c v j small e in omega (arith, code-length s c v fs j.version j.chosen w, result-most j.version)))

  -- once the compiler passes, the bounds are those of a run of its list
  module _ (c n : ℕ) (arguments code work out : List ℕ) where
    runs-bounded : (functions : List Function) (v : Version) (x : Chosen) → Within s c n functions v x → length (code_of v x) ≤ length code
        → Bounded (evaluation_count (evaluated s c n arguments code work out))
    runs-bounded functions v x w l =
        let g = run_or_refusal s c n functions v x w arguments code work out in
        let b : Bounded (run_count g) =
        need-bounded count-told (eqb (length arguments) (widths x.function.inputs)) 19 _ (omega arith, inl (omega arith), omega arith)
        (need-bounded count-told (every argument_word arguments) 20 _ (omega arith, inl (omega arith), omega arith)
        (need-bounded count-told (leb (words_of v x) (length work) && leb (widths (output_types x.function.outputs)) (length out)) 21 _ (omega arith, inl (omega arith), omega arith)
        (omega (arith, output-count s c n functions v x w)))) in
        subst (λ (o : Outcome Answers.Evaluated). Bounded (evaluation_count o)) (sym (evaluated-is s c n functions v x w arguments code work out l))
        (bound-bounded words-told g (λ b. ok (with_code v x code b)) (bounded-fault count-told g b) (λ a e. subst (λ (o : Outcome Buffers). Bounded (run_count o)) e b))

    pub evaluated-bounded : Bounded (evaluation_count (evaluated s c n arguments code work out))
    unfolding evaluated compiled
    evaluated-bounded = go (compiled s c n code) refl
      where
        go : (o : Outcome Answers.Compiled) → compiled s c n code ≡ o → Bounded (evaluation_count (evaluated s c n arguments code work out))
        go (ok a) e =
            let (j, found, e1) = took (compilable s c n) _ a e in
            let code-of-j = code_of j.version j.chosen in
            let (t, e2) = passed (leb (length code-of-j) (length code)) 17 0 _ a e1 in
            let (functions, w) = compilable-within s c n j small found in
            runs-bounded functions j.version j.chosen w (leb-true (length code-of-j) (length code) t)
        go (fault a p) e =
            subst (λ (o : Outcome Answers.Evaluated). Bounded (evaluation_count o)) (sym (stops (compiled s c n code) _ a p e))
            (bounded-fault size-told (compiled s c n code) (compiled-bounded c n code) a p e)

-- a router's list: the refusals of the table and of the compiler, 18, 33, and 29 with a place that is an instruction's
pub judged-bounded : (s : List ℕ) → Bytes s → (c : ℕ) (code numbers : List ℕ) → JudgeBounded (judged_placement s c code numbers)
judged-bounded s small c code numbers = go (judged_placement s c code numbers) refl
  where
    wider : (n p : ℕ) → Refusal n p → JudgeRefusal n p
    wider n p (b, inl l, b2) = (b, inl l, b2)
    wider n p (b, inr e, b2) = (b, inr (inr (inl e)), b2)

    refusal : (n p : ℕ) → (compilable s c 1 ≡ fault n p) ⊎ (((n ≡ 18) × (p ≡ 0)) ⊎ (((n ≡ 33) × (p ≡ 0)) ⊎ ((n ≡ 29) × (p ≤ operation_limit)))) → JudgeRefusal n p
    refusal n p (inl e) = wider n p (compilable-fault s small c 1 n p e)
    refusal n p (inr (inl (a, b))) = (omega arith, inl (omega arith), omega arith)
    refusal n p (inr (inr (inl (a, b)))) = (omega arith, inr (inr (inr (inl a))), omega arith)
    refusal n p (inr (inr (inr (a, b)))) = (omega arith, inr (inl a), omega arith)

    go : (o : Outcome ℕ) → judged_placement s c code numbers ≡ o → JudgeBounded o
    go (ok n) e = omega (arith, placement-count s c code numbers small n e)
    go (fault n p) e = refusal n p (placement-bounds s c code numbers small n p e)

pub ran-bounded : (code : List ℕ) → Bytes code → (arguments work out : List ℕ) → Bounded (run_count (ran code arguments work out))
unfolding ran
ran-bounded code small arguments work out =
    there-bounded count-told (decode code) _ 18 (omega arith, inl (omega arith), omega arith)
    (λ b e.
    need-bounded count-told (eqb (length arguments) b.arguments) 19 _ (omega arith, inl (omega arith), omega arith)
    (need-bounded count-told (every argument_word arguments) 20 _ (omega arith, inl (omega arith), omega arith)
    (need-bounded count-told (leb b.words (length work) && leb (length b.outputs) (length out)) 21 _ (omega arith, inl (omega arith), omega arith)
    (omega (arith, ((well-formed code small b).0 e).1.formed.outputs)))))

pub points-bounded : (code : List ℕ) (points : ℕ) (arguments work out : List ℕ) → Bounded (run_count (ran_points code points arguments work out))
points-bounded code points arguments work out = go (ran_points code points arguments work out) refl
  where
    refusal : {n p : ℕ} → ((decode code ≡ none) × (n ≡ 18) × (p ≡ 0)) ⊎ Late n p → Refusal n p
    refusal (inl (d, a, b)) = (omega arith, inl (omega arith), omega arith)
    refusal (inr (a, b, c)) = (omega arith, inl (omega arith), omega arith)

    go : (o : Outcome Buffers) → ran_points code points arguments work out ≡ o → Bounded (run_count o)
    go (ok b) e = omega (arith, points-count code points arguments work out b e)
    go (fault n p) e = refusal (points-fault code points arguments work out n p e)

-- ---- what is told

tellable : (o : Outcome ℕ) → InRange o → Tellable o
tellable (ok n) b = tt
tellable (fault n p) (b, b1) = b1

-- an answer that is this one may be made a number, and that is what is told
module _ {o a : Outcome ℕ} (b : Bounded o) (e : a ≡ o) where
  pub may-tell : Tellable a
  may-tell = tellable a (bounded-range a (subst Bounded (sym e) b))

  pub told : {r : ℕ} → r ≡ number_of a → Told o r
  told q = record { number = q ∙ ap number_of e; bounds = b }

-- the same of a judgement
module _ {o a : Outcome ℕ} (b : JudgeBounded o) (e : a ≡ o) where
  pub may-judge : Tellable a
  may-judge = tellable a (judged-range a (subst JudgeBounded (sym e) b))

  pub judge-told : {r : ℕ} → r ≡ number_of a → JudgeTold o r
  judge-told q = record { number = q ∙ ap number_of e; bounds = b }

-- what is told is this judgement exactly when it is the judgement
pub told_same : {o : Outcome ℕ} {r : ℕ} → JudgeTold o r → (o' : Outcome ℕ) → JudgeTold o' r ↔ (o ≡ o')
told_same {o} {r} t o' = (
  λ t'. judged-one o o' t.bounds t'.bounds (sym t.number ∙ t'.number),
  λ e. subst (λ (x : Outcome ℕ). JudgeTold x r) e t,
)

-- the answer of a run, at one point or at many
pub run-told : {g : Outcome Buffers} {work out work' out' : List ℕ} {a : Outcome ℕ} {r : ℕ} → Bounded (run_count g) → runner.Answered g work out work' out' a
    → r ≡ number_of a → RunAnswered g work out work' out' r
run-told b h e = record { answer = told b h.answer e; work-after = h.work-after; out-after = h.out-after }

-- the number and the buffers of a run that is told
told_is : {g : Outcome Buffers} {work out work' out' : List ℕ} {r : ℕ} → RunAnswered g work out work' out' r → (b : Buffers) → g ≡ ok b
    → (r ≡ b.count) × (work' ≡ b.work) × (out' ≡ b.out)
unfolding runner.work_after runner.out_after
told_is {work = work} {out = out} a b g = (
  a.answer.number ∙ ap (λ (o : Outcome Buffers). number_of (run_count o)) g,
  a.work-after ∙ ap (λ (o : Outcome Buffers). runner.work_after o work) g,
  a.out-after ∙ ap (λ (o : Outcome Buffers). runner.out_after o out) g,
)

-- what is told of a run holds of every order that respects the reads
pub told-order : (code arguments work out : List ℕ) {work' out' : List ℕ} {r : ℕ}
    → RunAnswered (ran code arguments work out) work out work' out' r → AnyOrder (λ n. r ≡ n) code arguments work out work' out'
told-order code arguments work out a = any_order code arguments work out (told_is a)

-- what is told of a run at many points meets demand 3 at each
pub told-points : (code : List ℕ) (points : ℕ) (arguments work out : List ℕ) {work' out' : List ℕ} {r : ℕ}
    → RunAnswered (ran_points code points arguments work out) work out work' out' r → Demand3Points (λ n. r ≡ n) code points arguments work out work' out'
told-points code points arguments work out a = demand3-points code points arguments work out (told_is a)
