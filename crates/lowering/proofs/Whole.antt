-- From table to output words, for both versions of the list. A function within the limits is compiled; its list is read back as it was
-- written, so that the runner judges and runs that list; and a run of it gives the words of what the graph means. Of the version only what
-- `Lawful` says is used.
use Prim.Native.Nat.{ℕ, ◌+◌, ◌*◌, ◌≤◌}
use mathlib.Core.Path.{◌≡◌, refl, ap, sym, ◌∙◌, subst}
use mathlib.Core.Bool.{◌&&◌}
use mathlib.Core.List.{List, ◌∷◌, reverse}
use native.Mathlib.Omega.{arith}
use lib.Dec.{leb, eqb}
use lib.ListN.{length}
use lib.Seq.{sets}
use borrow.Author.Tests.{leb-true, le-leb}
use Rattle.ports.specs.Ports.{widths}
use Rattle.base.specs.Bytes.{Bytes}
use Rattle.base.specs.Limits.{operation_limit, word_limit, port_word_limit}
use Rattle.base.specs.Lists.{word_at, every}
use Rattle.base.specs.Outcome.{Outcome, ok, ◌>>=◌, ◌>>◌, need, or_else}
use Rattle.base.proofs.Outcomes.{took, passed, takes, passes, ok-is, some-else, else-some}
use Rattle.base.proofs.Stores.{front}
use Rattle.value.specs.Values.{argument_word}
use Rattle.graph.specs.Graph.{Function}
use Rattle.graph.specs.Types.{output_types}
use Rattle.graph.specs.Judge.{table}
use Rattle.graph.specs.Sums.{function_operations, operations_of}
use Rattle.graph.specs.Sound.{AllSound}
use Rattle.graph.specs.Table.{Chosen, chosen}
use Rattle.graph.proofs.Formed.{accepted}
use Rattle.graph.proofs.Exactly.{table-back, table-there}
use Rattle.graph.proofs.Table.{chosen-sound}
use Rattle.bytecode.specs.declared.Version.{Version}
use Rattle.bytecode.specs.Version.{version_of}
use Rattle.bytecode.specs.Code.{result_bytes}
use Rattle.bytecode.specs.WellFormed.{FormedList}
use Rattle.bytecode.specs.Answers.{Buffers, ran}
use Rattle.bytecode.proofs.Length.{encode-length}
use Rattle.bytecode.proofs.Unwritten.{run_length}
use Rattle.lowering.specs.Answers.{list_of, words_of, code_of, Job, within, compilable, compiled, Evaluated, evaluated}
use Rattle.lowering.specs.Demand3.{Within, Lent, Meant, Demand3}
use Rattle.lowering.proofs.Taken.{Serves, left_by, judged, taken, rest-stays, given}
use Rattle.lowering.proofs.Lawful.{Lawful, lawful, lawful-serves}

-- what the compiler takes is within the limits
pub compilable-within : (s : List ℕ) (c n : ℕ) (j : Job) → Bytes s → compilable s c n ≡ ok j
    → (functions : List Function) × Within s c n functions j.version j.chosen
compilable-within s c n j small e =
    let (latest, t, e1) = took (table s) (λ latest. within latest c n) j e in
    let (functions, m, q) = table-there s small latest t in
    let (x, p, e2) = took (or_else (chosen c latest) 14 0) _ j e1 in
    let (v, r, e3) = took (or_else (version_of n) 31 0) _ j e2 in
    let (o, e4) = passed (leb (function_operations (operations_of x.early) x.function) operation_limit) 15 0 _ j e3 in
    let (l, e5) = passed (leb (words_of v x) word_limit) 16 0 _ j e4 in
    let same : record { chosen = x; version = v } ≡ j = ok-is e5 in (
      functions,
      subst (λ (k : Job). Within s c n functions k.version k.chosen) same
          (record {
            bytes = small;
            meets = m;
            chosen = ap (chosen c) q ∙ else-some (chosen c latest) 14 0 x p;
            version = else-some (version_of n) 31 0 v r;
            operations = leb-true _ _ o;
            words = leb-true _ _ l;
          }),
    )

-- what a run of the list leaves, and with the code what an evaluation does
abbrev pub leaves : Version → Chosen → List ℕ → List ℕ → List ℕ → Buffers
leaves v x = left_by x (list_of v x)

abbrev pub with_code : Version → Chosen → List ℕ → Buffers → Evaluated
with_code v x code b = record { count = b.count; code = sets code 0 (code_of v x); work = b.work; out = b.out }

module _ (s : List ℕ) (c n : ℕ) (functions : List Function) (v : Version) (x : Chosen) (w : Within s c n functions v x) where
  latest-are : table s ≡ ok (reverse functions)
  latest-are = table-back s functions w.meets

  pub sound : AllSound (x.function ∷ x.early)
  sound = chosen-sound c (reverse functions) x w.chosen (accepted s w.bytes (reverse functions) latest-are)

  pub laws : Lawful v x
  laws = lawful v x sound

  pub list-serves : Serves v x (list_of v x)
  list-serves = lawful-serves v x laws w.operations w.words

  pub fits : FormedList v (list_of v x)
  fits = list-serves.formed

  pub code-length : length (code_of v x) ≤ 12 + (130 + result_bytes v) * operation_limit + 2 * port_word_limit
  code-length = encode-length v (list_of v x) fits

  pub output-count : widths (output_types x.function.outputs) ≤ port_word_limit
  output-count = let l = fits.outputs in let e = laws.outputs in omega arith

  -- ---- the compiler

  pub within-compilable : compilable s c n ≡ ok (record { chosen = x; version = v })
  within-compilable =
      takes (table s) _ (reverse functions) latest-are
      ∙ takes (or_else (chosen c (reverse functions)) _ _) _ x (some-else _ _ w.chosen)
      ∙ takes (or_else (version_of n) _ _) _ v (some-else _ _ w.version)
      ∙ passes (leb (function_operations (operations_of x.early) x.function) operation_limit) _ _ _ (le-leb _ _ w.operations)
      ∙ passes (leb (words_of v x) word_limit) _ _ _ (le-leb _ _ w.words)

  pub compiles : (code : List ℕ) → length (code_of v x) ≤ length code
      → compiled s c n code ≡ ok (record { size = length (code_of v x); buffer = sets code 0 (code_of v x) })
  unfolding compiled
  compiles code l =
      takes (compilable s c n) _ (record { chosen = x; version = v }) within-compilable
      ∙ passes (leb (length (code_of v x)) (length code)) _ _ _ (le-leb _ _ l)

  module _ (arguments code work out : List ℕ) where
    -- ---- the runner on what the compiler wrote: 18 does not arise, and what the others ask is known from the function

    abbrev pub run_or_refusal : Outcome Buffers
    run_or_refusal = do
      need (eqb (length arguments) (widths x.function.inputs)) 19 0
      need (every argument_word arguments) 20 0
      need (leb (words_of v x) (length work) && leb (widths (output_types x.function.outputs)) (length out)) 21 0
      ok (leaves v x arguments work out)

    pub list-runs : ran (code_of v x) arguments work out ≡ run_or_refusal
    list-runs =
        judged v x (list_of v x) list-serves arguments work out
        ∙ ap
        (λ (words : ℕ). do
          need (eqb (length arguments) (widths x.function.inputs)) 19 0
          need (every argument_word arguments) 20 0
          need (leb words (length work) && leb (widths (output_types x.function.outputs)) (length out)) 21 0
          ok (leaves v x arguments work out))
        laws.words

    -- so an evaluation is the runner's judging, once the code fits
    pub evaluated-is : length (code_of v x) ≤ length code → evaluated s c n arguments code work out ≡ (run_or_refusal >>= λ b. ok (with_code v x code b))
    unfolding evaluated
    evaluated-is l =
        takes (compiled s c n code) _ _ (compiles code l)
        ∙ ap (λ (ys : List ℕ). ran ys arguments work out >>= λ b. ok (with_code v x code b)) (front code (code_of v x) l)
        ∙ ap (λ (g : Outcome Buffers). g >>= λ b. ok (with_code v x code b)) list-runs

    module _ (l : Lent v x arguments code work out) where
      room : (list_of v x).words ≤ length work
      room = let a = l.work-fits in let size = laws.words in omega arith

      pub list-ok : ran (code_of v x) arguments work out ≡ ok (leaves v x arguments work out)
      list-ok = taken v x (list_of v x) list-serves arguments work out l.finite l.count room l.out-fits

      pub evaluated-ok : evaluated s c n arguments code work out ≡ ok (with_code v x code (leaves v x arguments work out))
      evaluated-ok = evaluated-is l.code_fits ∙ takes run_or_refusal _ (leaves v x arguments work out) (sym list-runs ∙ list-ok)

      -- ---- what the run leaves is what the graph means

      pub means : Meant (λ n. widths (output_types x.function.outputs) ≡ n) functions c v x arguments code work out (sets code 0 (code_of v x))
          (leaves v x arguments work out).work (leaves v x arguments work out).out
      means =
          let b = list_of v x in
          let size : b.words ≡ words_of v x = laws.words in
          let (answer, meant, count, outputs) = given v x b list-serves arguments work out l.finite l.count room (reverse functions) c w.chosen sound in
          record {
            answer = answer;
            meant = meant;
            size = count;
            count = sym count;
            given = ap (sets out 0) outputs;
            list = refl;
            same = run_length b arguments work;
            rest = λ i h. rest-stays v x b list-serves arguments work out l.finite l.count room i (omega arith);
          }

-- ---- demand 3

-- whatever answers as `evaluated` does, in whatever form, and leaves the buffers as that says, meets demand 3
pub demand3 :
    (s : List ℕ) (c n : ℕ) (arguments code work out : List ℕ) {Answer : ℕ → Type 0} {code' work' out' : List ℕ}
    → ((e : Evaluated) → evaluated s c n arguments code work out ≡ ok e → Answer e.count × (code' ≡ e.code) × (work' ≡ e.work) × (out' ≡ e.out))
    → Demand3 Answer s c n arguments code work out code' work' out'
demand3 s c n arguments code work out {Answer} h functions v x w l =
    let (a, ec, ew, eo) = h _ (evaluated-ok s c n functions v x w arguments code work out l) in
    let m = means s c n functions v x w arguments code work out l in
    record {
      answer = m.answer;
      meant = m.meant;
      size = m.size;
      count = subst Answer m.count a;
      given = eo ∙ m.given;
      list = ec;
      same = ap length ew ∙ m.same;
      rest = λ i k. ap (λ (ys : List ℕ). word_at ys i) ew ∙ m.rest i k;
    }
