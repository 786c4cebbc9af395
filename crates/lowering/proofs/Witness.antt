-- What demand 3 asks can be so, in both versions: case A on 3 and 0.5, with buffers longer than need be. What it then gives is 1.5, and the
-- code of A.
use Prim.Native.Nat.{ℕ, zero, suc, ◌≤◌}
use mathlib.Core.Path.{◌≡◌, refl}
use mathlib.Core.Bool.{true}
use mathlib.Core.List.{List, [], ◌∷◌, ◌++◌, reverse}
use mathlib.Core.Option.{some}
use native.Mathlib.Omega.{arith}
use lib.Dec.{ltb}
use lib.ListN.{length, replicate}
use lib.Seq.{sets}
use lib.Ieee as Ieee
use borrow.Author.Tests.{ltb-true}
use Rattle.base.specs.Bytes.{Bytes}
use Rattle.base.specs.Lists.{every}
use Rattle.base.proofs.Bools.{and-inv}
use Rattle.value.specs.Results.{results}
use Rattle.graph.specs.Format.{format_of}
use Rattle.graph.specs.Loops.{Leads, via, loops}
use Rattle.graph.specs.Rules.{Meets}
use Rattle.graph.specs.Sums.{operations_of, result_words_of}
use Rattle.graph.specs.Schedule.{schedule}
use Rattle.graph.specs.Meaning.{node_means, meaning_of, graph_means}
use Rattle.graph.proofs.Loops.{loops-iff}
use Rattle.bytecode.specs.declared.Version.{Version}
use Rattle.bytecode.specs.declared.Version.TheVariants.{V1, V2}
use Rattle.bytecode.specs.Version.{number}
use Rattle.bytecode.specs.Code.{encode}
use Rattle.bytecode.proofs.Back.{version-number}
use Rattle.lowering.specs.Compile.{inlined}
use Rattle.lowering.specs.Answers.{words_of, code_of}
use Rattle.lowering.specs.Demand3.{Within}
use Rattle.lowering.specs.Cases.{table_a, code_a, code_a2, function_a, chosen_a, three, half, three_halves}

pub all-bytes : (s : List ℕ) → every (λ b. ltb b 256) s ≡ true → Bytes s
all-bytes [] e i = omega arith
all-bytes (b ∷ s) e zero = let (p, q) = and-inv (ltb b 256) (every (λ b. ltb b 256) s) e in ltb-true b 256 p
all-bytes (b ∷ s) e (suc i) = let (p, q) = and-inv (ltb b 256) (every (λ b. ltb b 256) s) e in all-bytes s q i

no_loop : Leads function_a.nodes 1 1 → ⊥
unfolding via
no_loop l = let e : loops function_a.nodes 1 ≡ true = (loops-iff function_a.nodes 1).1 l in let z : ◌≡◌ {A = ℕ} 0 1 = cc in omega arith

-- by 01's words, with neither the reading nor the judging
pub meets-a : Meets (format_of table_a) table_a (function_a ∷ [])
unfolding format_of
meets-a =
    record {
      written = record {
        bytes = refl;
        size = omega arith;
        some-function = omega arith;
        count = omega arith;
        formed = (
          record {
            id = omega arith;
            inputs = omega arith;
            input_types = ((omega arith, omega arith), ((omega arith, omega arith), tt));
            some-output = omega arith;
            outputs = omega arith;
            output_types = ((omega arith, omega arith), tt);
            nodes = (record { id = omega arith; legal = refl; payload = (refl, refl) }, tt);
          },
          tt,
        );
        nodes = (omega arith, tt);
        ids = (
          record { id = omega arith; outputs = (omega arith, tt); nodes = ((omega arith, (omega arith, (omega arith, tt))), tt) },
          tt,
        );
        places = (record { head = refl; outputs = (refl, tt); nodes = (refl, (refl, (refl, tt)), tt) }, tt);
      };
      rules = (refl, (refl, (tt, ((1, refl), (refl, ((1, refl), (refl, ((1, refl), (refl, (no_loop, tt))))))))));
    }

abbrev pub arguments_a : List ℕ
arguments_a = three ∷ half ∷ []

abbrev pub code_buffer : List ℕ
code_buffer = replicate 24 7

abbrev pub work_buffer : List ℕ
work_buffer = replicate 5 7

abbrev pub out_buffer : List ℕ
out_buffer = replicate 2 7

-- the code of A, and the code buffer with it
abbrev pub code_in : Version → List ℕ
code_in V1 = code_a
code_in V2 = code_a2

abbrev pub buffer_with : Version → List ℕ
buffer_with V1 = code_a ++ 7 ∷ 7 ∷ 7 ∷ 7 ∷ []
buffer_with V2 = code_a2 ++ 7 ∷ 7 ∷ []

pub code-a : (v : Version) → code_of v chosen_a ≡ code_in v
unfolding encode inlined schedule
code-a V1 = refl
code-a V2 = refl

pub words-a : (v : Version) → words_of v chosen_a ≡ 3
unfolding result_words_of inlined schedule
words-a V1 = refl
words-a V2 = refl

pub buffer-a : (v : Version) → sets code_buffer 0 (code_in v) ≡ buffer_with v
buffer-a V1 = refl
buffer-a V2 = refl

pub fits-a : (v : Version) → length (code_in v) ≤ length code_buffer
fits-a V1 = omega arith
fits-a V2 = omega arith

pub within_a : (v : Version) → Within table_a 1 (number v) (function_a ∷ []) v chosen_a
unfolding operations_of
within_a v =
    record {
      bytes = all-bytes table_a refl;
      meets = meets-a;
      chosen = refl;
      version = version-number v;
      operations = omega arith;
      words = let w = words-a v in omega arith;
    }

pub means-a : graph_means (reverse (function_a ∷ [])) 1 arguments_a ≡ some (three_halves ∷ [])
unfolding node_means meaning_of results Ieee.mul Ieee.of_bits Ieee.to_bits
means-a = refl
