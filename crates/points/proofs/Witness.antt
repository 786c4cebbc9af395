-- What demand 3 asks of points can be so, in both versions: case A at 3 and 0.5, then at 0.5 and 0.5, with buffers longer than need be. What it
-- then gives is 1.5 and 0.25.
use Prim.Native.Nat.{ℕ}
use mathlib.Core.Path.{◌≡◌, refl, sym, ◌∙◌}
use mathlib.Core.List.{List, [], ◌∷◌, reverse}
use mathlib.Core.Option.{some}
use native.Mathlib.Omega.{arith}
use lib.ListN.{replicate}
use lib.Ieee as Ieee
use Rattle.base.specs.Lists.{word_at}
use Rattle.base.proofs.Lists.{some_is}
use Rattle.value.specs.Results.{results}
use Rattle.graph.specs.Meaning.{node_means, meaning_of, graph_means}
use Rattle.bytecode.specs.declared.Version.{Version}
use Rattle.bytecode.specs.Version.{number}
use Rattle.lowering.specs.Cases.{table_a, function_a, chosen_a, three, half, three_halves}
use Rattle.lowering.proofs.Witness.{code_in, code-a, words-a, within_a}
use Rattle.points.specs.Demand3.{part, LentPoints, Demand3Points}
use Rattle.points.specs.Cases.{quarter}

abbrev pub arguments_a : List ℕ
arguments_a = three ∷ half ∷ half ∷ half ∷ []

abbrev pub work_buffer : List ℕ
work_buffer = replicate 4 7

abbrev pub out_buffer : List ℕ
out_buffer = replicate 3 7

pub lent-a : (v : Version) → LentPoints v chosen_a 2 arguments_a work_buffer out_buffer
lent-a v =
    record {
      few = omega arith;
      finite = ((omega arith, refl), ((omega arith, refl), ((omega arith, refl), ((omega arith, refl), tt))));
      count = refl;
      work-fits = let w = words-a v in omega arith;
      out-fits = omega arith;
    }

means-first : graph_means (reverse (function_a ∷ [])) 1 (part 2 0 arguments_a) ≡ some (three_halves ∷ [])
unfolding node_means meaning_of results Ieee.mul Ieee.of_bits Ieee.to_bits
means-first = refl

means-second : graph_means (reverse (function_a ∷ [])) 1 (part 2 1 arguments_a) ≡ some (quarter ∷ [])
unfolding node_means meaning_of results Ieee.mul Ieee.of_bits Ieee.to_bits
means-second = refl

-- so demand 3 says of every answer to this that it is two words, 1.5 and 0.25, and that the rest is as it was
pub demand3-a : (v : Version) {Answer : ℕ → Type 0} {work' out' : List ℕ} → Demand3Points Answer (code_in v) 2 arguments_a work_buffer out_buffer work' out'
    → Answer 2 × (part 1 0 out' ≡ three_halves ∷ []) × (part 1 1 out' ≡ quarter ∷ []) × (word_at out' 2 ≡ 7)
demand3-a v d =
    let m = d table_a 1 (number v) (function_a ∷ []) v chosen_a (within_a v) (sym (code-a v)) (lent-a v) in
    (m.count, some_is (sym (m.meant 0 (omega arith)) ∙ means-first), some_is (sym (m.meant 1 (omega arith)) ∙ means-second), m.out-rest 2 (omega arith))
