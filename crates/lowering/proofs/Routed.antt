-- A list that follows the board list of an accepted function gives the words of what the function means.
use Prim.Native.Nat.{ℕ}
use mathlib.Core.Path.{◌≡◌, ◌∙◌}
use mathlib.Core.List.{List, ◌∷◌}
use native.Mathlib.Omega.{arith}
use lib.ListN.{length, replicate, length-replicate}
use Rattle.value.specs.Values.{all_words}
use Rattle.value.proofs.Laws.{typed-widths}
use Rattle.graph.specs.Sound.{AllSound}
use Rattle.graph.specs.Table.{Chosen}
use Rattle.bytecode.specs.Run.{BoardList}
use Rattle.bytecode.specs.Origin.{Numbered}
use Rattle.bytecode.proofs.Origins.{Follows, same-outputs}
use Rattle.lowering.specs.Compile.{board_list_of}
use Rattle.lowering.proofs.Promise.{ListMeans, runs-mean}

-- beside a run of version 1's list in a memory of its own
pub follows-means : (x : Chosen) → AllSound (x.function ∷ x.early) → (b' : BoardList) (xs : List Numbered) → Follows (board_list_of x.early x.function) b' xs
    → ListMeans x b'
follows-means x sound b' xs follows args typed m l =
    let b = board_list_of x.early x.function in
    let own : List ℕ = replicate b.words 0 in
    let room : length own ≡ b.words = length-replicate b.words 0 in
    let (vs, meant, of_types, outputs) = runs-mean x sound args typed own (omega arith) in
    (vs, meant, of_types, same-outputs b b' xs follows (all_words args) own m (typed-widths x.function.inputs args typed) (omega arith) l ∙ outputs)
