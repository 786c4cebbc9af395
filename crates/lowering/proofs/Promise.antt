-- A run of the board list of a function gives the words of what the function means, whatever the memory held.
use Prim.Native.Nat.{ℕ, ◌≤◌}
use mathlib.Core.Path.{◌≡◌, refl, ap, sym, ◌∙◌}
use mathlib.Core.List.{List, [], ◌∷◌, map, map-append}
use mathlib.Core.Option.{some}
use native.Mathlib.Omega.{arith}
use lib.ListN.{length}
use lib.Seq.{sets, length-sets}
use Rattle.value.specs.declared.Value.{Value}
use Rattle.ports.specs.Ports.{width, widths}
use Rattle.value.specs.Values.{words_of, all_words}
use Rattle.base.specs.Lists.{word_at, span, words_at}
use Rattle.value.specs.Typed.{Typed}
use Rattle.value.proofs.Laws.{of_width, typed-widths}
use Rattle.graph.specs.Graph.{Function}
use Rattle.graph.specs.Types.{output_types}
use Rattle.graph.specs.Sound.{AllSound}
use Rattle.graph.specs.Meaning.{function_means, meaning_of}
use Rattle.graph.specs.Table.{Chosen}
use Rattle.bytecode.specs.Run.{BoardList, run, places, spans}
use Rattle.graph.specs.Schedule.{schedule}
use Rattle.lowering.specs.Compile.{inline_function, inlined, board_list_of}
use Rattle.bytecode.proofs.Memory.{Stand, stand-placed}
use Rattle.base.proofs.Stores.{sets-words}
use Rattle.lowering.proofs.Simulate.{inlined-up, nodes-up, Served, serves, function-served}

-- the words at the addresses of the outputs
pub spans-words : (m : List ℕ) (hi : ℕ) (ts at : List ℕ) (vs : List Value) → Typed ts vs → Stand m hi at vs → map (word_at m) (spans ts at) ≡ all_words vs
spans-words m hi [] at [] h s = refl
spans-words m hi [] at (v ∷ vs) h s = absurd h
spans-words m hi (t ∷ ts) at [] h s = absurd h
spans-words m hi (t ∷ ts) [] (v ∷ vs) h s = absurd s
spans-words m hi (t ∷ ts) (a ∷ at) (v ∷ vs) (o, h) (p, s) =
    let x : words_at m a (width t) ≡ words_of v = ap (λ (n : ℕ). words_at m a n) (sym (of_width t v o)) ∙ p.words in
    let y : map (word_at m) (spans ts at) ≡ all_words vs = spans-words m hi ts at vs h s in
    map-append (word_at m) (span a (width t)) (spans ts at) ∙ cc

pub record Runs (early : List Function) (f : Function) (args : List Value) (m : List ℕ) : Type 0 where
  pub values : List Value
  pub meant : function_means (meaning_of early) f args ≡ some values
  pub typed : Typed (output_types f.outputs) values
  pub outputs : (run (board_list_of early f) (all_words args) m).outputs ≡ all_words values

-- the run of the instructions, once the arguments stand
pub whole-served : (early : List Function) (f : Function) → AllSound (f ∷ early) → (args : List Value) → Typed f.inputs args → (m : List ℕ)
    → (board_list_of early f).words ≤ length m
    → Served (sets m 0 (all_words args)) (widths f.inputs) (inline_function widths (inlined widths early) f (places 0 f.inputs) (widths f.inputs))
    (output_types f.outputs) (function_means (meaning_of early) f args)
whole-served early f (sound, sounds) args typed m l =
    let ins = places 0 f.inputs in
    let start = widths f.inputs in
    let m' = sets m 0 (all_words args) in
    let count : length (all_words args) ≡ start = typed-widths f.inputs args typed in
    let up : start ≤ (inline_function widths (inlined widths early) f ins start).next = nodes-up (inlined widths early) (inlined-up early) ins (schedule f.nodes) [] start in
    let same : length m' ≡ length m = length-sets m 0 (all_words args) in
    let stood : Stand m' start ins args =
    stand-placed m' start f.inputs args 0 typed (omega arith) (sets-words (all_words args) m 0 (omega arith)) in
    function-served early f args ins sound (serves early sounds) typed start m' stood (omega arith)

pub runs : (early : List Function) (f : Function) → AllSound (f ∷ early) → (args : List Value) → Typed f.inputs args → (m : List ℕ)
    → (board_list_of early f).words ≤ length m → Runs early f args m
runs early f sound args typed m l =
    let o = inline_function widths (inlined widths early) f (places 0 f.inputs) (widths f.inputs) in
    let r = whole-served early f sound args typed m l in
    record {
      values = r.values;
      meant = r.meant;
      typed = r.typed;
      outputs = spans-words _ o.next (output_types f.outputs) o.ports r.values r.typed r.stand;
    }

-- ---- for any list of a function

-- on any arguments of the right types and in any memory long enough, the list's output words are those of what the function means
abbrev pub ListMeans : Chosen → BoardList → Type 0
ListMeans x b =
    (args : List Value) → Typed x.function.inputs args → (m : List ℕ) → b.words ≤ length m
    → (vs : List Value) × (function_means (meaning_of x.early) x.function args ≡ some vs) × Typed (output_types x.function.outputs) vs
    × ((run b (all_words args) m).outputs ≡ all_words vs)

pub runs-mean : (x : Chosen) → AllSound (x.function ∷ x.early) → ListMeans x (board_list_of x.early x.function)
runs-mean x sound args typed m l = let r = runs x.early x.function sound args typed m l in (r.values, r.meant, r.typed, r.outputs)
