-- A well-formed list that has the counts of a function and its meaning is taken by the runner, and gives the words of what the graph means.
use Prim.Native.Nat.{ℕ, ◌≤◌}
use mathlib.Core.Path.{◌≡◌, refl, ap, sym, ◌∙◌, subst}
use mathlib.Core.Bool.{◌&&◌}
use mathlib.Core.List.{List, ◌∷◌}
use mathlib.Core.Option.{some}
use lib.Dec.{leb, eqb}
use lib.ListN.{length}
use lib.Seq.{sets}
use borrow.Author.Tests.{le-leb, eq-eqb}
use Rattle.ports.specs.Ports.{widths}
use Rattle.base.specs.Lists.{word_at, every, Each}
use Rattle.base.specs.Outcome.{Outcome, ok, ◌>>◌, need, or_else}
use Rattle.base.proofs.Bools.{and_both}
use Rattle.base.proofs.Outcomes.{takes, passes, some-else}
use Rattle.value.specs.Values.{all_words, values_of, argument_word}
use Rattle.value.specs.Typed.{Finite}
use Rattle.value.proofs.Laws.{values-typed, words-of-values, typed-widths, all-finite}
use Rattle.graph.specs.Graph.{Function}
use Rattle.graph.specs.Types.{output_types}
use Rattle.graph.specs.Sound.{AllSound}
use Rattle.graph.specs.Meaning.{meaning_of, graph_means}
use Rattle.graph.specs.Table.{Chosen, chosen}
use Rattle.graph.proofs.Table.{chosen-means}
use Rattle.bytecode.specs.declared.Version.{Version}
use Rattle.bytecode.specs.Run.{BoardList, run}
use Rattle.bytecode.specs.Code.{encode, decode}
use Rattle.bytecode.specs.WellFormed.{FormedList}
use Rattle.bytecode.specs.Answers.{Buffers, ran}
use Rattle.bytecode.proofs.Back.{decode-encode}
use Rattle.bytecode.proofs.Unwritten.{above-stays}
use Rattle.lowering.proofs.Promise.{ListMeans}

-- a list of a version for a function, however it was made
pub record Serves (v : Version) (x : Chosen) (b : BoardList) : Type 0 where
  pub formed : FormedList v b
  pub arguments : b.arguments ≡ widths x.function.inputs
  pub outputs : length b.outputs ≡ widths (output_types x.function.outputs)
  pub means : ListMeans x b

-- what a run of it leaves
abbrev pub left_by : Chosen → BoardList → List ℕ → List ℕ → List ℕ → Buffers
left_by x b arguments work out =
    record { count = widths (output_types x.function.outputs); work = (run b arguments work).memory; out = sets out 0 (run b arguments work).outputs }

module _ (v : Version) (x : Chosen) (b : BoardList) (serves : Serves v x b) (arguments work out : List ℕ) where
  -- 18 does not arise, and what the others ask is known from the function and the list's words
  pub judged : ran (encode v b) arguments work out ≡ (do
    need (eqb (length arguments) (widths x.function.inputs)) 19 0
    need (every argument_word arguments) 20 0
    need (leb b.words (length work) && leb (widths (output_types x.function.outputs)) (length out)) 21 0
    ok (left_by x b arguments work out))
  unfolding ran
  judged =
      takes (or_else (decode (encode v b)) _ _) _ b (some-else _ _ (decode-encode v b serves.formed))
      ∙ ap (λ (a : ℕ). by a (length b.outputs)) serves.arguments
      ∙ ap (by (widths x.function.inputs)) serves.outputs
    where
      by : ℕ → ℕ → Outcome Buffers
      by inputs outputs = do
        need (eqb (length arguments) inputs) 19 0
        need (every argument_word arguments) 20 0
        need (leb b.words (length work) && leb outputs (length out)) 21 0
        ok (record { count = outputs; work = (run b arguments work).memory; out = sets out 0 (run b arguments work).outputs })

  module _ (finite : Each Finite arguments) (count : length arguments ≡ widths x.function.inputs) (room : b.words ≤ length work) where
    pub taken : widths (output_types x.function.outputs) ≤ length out → ran (encode v b) arguments work out ≡ ok (left_by x b arguments work out)
    taken fits =
        judged
        ∙ passes (eqb (length arguments) (widths x.function.inputs)) _ _ _ (eq-eqb _ _ count)
        ∙ passes (every argument_word arguments) _ _ _ (all-finite arguments finite)
        ∙ passes (leb b.words (length work) && leb (widths (output_types x.function.outputs)) (length out)) _ _ _
        (and_both _ _ (le-leb _ _ room) (le-leb _ _ fits))

    pub rest-stays : (i : ℕ) → b.words ≤ i → word_at (run b arguments work).memory i ≡ word_at work i
    rest-stays i h = above-stays v b serves.formed arguments work (count ∙ sym serves.arguments) i h

    -- what it gives is what the graph means
    pub given : (latest : List Function) (c : ℕ) → chosen c latest ≡ some x → AllSound (x.function ∷ x.early)
        → (answer : List ℕ) × (graph_means latest c arguments ≡ some answer) × (length answer ≡ widths (output_types x.function.outputs))
        × ((run b arguments work).outputs ≡ answer)
    given latest c chose sound =
        let f = x.function in
        let args = values_of f.inputs arguments in
        let same : all_words args ≡ arguments = words-of-values f.inputs arguments finite count in
        let (vs, meant, typed, outputs) = serves.means args (values-typed f.inputs arguments sound.0.resolved.formed.input_types) work room in
        let m : meaning_of latest c args ≡ some vs = chosen-means c latest x args chose ∙ meant in (
          all_words vs,
          rw (chose, m) refl,
          typed-widths (output_types f.outputs) vs typed,
          subst (λ (ws : List ℕ). (run b ws work).outputs ≡ all_words vs) same outputs,
        )
