-- 02, request 10, as one statement about a run of a code: every such list is taken, and gives the words of version 1's.
use Rattle.std.specs.Prelude.{ℕ, ◌≤◌, ◌≡◌, List, reverse, length}
use Rattle.std.proofs.Math.Option.{some}
use Rattle.std.proofs.lemmas.List.Edits.{sets}
use Rattle.ports.specs.Ports.{widths}
use Rattle.base.specs.Lists.{word_at, Each}
use Rattle.base.specs.Outcome.{ok}
use Rattle.value.specs.Typed.{Finite}
use Rattle.graph.specs.Graph.{Function}
use Rattle.graph.specs.Types.{output_types}
use Rattle.graph.specs.Meaning.{graph_means}
use Rattle.graph.specs.Table.{Chosen}
use Rattle.bytecode.specs.declared.Version.TheVariants.{V1, V2}
use Rattle.bytecode.specs.Run.{BoardList, run}
use Rattle.bytecode.specs.Code.{encode}
use Rattle.bytecode.specs.Answers.{ran}
use Rattle.lowering.specs.Answers.{list_of, words_of, code_of}
use Rattle.lowering.specs.Demand3.{Within}
use Rattle.reordering.specs.Reorder.{Routing, reordered, Respects}

-- the router's list of a function
abbrev pub list_by : Chosen → Routing → BoardList
list_by x r = reordered x.function.inputs (list_of V1 x) r

-- finite arguments of the right count, and buffers that are long enough for a list
pub record LentFor (x : Chosen) (b : BoardList) (arguments work out : List ℕ) : Type 0 where
  pub finite : Each Finite arguments
  pub count : length arguments ≡ widths x.function.inputs
  pub work-fits : b.words ≤ length work
  pub out-fits : widths (output_types x.function.outputs) ≤ length out

-- the list is taken: the answer is the count of the words that the graph means, and the output buffer begins with these words, bit for bit, as
-- after a run of version 1's code in any work buffer long enough; the work buffer is as a run of the list leaves it, and the same behind its words
pub record SameWords (Answer : ℕ → Type 0) (functions : List Function) (c : ℕ) (x : Chosen) (b : BoardList) (arguments work out work' out' : List ℕ) : Type 0 where
  pub answer : List ℕ
  pub meant : graph_means (reverse functions) c arguments ≡ some answer
  pub size : length answer ≡ widths (output_types x.function.outputs)
  pub count : Answer (length answer)
  pub given : out' ≡ sets out 0 answer
  pub version-1 : (m : List ℕ) → words_of V1 x ≤ length m
      → ran (code_of V1 x) arguments m out ≡ ok (record { count = length answer; work = (run (list_of V1 x) arguments m).memory; out = out' })
  pub left : work' ≡ (run b arguments work).memory
  pub rest : (i : ℕ) → b.words ≤ i → word_at work' i ≡ word_at work i

-- for every function of an accepted table within the limits of version 1, and every order and placement that respects its list, whose code this is;
-- `Answer n` says that the answer is n, in the form in which it is given
abbrev pub AnyOrder : (ℕ → Type 0) → List ℕ → List ℕ → List ℕ → List ℕ → List ℕ → List ℕ → Type 0
AnyOrder Answer code arguments work out work' out' =
    (s : List ℕ) (c : ℕ) (functions : List Function) (x : Chosen) (r : Routing) → Within s c 1 functions V1 x → Respects x.function.inputs (list_of V1 x) r
    → code ≡ encode V2 (list_by x r) → LentFor x (list_by x r) arguments work out → SameWords Answer functions c x (list_by x r) arguments work out work' out'
