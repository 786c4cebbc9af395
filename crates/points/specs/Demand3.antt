-- Demand 3 for each point: from table to that point's output words.
use Rattle.std.specs.Prelude.{ℕ, ◌*◌, ◌≤◌, ◌<◌, ◌≡◌, List, reverse, length, take, drop}
use Rattle.std.proofs.Math.Option.{some}
use Rattle.ports.specs.Ports.{widths}
use Rattle.base.specs.Lists.{word_at, Each}
use Rattle.base.specs.Limits.{point_limit}
use Rattle.value.specs.Typed.{Finite}
use Rattle.graph.specs.Graph.{Function}
use Rattle.graph.specs.Types.{output_types}
use Rattle.graph.specs.Meaning.{graph_means}
use Rattle.graph.specs.Table.{Chosen}
use Rattle.bytecode.specs.declared.Version.{Version}
use Rattle.lowering.specs.Answers.{words_of, code_of}
use Rattle.lowering.specs.Demand3.{Within}

-- the words of point i, where each point has `size`
abbrev pub part : ℕ → ℕ → List ℕ → List ℕ
part size i words = take size (drop (i * size) words)

abbrev pub input_words : Chosen → ℕ
input_words x = widths x.function.inputs

abbrev pub output_words : Chosen → ℕ
output_words x = widths (output_types x.function.outputs)

-- at most 1,024 points, finite arguments of the right count for each, and buffers that are long enough
pub record LentPoints (v : Version) (x : Chosen) (points : ℕ) (arguments work out : List ℕ) : Type 0 where
  pub few : points ≤ point_limit
  pub finite : Each Finite arguments
  pub count : length arguments ≡ points * input_words x
  pub work-fits : words_of v x ≤ length work
  pub out-fits : points * output_words x ≤ length out

-- the answer is the count of all output words; at each point they are the words that the graph means there, bit for bit; behind these, and
-- behind the list's words in the work buffer, nothing has changed
pub record MeantPoints (Answer : ℕ → Type 0) (functions : List Function) (c : ℕ) (v : Version) (x : Chosen) (points : ℕ) (arguments work out work' out' : List ℕ) : Type 0 where
  pub count : Answer (points * output_words x)
  pub meant : (i : ℕ) → i < points → graph_means (reverse functions) c (part (input_words x) i arguments) ≡ some (part (output_words x) i out')
  pub out-same : length out' ≡ length out
  pub out-rest : (i : ℕ) → points * output_words x ≤ i → word_at out' i ≡ word_at out i
  pub work-same : length work' ≡ length work
  pub work-rest : (i : ℕ) → words_of v x ≤ i → word_at work' i ≡ word_at work i

-- for every function of an accepted table and both versions of its list within the limits whose code this is
abbrev pub Demand3Points : (ℕ → Type 0) → List ℕ → ℕ → List ℕ → List ℕ → List ℕ → List ℕ → List ℕ → Type 0
Demand3Points Answer code points arguments work out work' out' =
    (s : List ℕ) (c n : ℕ) (functions : List Function) (v : Version) (x : Chosen) → Within s c n functions v x → code ≡ code_of v x
    → LentPoints v x points arguments work out → MeantPoints Answer functions c v x points arguments work out work' out'
