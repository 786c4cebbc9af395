-- Demand 3 as one statement: from table to output words.
use Rattle.std.specs.Prelude.{ℕ, ◌≤◌, ◌≡◌, List, reverse, length}
use Rattle.std.proofs.Math.Option.{some}
use Rattle.std.proofs.lemmas.List.Edits.{sets}
use Rattle.ports.specs.Ports.{widths}
use Rattle.base.specs.Lists.{word_at, Each}
use Rattle.base.specs.Bytes.{Bytes}
use Rattle.base.specs.Limits.{operation_limit, word_limit}
use Rattle.value.specs.Typed.{Finite}
use Rattle.graph.specs.Graph.{Function}
use Rattle.graph.specs.Format.{format_of}
use Rattle.graph.specs.Rules.{Meets}
use Rattle.graph.specs.Types.{output_types}
use Rattle.graph.specs.Sums.{function_operations, operations_of}
use Rattle.graph.specs.Meaning.{graph_means}
use Rattle.graph.specs.Table.{Chosen, chosen}
use Rattle.bytecode.specs.declared.Version.{Version}
use Rattle.bytecode.specs.Version.{version_of}
use Rattle.lowering.specs.Answers.{words_of, code_of}

-- the bytes are a table of these functions that meets 01's rules, and the function of the id, with the list of the version that n names, is
-- within the limits; `functions` has the order of the table
pub record Within (s : List ℕ) (c n : ℕ) (functions : List Function) (v : Version) (x : Chosen) : Type 0 where
  pub bytes : Bytes s
  pub meets : Meets (format_of s) s functions
  pub chosen : chosen c (reverse functions) ≡ some x
  pub version : version_of n ≡ some v
  pub operations : function_operations (operations_of x.early) x.function ≤ operation_limit
  pub words : words_of v x ≤ word_limit

-- finite arguments of the right count, and buffers that are long enough
pub record Lent (v : Version) (x : Chosen) (arguments code work out : List ℕ) : Type 0 where
  pub finite : Each Finite arguments
  pub count : length arguments ≡ widths x.function.inputs
  pub code_fits : length (code_of v x) ≤ length code
  pub work-fits : words_of v x ≤ length work
  pub out-fits : widths (output_types x.function.outputs) ≤ length out

-- the answer is the count of the words that the graph means, and the output buffer begins with these words, bit for bit; the code buffer
-- begins with the list's bytes; behind these, and behind the list's words in the work buffer, nothing has changed
pub record Meant (Answer : ℕ → Type 0) (functions : List Function) (c : ℕ) (v : Version) (x : Chosen) (arguments code work out code' work' out' : List ℕ) : Type 0 where
  pub answer : List ℕ
  pub meant : graph_means (reverse functions) c arguments ≡ some answer
  pub size : length answer ≡ widths (output_types x.function.outputs)
  pub count : Answer (length answer)
  pub given : out' ≡ sets out 0 answer
  pub list : code' ≡ sets code 0 (code_of v x)
  pub same : length work' ≡ length work
  pub rest : (i : ℕ) → words_of v x ≤ i → word_at work' i ≡ word_at work i

-- for every function of an accepted table and both versions of its list within the limits, finite arguments of the right count, and buffers that are long enough;
-- `Answer n` says that the answer is n, in the form in which it is given
abbrev pub Demand3 : (ℕ → Type 0) → List ℕ → ℕ → ℕ → List ℕ → List ℕ → List ℕ → List ℕ → List ℕ → List ℕ → List ℕ → Type 0
Demand3 Answer s c n arguments code work out code' work' out' =
    (functions : List Function) (v : Version) (x : Chosen) → Within s c n functions v x → Lent v x arguments code work out
    → Meant Answer functions c v x arguments code work out code' work' out'
