-- What the compiler answers, and what it and the runner answer together.
use Rattle.std.specs.Prelude.{ℕ, List, leb, length, take}
use Rattle.std.proofs.lemmas.List.Edits.{sets}
use Rattle.base.specs.Outcome.{Outcome, ok, ◌>>=◌, ◌>>◌, need, or_else}
use Rattle.base.specs.Limits.{operation_limit, word_limit}
use Rattle.graph.specs.Graph.{Function}
use Rattle.graph.specs.Judge.{table}
use Rattle.graph.specs.Sums.{function_operations, operations_of, function_words}
use Rattle.graph.specs.Table.{Chosen, chosen}
use Rattle.bytecode.specs.declared.Version.{Version}
use Rattle.bytecode.specs.declared.Version.TheVariants.{V1, V2}
use Rattle.bytecode.specs.Version.{version_of}
use Rattle.bytecode.specs.Run.{BoardList}
use Rattle.bytecode.specs.Code.{encode}
use Rattle.bytecode.specs.Answers.{ran}
use Rattle.placement.specs.Place.{reusing}
use Rattle.lowering.specs.Compile.{board_list_of}

-- ---- a function's list in a version

-- in version 2 its words are used again
abbrev pub list_of : Version → Chosen → BoardList
list_of V1 x = board_list_of x.early x.function
list_of V2 x = reusing x.function.inputs (board_list_of x.early x.function)

-- 01's sum; in version 2 the highest word ever held plus one
abbrev pub words_of : Version → Chosen → ℕ
words_of V1 x = function_words x.early x.function
words_of V2 x = (list_of V2 x).words

abbrev pub code_of : Version → Chosen → List ℕ
code_of v x = encode v (list_of v x)

-- ---- the compiler: 14, 31, 15, 16, 17

-- a function and a version of its list
pub record Job : Type 0 where
  pub chosen : Chosen
  pub version : Version

-- the function of an id and the version of a number, within the limits; the functions stand the last first
abbrev pub within : List Function → ℕ → ℕ → Outcome Job
within latest c n = do
  x ← or_else (chosen c latest) 14 0
  v ← or_else (version_of n) 31 0
  need (leb (function_operations (operations_of x.early) x.function) operation_limit) 15 0
  need (leb (words_of v x) word_limit) 16 0
  ok (record { chosen = x; version = v })

-- of an accepted table
abbrev pub compilable : List ℕ → ℕ → ℕ → Outcome Job
compilable s c n = do
  latest ← table s
  within latest c n

-- the code's length, and the buffer with the code at its front
pub record Compiled : Type 0 where
  pub size : ℕ
  pub buffer : List ℕ

unfoldable pub compiled : List ℕ → ℕ → ℕ → List ℕ → Outcome Compiled
compiled s c n buffer = do
  j ← compilable s c n
  need (leb (length (code_of j.version j.chosen)) (length buffer)) 17 0
  ok (record { size = length (code_of j.version j.chosen); buffer = sets buffer 0 (code_of j.version j.chosen) })

-- ---- from table to output words: the compiler's answer, then the runner's on the code's bytes alone

-- the count of output words, and the three buffers after it
pub record Evaluated : Type 0 where
  pub count : ℕ
  pub code : List ℕ
  pub work : List ℕ
  pub out : List ℕ

-- a refusal leaves all three buffers as they were
unfoldable pub evaluated : List ℕ → ℕ → ℕ → List ℕ → List ℕ → List ℕ → List ℕ → Outcome Evaluated
evaluated s c n arguments code work out = do
  a ← compiled s c n code
  b ← ran (take a.size a.buffer) arguments work out
  ok (record { count = b.count; code = a.buffer; work = b.work; out = b.out })
