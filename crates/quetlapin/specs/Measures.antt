-- The function of an id: found in its table and measured, and what is answered of its sizes.
use Rattle.std.specs.Prelude.{ℕ, suc, ◌+◌, ◌*◌, ◌≤◌, ◌≡◌, cond, List, leb, length, Option, Some, None, Result, Ok, Err}
use Rattle.base.specs.Limits.{header_length, operation_limit, word_limit, within_limits}
use Rattle.base.specs.Outcome.{Outcome, ok, fault, ◌>>=◌, ◌>>◌, need, or_else}
use Rattle.base.specs.Refusals.{number, mapped}
use Rattle.base.specs.declared.refusal.Refusal.{Refusal}
use Rattle.ports.specs.Ports.{widths}
use Rattle.graph.specs.Types.{output_types}
use Rattle.graph.specs.Judge.{table}
use Rattle.graph.specs.Sums.{function_operations, operations_of, function_words}
use Rattle.graph.specs.Table.{Chosen, chosen}
use Rattle.bytecode.specs.declared.Version.{Version}
use Rattle.bytecode.specs.declared.Version.TheVariants.{V1, V2}
use Rattle.lowering.specs.Answers.{Job, words_of, code_of, compilable, compiled}
use Rattle.sums.specs.declared.Sizes.{Sizes}
use Rattle.sums.specs.CodeSums.{function_instructions, function_bytes, instructions_of, bytes_of_function}
use Rattle.sums.specs.Position.{function_in, before, Accepted, Started}
use Rattle.sums.specs.Capped.{SumsHeld}
use Rattle.sums.specs.Answers as sums
use Rattle.compiler.specs.declared.Layout.{Layout}
use Rattle.compiler.specs.Whole.{LaidOut}
use Rattle.quetlapin.specs.declared.lookup.Found.{Found}

-- ---- the function of an id

-- the table's refusals, then 14
abbrev pub named : List ℕ → ℕ → Outcome Chosen
named s c = do
  fs ← table s
  or_else (chosen c fs) 14 0

-- the function at position k, and those before it
abbrev pub chosen_at : List ℕ → ℕ → Chosen
chosen_at s k = record { function = function_in s k; early = before s k }

-- its sizes, where it is within the limits; the code is that of version 1
unfoldable pub exact_sizes : Chosen → Sizes
exact_sizes x =
    let f = x.function in
    record {
      place = f.place;
      operations = function_operations (operations_of x.early) f;
      words = function_words x.early f;
      instructions = function_instructions (instructions_of x.early) f;
      bytes = function_bytes (bytes_of_function x.early) f;
      code = length (code_of V1 x);
      arguments = widths f.inputs;
      outputs = widths (output_types f.outputs);
    }

-- ---- found and measured: what the compiler asks

pub record FoundAt (s : List ℕ) (c : ℕ) (f : Found) : Type 0 where
  pub accepted : Accepted s (suc f.position)
  pub named : named s c ≡ ok (chosen_at s f.position)
  pub sizes : sums.Measures s f.position f.sizes
  pub places : Started s f.starts (suc f.position)
  pub held : SumsHeld s f.sums (suc f.position)

-- what was lent was filled, or a refusal
abbrev pub Finds : List ℕ → ℕ → Found → Result (Unit {0}) Refusal → Type 0
Finds s c f (Ok u) = FoundAt s c f
Finds s c f (Err e) = named s c ≡ fault (number e.fault) e.place

-- a function and a version
abbrev pub job_at : Version → List ℕ → ℕ → Job
job_at v s k = record { chosen = chosen_at s k; version = v }

-- and within the limits of version 1
pub record ReadyAt (s : List ℕ) (c : ℕ) (f : Found) : Type 0 where
  pub found : FoundAt s c f
  pub compilable : compilable s c 1 ≡ ok (job_at V1 s f.position)
  pub sizes : f.sizes ≡ exact_sizes (chosen_at s f.position)
  pub few-operations : f.sizes.operations ≤ operation_limit
  pub few_words : f.sizes.words ≤ word_limit

-- what is asked of the sizes of a function: 15
abbrev pub operations_allowed : Sizes → Outcome (Unit {0})
operations_allowed m = need (leb m.operations operation_limit) 15 0

-- 15, and 16 by the words of version 1
abbrev pub limits_allowed : Sizes → Outcome (Unit {0})
limits_allowed m = do
  operations_allowed m
  need (leb m.words word_limit) 16 0

-- its code in version 1 fits so many bytes: 17
abbrev pub code_allowed : Sizes → ℕ → Outcome (Unit {0})
code_allowed m room = need (leb m.code room) 17 0

-- ---- in version 2

-- the length of the code of version 2, by the sizes of a function: each instruction has an address more
abbrev pub placed_length : Sizes → ℕ
placed_length m = header_length + m.bytes + 2 * m.instructions + 2 * m.outputs

-- the words are placed, and the code fits so many bytes: 16, 17
abbrev pub Laid : List ℕ → Found → ℕ → Layout → List ℕ → Result ℕ Refusal → Type 0
Laid s f room l place (Ok words) =
    LaidOut s f.position l place (Some words) × (words ≡ words_of V2 (chosen_at s f.position)) × (words ≤ word_limit) × (placed_length f.sizes ≤ room)
Laid s f room l place (Err e) =
    (c : ℕ) → named s c ≡ ok (chosen_at s f.position) → (code : List ℕ) → length code ≡ room → compiled s c 2 code ≡ fault (number e.fault) e.place

-- ---- answers

abbrev pub measured_of : Outcome Job → Outcome Sizes
measured_of = mapped (λ j. exact_sizes j.chosen)

abbrev pub up_to : ℕ → ℕ → Option ℕ
up_to limit n = cond (leb n limit) (Some n) None

-- a count within its limit, or none
abbrev pub count_of : (Chosen → Option ℕ) → Outcome Chosen → Outcome (Option ℕ)
count_of = mapped

unfoldable pub operation_count : Chosen → Option ℕ
operation_count x = up_to operation_limit (function_operations (operations_of x.early) x.function)

unfoldable pub word_count : Chosen → Option ℕ
word_count x = up_to word_limit (function_words x.early x.function)

-- of a function within both limits
unfoldable pub code_count : Chosen → Option ℕ
code_count x =
    cond (within_limits (function_operations (operations_of x.early) x.function) (function_words x.early x.function)) (Some (length (code_of V1 x))) None
