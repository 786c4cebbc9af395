-- The sums of a function by its position, capped.
use Rattle.std.specs.Prelude.{ℕ, ◌+◌, ◌*◌, ◌≤◌, ◌<◌, min, ◌≡◌, List, get_or}
use Rattle.base.specs.Limits.{code_limit, operation_limit, word_limit}
use Rattle.ports.specs.declared.Ports.{Ports}
use Rattle.ports.specs.Ports as PortList
use Rattle.ports.specs.Ports.{constant_in}
use Rattle.graph.specs.Graph.{Node}
use Rattle.graph.specs.Sums.{sum, node_operations, function_operations, operations_of, node_words, result_words, result_words_of}
use Rattle.sums.specs.CodeSums.{node_instructions, node_bytes, function_instructions, function_bytes, instructions_of, bytes_of_function}
use Rattle.sums.specs.Position.{function_in, before}
use Rattle.sums.specs.declared.Sums.{Sums}

-- sums saturate at one more than their limits
abbrev pub operation_cap : ℕ
operation_cap = operation_limit + 1

abbrev pub word_cap : ℕ
word_cap = word_limit + 1

abbrev pub byte_cap : ℕ
byte_cap = code_limit + 1

-- of the function at a position
unfoldable pub operations_at : List ℕ → ℕ → ℕ
operations_at s k = function_operations (operations_of (before s k)) (function_in s k)

unfoldable pub result_words_at : List ℕ → ℕ → ℕ
result_words_at s k = result_words (result_words_of (before s k)) (function_in s k)

unfoldable pub instructions_at : List ℕ → ℕ → ℕ
instructions_at s k = function_instructions (instructions_of (before s k)) (function_in s k)

unfoldable pub bytes_at : List ℕ → ℕ → ℕ
bytes_at s k = function_bytes (bytes_of_function (before s k)) (function_in s k)

abbrev pub own_sums : List ℕ → ℕ → Sums
own_sums s k = record { operations = operations_at s k; words = result_words_at s k; instructions = instructions_at s k; bytes = bytes_at s k }

-- what a node adds to the sums of the function at position k
abbrev pub adds_words : List ℕ → ℕ → Node → ℕ
adds_words s k n = node_words (result_words_of (before s k)) n n.payload

abbrev pub adds_sums : List ℕ → ℕ → Node → Sums
adds_sums s k n =
    record {
      operations = node_operations (operations_of (before s k)) n.payload;
      words = adds_words s k n;
      instructions = node_instructions (instructions_of (before s k)) n.payload;
      bytes = node_bytes (bytes_of_function (before s k)) n n.payload;
    }

-- ---- as they are taken

abbrev pub no_sums : Sums
no_sums = record { operations = 0; words = 0; instructions = 0; bytes = 0 }

abbrev pub both : Sums → Sums → Sums
both a b =
    record {
      operations = a.operations + b.operations;
      words = a.words + b.words;
      instructions = a.instructions + b.instructions;
      bytes = a.bytes + b.bytes;
    }

abbrev pub cap_sums : Sums → Sums
cap_sums x =
    record {
      operations = min operation_cap x.operations;
      words = min word_cap x.words;
      instructions = min operation_cap x.instructions;
      bytes = min byte_cap x.bytes;
    }

abbrev pub Small : Sums → Type 0
Small r = (r.operations ≤ byte_cap) × (r.words ≤ byte_cap) × (r.instructions ≤ byte_cap) × (r.bytes ≤ byte_cap)

-- what some nodes add
abbrev pub nodes_sums : List ℕ → ℕ → List Node → Sums
nodes_sums s k ns =
    record {
      operations = sum (λ n. (adds_sums s k n).operations) ns;
      words = sum (adds_words s k) ns;
      instructions = sum (λ n. (adds_sums s k n).instructions) ns;
      bytes = sum (λ n. (adds_sums s k n).bytes) ns;
    }

-- what a call adds, whose callee has these
abbrev pub call_sums : Sums → Sums
call_sums x = record { operations = 1 + x.operations; words = x.words; instructions = x.instructions; bytes = x.bytes }

-- what any other node adds, by its kind's row and its type byte
abbrev pub plain_sums : Ports → ℕ → Sums
plain_sums row ty =
    record { operations = 1; words = PortList.result_words row ty; instructions = 1; bytes = 2 + 2 * row.operands + 8 * constant_in row.form row.words }

-- the numbers are what a node adds, or both are at the cap or above it
pub record Caps (s : List ℕ) (k : ℕ) (n : Node) (r : Sums) : Type 0 where
  pub same : cap_sums r ≡ cap_sums (adds_sums s k n)
  pub small : Small r

-- ---- in the array

-- of the function at a position
abbrev pub capped_sums : List ℕ → ℕ → Sums
capped_sums s k = cap_sums (own_sums s k)

abbrev pub capped_words : List ℕ → ℕ → ℕ
capped_words s k = min word_cap (result_words_at s k)

abbrev pub capped_instructions : List ℕ → ℕ → ℕ
capped_instructions s k = min operation_cap (instructions_at s k)

-- those that stand at j
abbrev pub sums_at : List Sums → ℕ → Sums
sums_at xs j = get_or xs j no_sums

-- the sums of the functions before k
abbrev pub SumsHeld : List ℕ → List Sums → ℕ → Type 0
SumsHeld s xs k = (g : ℕ) → g < k → sums_at xs g ≡ capped_sums s g
