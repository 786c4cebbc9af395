-- The sizes of a function, and what is answered of them.
use Rattle.std.specs.Prelude.{ℕ, zero, suc, ◌+◌, ◌*◌, min, ◌≤◌, ◌≡◌, cond, List, [], ◌∷◌, length}
use Rattle.ports.specs.Ports.{widths}
use Rattle.base.specs.Bytes.{byte}
use Rattle.graph.specs.Graph.{Function}
use Rattle.graph.specs.Types.{output_types}
use Rattle.graph.specs.Sums.{function_operations, operations_of, function_words}
use Rattle.lowering.specs.Compile.{board_list_of}
use Rattle.base.specs.Limits.{port_word_limit, within_limits, header_length}
use Rattle.bytecode.specs.declared.Version.TheVariants.{V1}
use Rattle.bytecode.specs.Code.{encode}
use Rattle.reader.specs.Layout.{function_at}
use Rattle.reader.specs.Find.{ReadsFunction}
use Rattle.sums.specs.CodeSums.{function_instructions, function_bytes, instructions_of, bytes_of_function}
use Rattle.sums.specs.Position.{function_in, before}
use Rattle.sums.specs.Capped.{operation_cap, word_cap, byte_cap}
use Rattle.sums.specs.declared.PortWords.{PortWords}
use Rattle.sums.specs.declared.Sizes.{Sizes}

-- n type bytes, each `step` behind the one before it
abbrev pub types_by : ℕ → ℕ → List ℕ → ℕ → List ℕ
types_by step zero s at = []
types_by step (suc n) s at = byte s at ∷ types_by step n s (at + step)

-- of the function at p
pub record PortWordsAt (s : List ℕ) (p : ℕ) (r : PortWords) : Type 0 where
  pub inputs : r.inputs ≡ widths (function_at s p).inputs
  pub outputs : r.outputs ≡ widths (output_types (function_at s p).outputs)
  pub few : (r.inputs ≤ port_word_limit) × (r.outputs ≤ port_word_limit)

-- the header, the instructions, and an address for each output word
unfoldable pub code_length : ℕ → ℕ → ℕ → ℕ → ℕ
code_length operations words bytes outputs = cond (within_limits operations words) (header_length + bytes + 2 * outputs) 0

-- ---- of a function over those before it

-- a count above its limit is one above it, and the code then 0
unfoldable pub capped_sizes : List Function → Function → Sizes
capped_sizes early f =
    let operations = function_operations (operations_of early) f in
    let words = function_words early f in
    record {
      place = f.place;
      operations = min operation_cap operations;
      words = min word_cap words;
      instructions = min operation_cap (function_instructions (instructions_of early) f);
      bytes = min byte_cap (function_bytes (bytes_of_function early) f);
      code = cond (within_limits operations words) (length (encode V1 (board_list_of early f))) 0;
      arguments = widths f.inputs;
      outputs = widths (output_types f.outputs);
    }

-- of the function at position k of a table
abbrev pub sizes_of : List ℕ → ℕ → Sizes
sizes_of s k = capped_sizes (before s k) (function_in s k)

-- and what bounds them
pub record Measures (s : List ℕ) (k : ℕ) (r : Sizes) : Type 0 where
  pub sizes : r ≡ sizes_of s k
  pub reads : ReadsFunction s r.place
  pub arguments : r.arguments ≤ port_word_limit
  pub outputs : r.outputs ≤ port_word_limit
