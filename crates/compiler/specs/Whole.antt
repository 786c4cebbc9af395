-- The whole code of a function, by what the compiler's arrays hold and by the definition.
use Rattle.std.specs.Prelude.{ℕ, suc, Option, ◌+◌, ◌*◌, ◌≤◌, ◌≡◌, List, ◌++◌, map, length, replicate}
use Rattle.std.proofs.lemmas.List.Edits.{sets}
use Rattle.base.specs.Bytes.{all_bytes}
use Rattle.base.specs.Limits.{operation_limit, placed_limit, port_limit, port_word_limit, word_limit}
use Rattle.ports.specs.Ports.{widths}
use Rattle.graph.specs.Types.{output_types}
use Rattle.bytecode.specs.declared.Version.{Version}
use Rattle.bytecode.specs.declared.Version.TheVariants.{V1, V2}
use Rattle.bytecode.specs.Version.{number}
use Rattle.bytecode.specs.Run.{BoardList, places, spans}
use Rattle.bytecode.specs.Code.{header_code, encode}
use Rattle.lowering.specs.Compile.{Inlined, inline_function, inlined, board_list_of}
use Rattle.lowering.specs.Naming.{name_step, sizing, names}
use Rattle.placement.specs.Place.{reusing}
use Rattle.placement.specs.Arrays.{Widths, Lasting}
use Rattle.placement.specs.Record.{extent_of}
use Rattle.sums.specs.Position.{function_in, before}
use Rattle.compiler.specs.declared.Pass.{Pass}
use Rattle.compiler.specs.declared.Layout.{Layout}
use Rattle.compiler.specs.declared.Pass.TheVariants.{Survey, Sequential, Addressed}
use Rattle.compiler.specs.Units.{units_at, unit_limit, end_limit}
use Rattle.compiler.specs.Emit.{naming_of, relocate, bytes_by, AllAllocated}
use Rattle.compiler.specs.Locating.{AllOuts}

-- the code of version 1 of the function at position k
abbrev pub code_at : List ℕ → ℕ → List ℕ
code_at s k = encode V1 (board_list_of (before s k) (function_in s k))

-- ---- by what the arrays hold

-- the addresses of inputs of these types, and the first behind them: words, or names
abbrev pub inputs_by : Version → List ℕ → List ℕ
inputs_by V1 ts = places 0 ts
inputs_by V2 ts = names 0 (length ts)

abbrev pub first_behind : Version → ℕ → ℕ → ℕ
first_behind V1 words n = words
first_behind V2 words n = name_step * n

abbrev pub first_by : Version → List ℕ → ℕ
first_by v ts = first_behind v (widths ts) (length ts)

-- the instructions of the function at position k, and where its outputs stand
unfoldable pub inlined_at : Version → List ℕ → ℕ → Inlined
inlined_at v s k =
    inline_function (sizing v) (inlined (sizing v) (before s k)) (function_in s k) (inputs_by v (function_in s k).inputs) (first_by v (function_in s k).inputs)

abbrev pub relocate_by : Pass → List ℕ → ℕ → ℕ
relocate_by Survey place a = a
relocate_by Sequential place a = a
relocate_by Addressed place a = relocate place a

-- the addresses of the output words
abbrev pub outputs_by : Pass → List ℕ → List ℕ → ℕ → List ℕ
outputs_by pass place s k = spans (output_types (function_in s k).outputs) (map (relocate_by pass place) (inlined_at (naming_of pass) s k).ports)

-- header, instructions and output words, of a list with so many words
unfoldable pub text_of : Pass → List ℕ → List ℕ → ℕ → ℕ → List ℕ
text_of pass place s k words =
    let o = inlined_at (naming_of pass) s k in
    header_code (number (naming_of pass)) (widths (function_in s k).inputs) (widths (output_types (function_in s k).outputs)) (length o.code) words
    ++ (bytes_by pass place o.code ++ all_bytes 2 (outputs_by pass place s k))

-- the counts of the function at position k, which is within the limits
pub record Measured (v : Version) (s : List ℕ) (k count inputs outputs : ℕ) : Type 0 where
  pub instructions : count ≡ length (inlined_at v s k).code
  pub arguments : inputs ≡ widths (function_in s k).inputs
  pub results : outputs ≡ widths (output_types (function_in s k).outputs)
  pub few : count ≤ operation_limit
  pub narrow : (inputs ≤ port_word_limit) × (outputs ≤ port_word_limit)
  pub own : units_at v s k ≤ unit_limit v
  pub end : first_by v (function_in s k).inputs + units_at v s k ≤ end_limit v

-- what the walk is lent: the locations of all functions up to k, and the addresses of its inputs
pub record Prepared (v : Version) (s : List ℕ) (k : ℕ) (l : Layout) : Type 0 where
  pub allocated : AllAllocated v s l (suc k)
  pub ports : AllOuts v s l.outs (suc k)
  pub inputs : l.ins ≡ sets (replicate port_limit 0) 0 (inputs_by v (function_in s k).inputs)

-- ---- version 2

-- the list of version 1 that its words are named by, and the list of version 2
abbrev pub source_at : List ℕ → ℕ → BoardList
source_at s k = board_list_of (before s k) (function_in s k)

abbrev pub reused_at : List ℕ → ℕ → BoardList
reused_at s k = reusing (function_in s k).inputs (source_at s k)

-- the width of each value, and the instruction before which it is no longer held
pub record Surveyed (s : List ℕ) (k : ℕ) (last wide : List ℕ) : Type 0 where
  pub widths : Widths wide (length (function_in s k).inputs) (function_in s k).inputs (source_at s k)
  pub lasting : Lasting last (length (function_in s k).inputs) (function_in s k).inputs (source_at s k)
  pub size : length last ≡ placed_limit

-- the word count, or more than the limit; within it, what is written with these places is the code of the list
pub record Places (s : List ℕ) (k : ℕ) (place : List ℕ) (r : Option ℕ) : Type 0 where
  pub extent : r ≡ extent_of (reused_at s k).words
  pub text : (reused_at s k).words ≤ word_limit → text_of Addressed place s k (reused_at s k).words ≡ encode V2 (reused_at s k)

-- all that the writing of version 2 is lent
pub record LaidOut (s : List ℕ) (k : ℕ) (l : Layout) (place : List ℕ) (r : Option ℕ) : Type 0 where
  pub prepared : Prepared V2 s k l
  pub places : Places s k place r
