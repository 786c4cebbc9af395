-- The lister's text.
use Rattle.std.specs.Prelude.{ℕ, zero, suc, ◌+◌, ◌/◌, ◌%◌, Bool, cond, List, [], ◌∷◌, ◌++◌, leb, ltb, length, take}
use Rattle.base.specs.Outcome.{Outcome, ok, fault}
use Rattle.graph.specs.Graph.{Function}
use Rattle.graph.specs.Judge.{table}
use Rattle.graph.specs.Sums.{function_operations, operations_of, function_words}
use Rattle.lowering.specs.Compile.{board_list_of}
use Rattle.base.specs.Limits.{operation_limit, word_limit, within_limits}
use Rattle.bytecode.specs.declared.Version.TheVariants.{V1}
use Rattle.bytecode.specs.Code.{encode}

-- ---- numbers and words as bytes

abbrev pub digits : ℕ → ℕ → List ℕ → List ℕ
digits zero n rest = rest
digits (suc k) n rest = cond (ltb n 10) ((48 + n) ∷ rest) (digits k (n / 10) ((48 + n % 10) ∷ rest))

-- a number below 10 to the 20
unfoldable pub decimal : ℕ → List ℕ
decimal n = digits 20 n []

abbrev pub newline : List ℕ
newline = 0x0A ∷ []

-- "accepted "
abbrev pub accepted_text : List ℕ
accepted_text = 0x61 ∷ 0x63 ∷ 0x63 ∷ 0x65 ∷ 0x70 ∷ 0x74 ∷ 0x65 ∷ 0x64 ∷ 0x20 ∷ []

-- "refused "
abbrev pub refused_text : List ℕ
refused_text = 0x72 ∷ 0x65 ∷ 0x66 ∷ 0x75 ∷ 0x73 ∷ 0x65 ∷ 0x64 ∷ 0x20 ∷ []

-- " at "
abbrev pub at_text : List ℕ
at_text = 0x20 ∷ 0x61 ∷ 0x74 ∷ 0x20 ∷ []

-- "function "
abbrev pub function_text : List ℕ
function_text = 0x66 ∷ 0x75 ∷ 0x6E ∷ 0x63 ∷ 0x74 ∷ 0x69 ∷ 0x6F ∷ 0x6E ∷ 0x20 ∷ []

-- " inputs "
abbrev pub inputs_text : List ℕ
inputs_text = 0x20 ∷ 0x69 ∷ 0x6E ∷ 0x70 ∷ 0x75 ∷ 0x74 ∷ 0x73 ∷ 0x20 ∷ []

-- " outputs "
abbrev pub outputs_text : List ℕ
outputs_text = 0x20 ∷ 0x6F ∷ 0x75 ∷ 0x74 ∷ 0x70 ∷ 0x75 ∷ 0x74 ∷ 0x73 ∷ 0x20 ∷ []

-- " nodes "
abbrev pub nodes_text : List ℕ
nodes_text = 0x20 ∷ 0x6E ∷ 0x6F ∷ 0x64 ∷ 0x65 ∷ 0x73 ∷ 0x20 ∷ []

-- " operations "
abbrev pub operations_text : List ℕ
operations_text = 0x20 ∷ 0x6F ∷ 0x70 ∷ 0x65 ∷ 0x72 ∷ 0x61 ∷ 0x74 ∷ 0x69 ∷ 0x6F ∷ 0x6E ∷ 0x73 ∷ 0x20 ∷ []

-- " words "
abbrev pub words_text : List ℕ
words_text = 0x20 ∷ 0x77 ∷ 0x6F ∷ 0x72 ∷ 0x64 ∷ 0x73 ∷ 0x20 ∷ []

-- " code "
abbrev pub code_text : List ℕ
code_text = 0x20 ∷ 0x63 ∷ 0x6F ∷ 0x64 ∷ 0x65 ∷ 0x20 ∷ []

-- "over"
abbrev pub over_text : List ℕ
over_text = 0x6F ∷ 0x76 ∷ 0x65 ∷ 0x72 ∷ []

-- "none"
abbrev pub none_text : List ℕ
none_text = 0x6E ∷ 0x6F ∷ 0x6E ∷ 0x65 ∷ []

-- ---- lines

-- a count above its limit prints as over
abbrev pub limited : ℕ → ℕ → List ℕ
limited limit n = cond (leb n limit) (decimal n) over_text

-- the code's length, or none where a count is over
abbrev pub code_length_text : Bool → List ℕ → List ℕ
code_length_text within code = cond within (decimal (length code)) none_text

unfoldable pub function_line : List Function → Function → List ℕ
function_line early f =
    let operations = function_operations (operations_of early) f in
    let words = function_words early f in
    function_text ++ decimal f.id ++ inputs_text ++ decimal (length f.inputs) ++ outputs_text ++ decimal (length f.outputs) ++ nodes_text
    ++ decimal (length f.nodes)
    ++ operations_text
    ++ limited operation_limit operations
    ++ words_text
    ++ limited word_limit words
    ++ code_text
    ++ code_length_text (within_limits operations words) (encode V1 (board_list_of early f))
    ++ newline

-- the functions stand the last first
abbrev pub function_lines : List Function → List ℕ
function_lines [] = []
function_lines (f ∷ early) = function_lines early ++ function_line early f

abbrev pub report : Outcome (List Function) → List ℕ
report (ok fs) = accepted_text ++ decimal (length fs) ++ newline ++ function_lines fs
report (fault n p) = refused_text ++ decimal n ++ at_text ++ decimal p ++ newline

-- the text for a table
unfoldable pub listing : List ℕ → List ℕ
listing s = report (table s)

-- the lister reads the first 65,536 bytes of its input
abbrev pub listed : List ℕ → List ℕ
listed input = listing (take 65536 input)
