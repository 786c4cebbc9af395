-- What is written into the text, and the two halves of a function's line by its numbers.
use Rattle.std.specs.Prelude.{ℕ, ◌+◌, cond, List, ◌++◌}
use Rattle.base.specs.Bytes.{byte, u16}
use Rattle.base.specs.Limits.{operation_limit, within_limits, word_limit}
use Rattle.lowering.specs.Listing.{decimal, newline, function_text, inputs_text, outputs_text, nodes_text, operations_text, words_text, code_text, none_text, limited}

-- room for the text: a line for the table, and one for each of its functions
abbrev pub text_limit : ℕ
text_limit = 2048

-- the most bytes of the first line
abbrev pub first_limit : ℕ
first_limit = 30

-- and of a function's line, by its halves
abbrev pub head_limit : ℕ
head_limit = 49

abbrev pub counts_limit : ℕ
counts_limit = 54

abbrev pub line_limit : ℕ
line_limit = head_limit + counts_limit

-- the id of a function and the counts of its head
unfoldable pub head_text : ℕ → ℕ → ℕ → ℕ → List ℕ
head_text id inputs outputs nodes =
    (function_text ++ decimal id) ++ (inputs_text ++ decimal inputs) ++ (outputs_text ++ decimal outputs) ++ (nodes_text ++ decimal nodes)

-- operations, words and the code's length
unfoldable pub counts_text : ℕ → ℕ → ℕ → List ℕ
counts_text operations words code =
    (operations_text ++ limited operation_limit operations) ++ (words_text ++ limited word_limit words)
    ++ (code_text ++ cond (within_limits operations words) (decimal code) none_text)
    ++ newline

-- the line of the function whose head stands at p
unfoldable pub line_at : List ℕ → ℕ → ℕ → ℕ → ℕ → List ℕ
line_at s p operations words code = head_text (u16 s p) (byte s (p + 2)) (byte s (p + 3)) (u16 s (p + 4)) ++ counts_text operations words code
