-- Limits, each by one name.
use Rattle.std.specs.Prelude.{ℕ, ◌+◌, ◌*◌, ◌/◌, Bool, ◌&&◌, leb}

-- functions of a table
abbrev pub function_limit : ℕ
function_limit = 16

-- inputs and outputs of a function, arguments of a call
abbrev pub port_limit : ℕ
port_limit = 8

-- nodes of a function
abbrev pub node_limit : ℕ
node_limit = 256

-- kinds of nodes, with the 0 that is none
abbrev pub kind_limit : ℕ
kind_limit = 25

-- operands of a node
abbrev pub operand_limit : ℕ
operand_limit = 16

-- references of a function's nodes, with room for the most operands at each
abbrev pub slot_limit : ℕ
slot_limit = node_limit * operand_limit

-- operations and words of a function that can be compiled
abbrev pub operation_limit : ℕ
operation_limit = 4096

abbrev pub word_limit : ℕ
word_limit = 8192

-- values of a list that can be compiled: its inputs and its results
abbrev pub placed_limit : ℕ
placed_limit = port_limit + operation_limit

-- both sums of a function are within the limits
abbrev pub within_limits : ℕ → ℕ → Bool
within_limits operations words = leb operations operation_limit && leb words word_limit

-- words of a value: a matrix has the most
abbrev pub value_limit : ℕ
value_limit = 16

-- bytes of one instruction, and of all instructions of a function that can be compiled
abbrev pub instruction_limit : ℕ
instruction_limit = 2 + 2 * operand_limit + 8 * value_limit

abbrev pub code_limit : ℕ
code_limit = operation_limit * instruction_limit

-- the bytes of a code's header
abbrev pub header_length : ℕ
header_length = 12

-- addresses in a code take 16 bits
abbrev pub address_limit : ℕ
address_limit = 65536

-- a table's length field takes 16 bits
abbrev pub table_limit : ℕ
table_limit = 65536

-- references of a table's nodes
abbrev pub reference_limit : ℕ
reference_limit = table_limit * operand_limit / (4 + 3 * operand_limit) + 1

-- words of all inputs, and of all outputs
abbrev pub port_word_limit : ℕ
port_word_limit = port_limit * value_limit

-- points of one call
abbrev pub point_limit : ℕ
point_limit = 1024

-- an index that no node has
abbrev pub no_node : ℕ
no_node = 0xFFFF
