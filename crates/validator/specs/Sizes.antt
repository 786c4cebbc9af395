-- Sizes of arrays.
use Rattle.std.specs.Prelude.{ℕ, ◌+◌, ◌*◌}
use Rattle.base.specs.Limits.{header_length, operation_limit, port_word_limit, word_limit}

-- bytes of a version 1 list within the limits: at most eight for each word, and two for each instruction and each output word
abbrev pub list_limit : ℕ
list_limit = header_length + 2 * operation_limit + 8 * word_limit + 2 * port_word_limit
