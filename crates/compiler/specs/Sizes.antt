-- Sizes of the compiler's arrays.
use Rattle.std.specs.Prelude.{ℕ, ◌*◌}
use Rattle.base.specs.Limits.{function_limit, node_limit, port_limit}

-- nodes of all functions
abbrev pub order_limit : ℕ
order_limit = function_limit * node_limit

-- ports of a function's nodes
abbrev pub node_port_limit : ℕ
node_port_limit = node_limit * port_limit

-- outputs of all functions
abbrev pub output_limit : ℕ
output_limit = function_limit * port_limit
