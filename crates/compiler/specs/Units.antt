-- What the compiler counts along a list: words in version 1, names in version 2.
use Rattle.std.specs.Prelude.{ℕ, ◌+◌, ◌*◌, ◌≤◌, ◌<◌, ◌≡◌, List}
use Rattle.base.specs.Limits.{operation_limit, port_limit, word_limit}
use Rattle.graph.specs.Graph.{Node}
use Rattle.bytecode.specs.declared.Version.{Version}
use Rattle.bytecode.specs.declared.Version.TheVariants.{V1, V2}
use Rattle.lowering.specs.Naming.{name_step}
use Rattle.sums.specs.declared.Sums.{Sums}
use Rattle.sums.specs.Capped.{own_sums, adds_sums, sums_at}

abbrev pub units_in : Version → Sums → ℕ
units_in V1 x = x.words
units_in V2 x = name_step * x.instructions

-- of the function at position k, and what a node adds to them
abbrev pub units_at : Version → List ℕ → ℕ → ℕ
units_at v s k = units_in v (own_sums s k)

abbrev pub adds_units : Version → List ℕ → ℕ → Node → ℕ
adds_units v s k n = units_in v (adds_sums s k n)

-- of a function that can be compiled
abbrev pub unit_limit : Version → ℕ
unit_limit V1 = word_limit
unit_limit V2 = name_step * operation_limit

-- with its inputs
abbrev pub end_limit : Version → ℕ
end_limit V1 = word_limit
end_limit V2 = name_step * (operation_limit + port_limit)

-- no unit is behind this
abbrev pub unit_bound : ℕ
unit_bound = name_step * (operation_limit + port_limit)

-- ---- as they are summed, up to a cap

-- x is exact up to the limit
pub record Held (v : Version) (s : List ℕ) (g x : ℕ) : Type 0 where
  pub over : unit_limit v < x → unit_limit v < units_at v s g
  pub within : x ≤ unit_limit v → x ≡ units_at v s g

-- what is held of the functions before k, as the version needs it
abbrev pub AllHeld : Version → List ℕ → List Sums → ℕ → Type 0
AllHeld v s xs k = (g : ℕ) → g < k → Held v s g (units_in v (sums_at xs g))
