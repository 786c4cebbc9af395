-- The functions of a table by their position.
use Rattle.std.specs.Prelude.{Option, Some, None, Bool, true, false, ℕ, zero, suc, ◌≤◌, ◌<◌, ◌≡◌, List, [], ◌∷◌, ◌++◌, get_or}
use Rattle.base.specs.Limits.{function_limit, node_limit}
use Rattle.base.specs.Bytes.{Bytes}
use Rattle.base.specs.Outcome.{Outcome, ok, fault}
use Rattle.graph.specs.Format.{format_of}
use Rattle.graph.specs.Graph.{Function}
use Rattle.graph.specs.Judge.{verdict}
use Rattle.graph.specs.Read.{function}
use Rattle.reader.specs.Layout.{function_place, function_of, earlier}
use Rattle.reader.specs.Find.{ReadsFunction, function_found}
use Rattle.reader.specs.declared.Found.{Found}

-- whether a step gave a value
abbrev pub passes : {A : Type 0} → Outcome A → Bool
passes (ok a) = true
passes (fault n p) = false

-- where the function at a position stands; the function; those before it, the last first
abbrev pub place_of : List ℕ → ℕ → ℕ
place_of s k = function_place (format_of s).header s k

abbrev pub function_in : List ℕ → ℕ → Function
function_in s k = function_of (format_of s).header s k

abbrev pub before : List ℕ → ℕ → List Function
before s k = earlier (format_of s).header s k

-- whether a function was read at a place
abbrev pub was_read : List ℕ → ℕ → Bool
was_read s at = passes (function node_limit s at)

-- those before k were read
abbrev pub AllRead : List ℕ → ℕ → Type 0
AllRead s k = (j : ℕ) → j < k → ReadsFunction s (place_of s j)

-- `starts` has their places
pub record Started (s starts : List ℕ) (k : ℕ) : Type 0 where
  pub places : (j : ℕ) → j < k → get_or starts j 0 ≡ place_of s j
  pub reads : AllRead s k

-- the position at which a function was found; function_limit where none was, as what the compiler writes is defined by it
abbrev pub found_at : Option Found → ℕ
found_at (Some f) = f.index
found_at None = function_limit

-- the position of the function of an id among those before k
unfoldable pub position_of : List ℕ → ℕ → ℕ → ℕ
position_of s k c = found_at (function_found c (before s k))

-- f of each number below n, in their order
unfoldable pub tabulate : {A : Type 0} → (ℕ → A) → ℕ → List A
tabulate f zero = []
tabulate f (suc n) = tabulate f n ++ (f n ∷ [])

-- an accepted table with at least k functions
pub record Accepted (s : List ℕ) (k : ℕ) : Type 0 where
  pub functions : ℕ
  pub judged : verdict s ≡ ok functions
  pub most : k ≤ functions
  pub small : Bytes s
