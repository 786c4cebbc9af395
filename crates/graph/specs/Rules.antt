-- 01's verdict on a table as a statement: with neither the reading nor the judging that compute it.
use Rattle.std.specs.Prelude.{ℕ, ◌≡◌, List, [], ◌∷◌, ◌++◌, reverse, length}
use Rattle.base.specs.Outcome.{Outcome, ok, fault}
use Rattle.graph.specs.Graph.{Node, Function}
use Rattle.graph.specs.Format.{Format}
use Rattle.graph.specs.Written.{Written}
use Rattle.graph.specs.Orders.{FirstOnLoop}
use Rattle.graph.specs.Checks.{All, First, link_checks, table_checks}
use Rattle.graph.specs.Reading.{header_checks, ReadingOf}

-- the bytes are a table of these functions, written out, and these meet all that 9 to 13 ask
pub record Meets (format : Format) (s : List ℕ) (fs : List Function) : Type 0 where
  pub written : Written format s fs
  pub rules : All (table_checks [] fs)

-- the first fault: of the header, of the reading, or of the checks 9 to 13 on a table of these functions
pub data Fault (format : Format) (s : List ℕ) (n p : ℕ) : Type 0 where
  of-header : First (header_checks format s) n p → Fault format s n p
  of-reading : All (header_checks format s) → ReadingOf format s (fault n p) → Fault format s n p
  of-rules : (fs : List Function) → Written format s fs → First (table_checks [] fs) n p → Fault format s n p

-- accepted with the function count, or refused with a number and a place
abbrev pub Gives : Format → List ℕ → Outcome ℕ → Type 0
Gives format s (ok n) = (fs : List Function) × Meets format s fs × (length fs ≡ n)
Gives format s (fault n p) = Fault format s n p

-- 13: all checks of the functions before and the function's own 9 to 12 pass, and its first node on a loop stands at the place
pub record LoopFault (format : Format) (s : List ℕ) (p : ℕ) : Type 0 where
  pub before : List Function
  pub function : Function
  pub behind : List Function
  pub written : Written format s (before ++ function ∷ behind)
  pub earlier : All (table_checks [] before)
  pub links : All (link_checks (reverse before) function)
  pub node : Node
  pub first : FirstOnLoop function.nodes node
  pub place : node.place ≡ p
