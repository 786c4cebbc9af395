-- The kinds of nodes, by their numbers.
use Rattle.std.specs.Prelude.{ℕ, List, [], ◌∷◌, get_or}

-- `unknown` stands for every number that is no kind's
pub data Kind : Type 0 where
  unknown : Kind
  addition subtraction multiplication division : Kind
  constant constvec constmat : Kind
  composevector vectorfromscalar decomposevector : Kind
  composematrix matrixfromcolumns matrixfromrows : Kind
  dot cross matvecmultiplication transpose : Kind
  min max abs fmod select clamp : Kind
  call : Kind

-- kind n stands at n; there is no kind 0
abbrev pub kinds : List Kind
kinds =
    unknown
    ∷ addition ∷ subtraction ∷ multiplication ∷ division
    ∷ constant ∷ constvec ∷ constmat
    ∷ composevector ∷ vectorfromscalar ∷ decomposevector
    ∷ composematrix ∷ matrixfromcolumns ∷ matrixfromrows
    ∷ dot ∷ cross ∷ matvecmultiplication ∷ transpose
    ∷ min ∷ max ∷ abs ∷ fmod ∷ select ∷ clamp
    ∷ call
    ∷ []

abbrev pub kind_of : ℕ → Kind
kind_of k = get_or kinds k unknown
