-- A checked code, run at each point.
use Rattle.std.specs.Prelude.{Some, ℕ, ◌*◌, ◌≤◌, ◌≡◌, List, true, length}
use Rattle.base.specs.Lists.{every}
use Rattle.base.specs.Outcome.{ok}
use Rattle.value.specs.Values.{argument_word}
use Rattle.bytecode.specs.Code.{decode}
use Rattle.runner.specs.declared.Counts.{Counts}
use Rattle.runner.specs.Checks.{checked_of}
use Rattle.points.specs.Points.{one_by_one}

-- with these counts, on the arguments of all points and buffers of these lengths
pub record RunnablePoints (s : List ℕ) (c : Counts) (points : ℕ) (arguments : List ℕ) (work out : ℕ) : Type 0 where
  pub formed : checked_of (decode s) ≡ Some c
  pub arguments-all : length arguments ≡ points * c.arguments
  pub allowed : every argument_word arguments ≡ true
  pub work-room : c.words ≤ work
  pub out-room : points * c.outputs ≤ out

-- none of the calls one by one refuses, and these are the buffers after the last
abbrev pub AllRan : List ℕ → Counts → ℕ → List ℕ → List ℕ → List ℕ → List ℕ → List ℕ → Type 0
AllRan s c points arguments work out work' out' =
    one_by_one s c.arguments c.outputs points arguments work out ≡ ok (record { count = points * c.outputs; work = work'; out = out' })
