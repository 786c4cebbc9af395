-- 02, request 11: what is answered of a list that a router proposes for a function of a table.
use Rattle.std.specs.Prelude.{ℕ, List, eqb}
use Rattle.std.proofs.Math.Option.{Option}
use Rattle.base.specs.Bytes.{u16}
use Rattle.base.specs.Outcome.{Outcome, ◌>>=◌, or_else}
use Rattle.bytecode.specs.declared.Version.TheVariants.{V1}
use Rattle.bytecode.specs.Run.{BoardList}
use Rattle.bytecode.specs.Code.{guard, decode}
use Rattle.lowering.specs.Answers.{list_of, compilable}
use Rattle.validator.specs.Judge.{judged}

-- a well-formed code of version 2
abbrev pub proposed : List ℕ → Option BoardList
proposed code = guard (eqb (u16 code 3) 2) (decode code)

-- the table's refusals, 14 to 16 with version 1's counts; 18, also for a version 1 list; 33, 29; or the instruction count
unfoldable pub judged_placement : List ℕ → ℕ → List ℕ → List ℕ → Outcome ℕ
judged_placement s c code numbers = do
  j ← compilable s c 1
  b ← or_else (proposed code) 18 0
  judged (list_of V1 j.chosen) b numbers
