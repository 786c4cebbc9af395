-- The versions of the board list.
use Rattle.std.specs.Prelude.{ℕ, Bool, true, false, cond, eqb}
use Rattle.std.proofs.Math.Option.{Option, none, some}
use Rattle.bytecode.specs.declared.Version.{Version}
use Rattle.bytecode.specs.declared.Version.TheVariants.{V1, V2}

-- as the header has it
abbrev pub number : Version → ℕ
number V1 = 1
number V2 = 2

abbrev pub version_of : ℕ → Option Version
version_of n = cond (eqb n 1) (some V1) (cond (eqb n 2) (some V2) none)

-- an instruction carries its result's address; where it does not, its result takes the next words
abbrev pub addressed : Version → Bool
addressed V1 = false
addressed V2 = true
