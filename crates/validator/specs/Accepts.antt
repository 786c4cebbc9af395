-- What is asked of a proposed list, without a judge: each instruction at its moment, and the outputs in the end.
use Rattle.std.specs.Prelude.{ℕ, ◌<◌, ◌≡◌, List, map, ◌⊎◌, length, take}
use Rattle.std.proofs.Math.Option.{some}
use Rattle.std.proofs.Math.ListN.{get_elem?}
use Rattle.bytecode.specs.Run.{BoardList}
use Rattle.bytecode.specs.Origin.{Origin, origin_at, start, Numbered, final_of, Carry}
use Rattle.validator.specs.Judge.{paired, own_readings, own_origins}

-- argument words, output words, instructions and numbers are as many as version 1 has
pub record Counted (b b' : BoardList) (numbers : List ℕ) : Type 0 where
  pub arguments : b'.arguments ≡ b.arguments
  pub outputs : length b'.outputs ≡ length b.outputs
  pub instructions : length b'.instructions ≡ length b.instructions
  pub numbered : length numbers ≡ length b.instructions

-- where each word comes from before instruction k
abbrev pub origins_before : BoardList → BoardList → List ℕ → ℕ → List Origin
origins_before b b' numbers k = final_of (take k (paired numbers b'.instructions)) (start b.arguments b'.words)

-- instruction k: its number has not appeared before, and is that of an instruction of version 1 with the same kind, type and constants that reads
-- words of the same origins
pub record Right (b b' : BoardList) (numbers : List ℕ) (k : ℕ) : Type 0 where
  pub here : Numbered
  pub at : get_elem? (paired numbers b'.instructions) k ≡ some here
  pub first : (j : ℕ) → j < k → get_elem? numbers j ≡ some here.number → ⊥
  pub carries : Carry (own_readings b) (origins_before b b' numbers k) here

-- each output word ends with the origin that version 1's has
abbrev pub OutputsRight : BoardList → BoardList → List ℕ → Type 0
OutputsRight b b' numbers =
    map (origin_at (origins_before b b' numbers (length b.instructions))) b'.outputs ≡ map (origin_at (own_origins b)) b.outputs

abbrev pub RightBefore : BoardList → BoardList → List ℕ → ℕ → Type 0
RightBefore b b' numbers k = (j : ℕ) → j < k → Right b b' numbers j

-- nothing is at fault
pub record Accepts (b b' : BoardList) (numbers : List ℕ) : Type 0 where
  pub counted : Counted b b' numbers
  pub all : RightBefore b b' numbers (length b.instructions)
  pub outputs : OutputsRight b b' numbers

-- the first instruction at fault, or the instruction count where only an output is
pub record FaultAt (b b' : BoardList) (numbers : List ℕ) (p : ℕ) : Type 0 where
  pub counted : Counted b b' numbers
  pub before : RightBefore b b' numbers p
  pub fault :
      ((p < length b.instructions) × (Right b b' numbers p → ⊥))
      ⊎ ((p ≡ length b.instructions) × (OutputsRight b b' numbers → ⊥))
