-- 02, request 9: the values of a list, and while which instructions each is held.
use Rattle.std.specs.Prelude.{ℕ, zero, suc, ◌+◌, Bool, ◌||◌, cond, List, [], ◌∷◌}
use Rattle.ports.specs.Ports.{width}
use Rattle.bytecode.specs.Run.{Instruction}
use Rattle.bytecode.specs.Origin.{operand_places}
use Rattle.bytecode.specs.Ranges.{any, Range, inside}

abbrev pub keep : {A : Type 0} → (A → Bool) → List A → List A
keep p [] = []
keep p (x ∷ xs) = cond (p x) (x ∷ keep p xs) (keep p xs)

-- each input is one value, and so is each result (`result_value`)
abbrev pub input_values : ℕ → List ℕ → List Range
input_values at [] = []
input_values at (t ∷ ts) = record { first = at; width = width t } ∷ input_values (at + width t) ts

-- ---- live ranges: a value is held until after the last instruction that reads any of its words, with an output word to the end

abbrev pub read_by : Range → Instruction → Bool
read_by r i = any (inside r) (operand_places i)

-- whether it is held at the first of these instructions, the last ones of a list; where none is left, at the end
abbrev pub live : List Instruction → List ℕ → Range → Bool
live is outputs r = any (read_by r) is || any (inside r) outputs

-- the last of these instructions that reads it, counted from 1; 0 where none does
abbrev pub last_of : Bool → ℕ → ℕ
last_of here zero = cond here 1 0
last_of here (suc n) = suc (suc n)

abbrev pub last_read : List Instruction → Range → ℕ
last_read [] r = 0
last_read (i ∷ is) r = last_of (read_by r i) (last_read is r)
