-- What the compiler's arrays say of a list. Values are numbered, the inputs first and then the results.
use Rattle.std.specs.Prelude.{ℕ, ◌+◌, ◌≤◌, ◌<◌, ◌≡◌, Bool, cond, List, [], ◌∷◌, ◌++◌, map, eqb, ltb, length, get_or, take, drop}
use Rattle.ports.specs.Ports.{width}
use Rattle.base.specs.Limits.{value_limit}
use Rattle.bytecode.specs.Run.{BoardList}
use Rattle.bytecode.specs.Ranges.{any, Range, end, result_value}
use Rattle.placement.specs.Live.{input_values, live, last_read}

abbrev pub nothing : Range
nothing = record { first = 0; width = 0 }

abbrev pub values_of : List ℕ → BoardList → List Range
values_of inputs b = input_values 0 inputs ++ map result_value b.instructions

abbrev pub value_at : List ℕ → BoardList → ℕ → Range
value_at inputs b v = get_or (values_of inputs b) v nothing

-- every value has a word, and none more than a matrix
abbrev pub Wide : List ℕ → ℕ → Type 0
Wide widths n = (v : ℕ) → v < n → (1 ≤ get_or widths v 0) × (get_or widths v 0 ≤ value_limit)

-- the values of a list with m inputs have these widths
pub record Widths (widths : List ℕ) (m : ℕ) (inputs : List ℕ) (b : BoardList) : Type 0 where
  pub before : length inputs ≡ m
  pub wide : (v : ℕ) → v < m + length b.instructions → (value_at inputs b v).width ≡ get_or widths v 0

-- ---- from addresses to numbers

-- each of these types and addresses stands in the value whose number is in turn in vs
abbrev pub Named : (ℕ → Range) → ℕ → List ℕ → List ℕ → List ℕ → Type 0
Named value count [] [] [] = Unit {0}
Named value count [] [] (a ∷ at) = ⊥
Named value count [] (t ∷ ts) at = ⊥
Named value count (v ∷ vs) [] at = ⊥
Named value count (v ∷ vs) (t ∷ ts) [] = ⊥
Named value count (v ∷ vs) (t ∷ ts) (a ∷ at) = (v < count) × ((value v).first ≤ a) × (a + width t ≤ end (value v)) × Named value count vs ts at

-- v is one of these numbers
abbrev pub among : ℕ → List ℕ → Bool
among v vs = any (λ x. eqb x v) vs

-- ---- notes: for each value a number

-- v's is the last of the first k instructions that reads it, counted from 1
abbrev pub Noted : List ℕ → ℕ → List ℕ → BoardList → ℕ → Type 0
Noted last m inputs b k = (v : ℕ) → v < m + length b.instructions → get_or last v 0 ≡ last_read (take k b.instructions) (value_at inputs b v)

-- v's is the instruction before which it is no longer held, behind the last where it has an output word
abbrev pub Lasting : List ℕ → ℕ → List ℕ → BoardList → Type 0
Lasting last m inputs b =
    (v k : ℕ) → v < m + length b.instructions → k ≤ length b.instructions
    → live (drop k b.instructions) b.outputs (value_at inputs b v) ≡ ltb k (get_or last v 0)

-- `last` has x at each of these numbers, and elsewhere what it had before
abbrev pub Stored : List ℕ → List ℕ → List ℕ → ℕ → Type 0
Stored before last vs x = (v : ℕ) → v < length before → get_or last v 0 ≡ cond (among v vs) x (get_or before v 0)
