-- Lists placed, as one table: the places of inputs and results, and the words.
use Rattle.std.specs.Prelude.{ℕ, ◌≡◌, refl, List, [], ◌∷◌, map}
use Rattle.base.specs.Lists.{Each}
use Rattle.bytecode.specs.Run.{Instruction, BoardList}
use Rattle.placement.specs.Place.{top, reusing}
use Rattle.placement.specs.Balance.{history_of, held_during, widths_of, count, free}

-- an instruction without constants, and 0 as a constant
abbrev reads : ℕ → ℕ → List ℕ → ℕ → Instruction
reads kind type operands result = record { kind = kind; type = type; operands = operands; constants = []; result = result }

abbrev zero_at : ℕ → Instruction
zero_at result = record { kind = 5; type = 1; operands = []; constants = 0 ∷ []; result = result }

abbrev sum : ℕ → ℕ → ℕ → Instruction
sum a b result = reads 1 1 (a ∷ b ∷ []) result

pub record Case : Type 0 where
  pub inputs : List ℕ
  pub list : BoardList
  -- of the results, the first first
  pub places : List ℕ
  pub words : ℕ

abbrev given : List ℕ → ℕ → List Instruction → ℕ → List ℕ → List ℕ → ℕ → Case
given inputs arguments instructions words outputs places' words' =
    record { inputs = inputs; list = record { arguments = arguments; instructions = instructions; words = words; outputs = outputs }; places = places'; words = words' }

abbrev pub Holds : Case → Type 0
Holds x = (map (λ (i : Instruction). i.result) (reusing x.inputs x.list).instructions ≡ x.places) × ((reusing x.inputs x.list).words ≡ x.words)

-- x + x, then that twice, then the product of both
abbrev doubled : BoardList
doubled = record { arguments = 1; instructions = sum 0 0 1 ∷ sum 1 1 2 ∷ reads 3 1 (1 ∷ 2 ∷ []) 3 ∷ []; words = 4; outputs = 3 ∷ [] }

abbrev pub cases : List Case
cases =
    -- a result is not placed on its own operands: 1 while x is held, then x's word, then 2
    record { inputs = 1 ∷ []; list = doubled; places = 1 ∷ 0 ∷ 2 ∷ []; words = 3 }
    -- an input that nothing reads is free just before the first instruction, and counts for the highest word
    ∷ given (1 ∷ 1 ∷ []) 2 (sum 0 0 2 ∷ []) 3 (2 ∷ []) (1 ∷ []) 2
    ∷ given (1 ∷ 3 ∷ []) 17 (sum 0 0 17 ∷ []) 18 (17 ∷ []) (1 ∷ []) 17
    -- a result that nothing reads is held at its instruction alone: the next one takes its word
    ∷ given (1 ∷ []) 1 (zero_at 1 ∷ zero_at 2 ∷ sum 0 2 3 ∷ []) 4 (3 ∷ []) (1 ∷ 1 ∷ 2 ∷ []) 3
    -- an input that is an output is held to the end, an input that is read until after its last reader, though not read by each
    ∷ given (1 ∷ []) 1 (sum 0 0 1 ∷ sum 1 1 2 ∷ sum 2 2 3 ∷ []) 4 (0 ∷ 3 ∷ []) (1 ∷ 2 ∷ 1 ∷ []) 3
    ∷ given (1 ∷ []) 1 (zero_at 1 ∷ zero_at 2 ∷ sum 0 2 3 ∷ sum 1 3 4 ∷ []) 5 (4 ∷ []) (1 ∷ 2 ∷ 3 ∷ 0 ∷ []) 4
    -- of a value with one output word all words are held: x, y, z of a vector, of which y is an output
    ∷ given (2 ∷ []) 3 (reads 10 2 (0 ∷ []) 3 ∷ sum 3 3 6 ∷ sum 6 6 7 ∷ []) 8 (4 ∷ 7 ∷ []) (3 ∷ 0 ∷ 1 ∷ []) 6
    -- a vector does not fit into the gap of one word; a scalar then takes it
    ∷ given (1 ∷ 1 ∷ []) 2 (sum 0 0 2 ∷ reads 9 1 (1 ∷ []) 3 ∷ sum 1 2 6 ∷ []) 7 (3 ∷ 4 ∷ 5 ∷ 6 ∷ []) (2 ∷ 3 ∷ 0 ∷ []) 6
    -- the lowest of two gaps
    ∷ given (1 ∷ 1 ∷ 1 ∷ []) 3 (sum 0 2 3 ∷ sum 1 1 4 ∷ []) 5 (1 ∷ 3 ∷ 4 ∷ []) (3 ∷ 0 ∷ []) 4
    ∷ []

pub settled : Each Holds cases
settled =
    ((refl, refl), ((refl, refl), ((refl, refl), ((refl, refl), ((refl, refl), ((refl, refl), ((refl, refl), ((refl, refl), ((refl, refl), tt)))))))))

-- the balance of the first list at its second instruction: x is free, the record has until when the words 0 to 2 are held
pub balanced : (widths_of (held_during (1 ∷ []) doubled 1) ≡ 2) × (count (free 1 (3 ∷ 3 ∷ [])) (top (history_of (1 ∷ []) doubled 2)) ≡ 0)
balanced = (refl, refl)
