-- 02, request 9: places. A new value takes the lowest gap long enough while its own operands are still held.
use Rattle.std.specs.Prelude.{ℕ, zero, suc, ◌+◌, ◌-◌, max, Bool, true, ◌&&◌, ◌||◌, cond, List, [], ◌∷◌, map, leb}
use Rattle.bytecode.specs.Run.{Instruction, BoardList}
use Rattle.bytecode.specs.Origin.{result_width, Numbered}
use Rattle.bytecode.specs.Ranges.{Range, end, inside, result_value}
use Rattle.placement.specs.Live.{keep, input_values, live}

-- a value, by its words in version 1, and its first word in version 2
pub record Placed : Type 0 where
  pub value : Range
  pub place : ℕ

-- its words in version 2
abbrev pub words : Placed → Range
words p = record { first = p.place; width = p.value.width }

-- the word behind the highest
abbrev pub top : List Placed → ℕ
top [] = 0
top (p ∷ ps) = max (end (words p)) (top ps)

-- ---- the lowest gap of n words

abbrev pub apart : Range → Range → Bool
apart r s = leb (end r) s.first || leb (end s) r.first

-- the n words from `at` on belong to none of these
abbrev pub is_gap : List Placed → ℕ → ℕ → Bool
is_gap [] n at = true
is_gap (p ∷ ps) n at = apart (record { first = at; width = n }) (words p) && is_gap ps n at

-- the first gap from `at` on, or the word k words on where there is none before it
abbrev pub gap_from : ℕ → ℕ → List Placed → ℕ → ℕ
gap_from zero at held n = at
gap_from (suc k) at held n = cond (is_gap held n at) at (gap_from k (suc at) held n)

-- behind the highest word held there is always room
abbrev pub gap : List Placed → ℕ → ℕ
gap held n = gap_from (top held) 0 held n

-- ---- the history: all values placed so far, the last result first

-- inputs take the first words, in version 2 as in version 1
abbrev pub stay : Range → Placed
stay r = record { value = r; place = r.first }

abbrev pub inputs_of : List ℕ → List Placed
inputs_of inputs = map stay (input_values 0 inputs)

-- of the history, the values held at the first of these instructions
abbrev pub held_at : List Instruction → List ℕ → List Placed → List Placed
held_at is outputs = keep (λ p. live is outputs p.value)

-- an instruction's result takes the lowest gap while its operands are still held
abbrev pub placed : List ℕ → List Placed → Instruction → List Instruction → Placed
placed outputs history i is = record { value = result_value i; place = gap (held_at (i ∷ is) outputs history) (result_width i) }

abbrev pub place_all : List ℕ → List Placed → List Instruction → List Placed
place_all outputs history [] = history
place_all outputs history (i ∷ is) = place_all outputs (placed outputs history i is ∷ history) is

-- ---- the list

-- where a word of version 1 stands in version 2
abbrev pub rename : List Placed → ℕ → ℕ
rename [] a = 0
rename (p ∷ ps) a = cond (inside p.value a) (p.place + (a - p.value.first)) (rename ps a)

abbrev pub renamed : List Placed → Instruction → Instruction
renamed ps i =
    record { kind = i.kind; type = i.type; operands = map (rename ps) i.operands; constants = i.constants; result = rename ps i.result }

-- all values of a list whose inputs have these types
abbrev pub places_of : List ℕ → BoardList → List Placed
places_of inputs b = place_all b.outputs (inputs_of inputs) b.instructions

-- the word count is the highest word ever held plus one
abbrev pub reusing : List ℕ → BoardList → BoardList
reusing inputs b =
    let ps = places_of inputs b in
    record { arguments = b.arguments; instructions = map (renamed ps) b.instructions; words = top ps; outputs = map (rename ps) b.outputs }

-- each with its number in version 1: the order is the same
abbrev pub numbered : ℕ → List Instruction → List Numbered
numbered k [] = []
numbered k (i ∷ is) = record { number = k; instruction = i } ∷ numbered (suc k) is
