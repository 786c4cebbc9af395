-- 02, request 10: version 1's instructions in another order, each after all that it reads, with words of its own for each value.
use Rattle.std.specs.Prelude.{ℕ, ◌≤◌, ◌<◌, ◌≡◌, true, List, [], ◌∷◌, ◌++◌, map, length}
use Rattle.base.specs.Limits.{word_limit}
use Rattle.base.specs.Lists.{Each, Is, Distinct}
use Rattle.bytecode.specs.Run.{Instruction, BoardList}
use Rattle.bytecode.specs.Ranges.{end, result_value}
use Rattle.placement.specs.Live.{read_by}
use Rattle.placement.specs.Place.{Placed, words, top, inputs_of, rename, renamed}
use Rattle.placement.specs.Balance.{instruction_at, Apart}

-- what the router chooses: an order of the instructions, by their numbers in version 1's list, and an address for the result of each, by number
pub record Routing : Type 0 where
  pub order : List ℕ
  pub addresses : List ℕ

-- ---- the list so written

-- these values, and the result of each instruction at its address; the last result stands first
abbrev pub results_at : List Placed → List Instruction → List ℕ → List Placed
results_at ps [] at = ps
results_at ps (i ∷ is) [] = ps
results_at ps (i ∷ is) (a ∷ at) = results_at (record { value = result_value i; place = a } ∷ ps) is at

-- all values of a list whose inputs have these types: arguments keep their words
abbrev pub routed_places : List ℕ → BoardList → Routing → List Placed
routed_places inputs b r = results_at (inputs_of inputs) b.instructions r.addresses

-- the instructions in the new order, every word at its value's new place; the word count is the highest word plus one
abbrev pub reordered : List ℕ → BoardList → Routing → BoardList
reordered inputs b r =
    let ps = routed_places inputs b r in
    record {
      arguments = b.arguments;
      instructions = map (λ k. renamed ps (instruction_at b k)) r.order;
      words = top ps;
      outputs = map (rename ps) b.outputs;
    }

-- ---- what is asked of it

-- instruction k reads a word of the result of instruction m
abbrev pub Reads : BoardList → ℕ → ℕ → Type 0
Reads b k m = read_by (result_value (instruction_at b m)) (instruction_at b k) ≡ true

pub record Respects (inputs : List ℕ) (b : BoardList) (r : Routing) : Type 0 where
  -- a permutation: numbers of instructions, all of them, none twice
  pub within : Each (λ k. k < length b.instructions) r.order
  pub has : (k : ℕ) → k < length b.instructions → Is k r.order
  pub once : Distinct r.order
  -- wherever k stands, each m whose result it reads stands before it
  pub after : (before behind : List ℕ) (k m : ℕ) → r.order ≡ before ++ k ∷ behind → m < length b.instructions → Reads b k m → Is m before
  -- an address for each result, no two values share a word, and every word is below 8,192
  pub each : length r.addresses ≡ length b.instructions
  pub own : Apart (routed_places inputs b r)
  pub below : Each (λ p. end (words p) ≤ word_limit) (routed_places inputs b r)
