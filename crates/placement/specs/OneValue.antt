-- Lists whose values can be placed: the results follow one another, and each operand's words are words of one value.
use Rattle.std.specs.Prelude.{ℕ, ◌+◌, ◌≤◌, ◌<◌, ◌≡◌, List, [], ◌∷◌}
use Rattle.ports.specs.Kinds.{kind_of}
use Rattle.ports.specs.Ports.{width, widths, takes}
use Rattle.base.specs.Lists.{Each, Is}
use Rattle.bytecode.specs.Run.{Instruction, BoardList}
use Rattle.bytecode.specs.Sequential.{AllFit}
use Rattle.bytecode.specs.Ranges.{Range, end, result_value}
use Rattle.placement.specs.Live.{input_values}

-- the n words from `at` on are words of one of these values
pub record InOne (values : List Range) (n at : ℕ) : Type 0 where
  pub value : Range
  pub is : Is value values
  pub from : value.first ≤ at
  pub to : at + n ≤ end value

-- operands of these types at these addresses
abbrev pub InOneEach : List Range → List ℕ → List ℕ → Type 0
InOneEach values [] [] = Unit {0}
InOneEach values [] (a ∷ at) = ⊥
InOneEach values (t ∷ ts) [] = ⊥
InOneEach values (t ∷ ts) (a ∷ at) = InOne values (width t) a × InOneEach values ts at

-- instructions, each of which reads inputs and results before it
abbrev pub AllInOne : List Range → List Instruction → Type 0
AllInOne values [] = Unit {0}
AllInOne values (i ∷ is) = InOneEach values (takes (kind_of i.kind) i.type) i.operands × AllInOne (result_value i ∷ values) is

-- a version 1 list as the compiler makes it, for inputs of these types
pub record Placeable (inputs : List ℕ) (b : BoardList) : Type 0 where
  pub arguments : b.arguments ≡ widths inputs
  pub fit : AllFit b.arguments b.instructions b.words
  pub below : Each (λ a. a < b.words) b.outputs
  pub whole : AllInOne (input_values 0 inputs) b.instructions
