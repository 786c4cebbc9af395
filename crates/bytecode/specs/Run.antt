-- The board list, and a run of it on a memory of words that may hold anything.
use Rattle.std.specs.Prelude.{ℕ, ◌+◌, List, [], ◌∷◌, ◌++◌, map}
use Rattle.std.proofs.lemmas.List.Edits.{sets}
use Rattle.ports.specs.Kinds.{kind_of}
use Rattle.ports.specs.Ports.{takes, width}
use Rattle.value.specs.declared.Value.{Value}
use Rattle.value.specs.Values.{all_words, value_at}
use Rattle.base.specs.Lists.{word_at, span}
use Rattle.value.specs.Results.{results}

-- the operands and the result by the address of their first word; a constant by its words
pub record Instruction : Type 0 where
  pub kind : ℕ
  pub type : ℕ
  pub operands : List ℕ
  pub constants : List ℕ
  pub result : ℕ

-- argument words, instructions, word count, and an address for each output word
pub record BoardList : Type 0 where
  pub arguments : ℕ
  pub instructions : List Instruction
  pub words : ℕ
  pub outputs : List ℕ

-- from `at` on, one after the other, values of these types
abbrev pub places : ℕ → List ℕ → List ℕ
places at [] = []
places at (t ∷ ts) = at ∷ places (at + width t) ts

abbrev pub spans : List ℕ → List ℕ → List ℕ
spans [] at = []
spans (t ∷ ts) [] = []
spans (t ∷ ts) (a ∷ at) = span a (width t) ++ spans ts at

-- the values of these types at these addresses
abbrev pub values_at : List ℕ → List ℕ → List ℕ → List Value
values_at m [] xs = []
values_at m (t ∷ ts) [] = []
values_at m (t ∷ ts) (a ∷ xs) = value_at m t a ∷ values_at m ts xs

-- what an instruction gives: all operands are read first
abbrev pub given : Instruction → List ℕ → List Value
given i m = results (kind_of i.kind) i.constants (values_at m (takes (kind_of i.kind) i.type) i.operands)

-- then the words of what it gives are written at its result
unfoldable pub execute : Instruction → List ℕ → List ℕ
execute i m = sets m i.result (all_words (given i m))

abbrev pub execute_all : List Instruction → List ℕ → List ℕ
execute_all [] m = m
execute_all (i ∷ is) m = execute_all is (execute i m)

pub record Ran : Type 0 where
  pub memory : List ℕ
  pub outputs : List ℕ

-- the arguments take the first words
abbrev pub run : BoardList → List ℕ → List ℕ → Ran
run b arguments m =
    let after = execute_all b.instructions (sets m 0 arguments) in
    record { memory = after; outputs = map (word_at after) b.outputs }
