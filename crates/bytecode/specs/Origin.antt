-- Where the word at an address comes from: an argument word, or a word of the result of an instruction of another list.
use Rattle.std.specs.Prelude.{ℕ, suc, ◌+◌, ◌-◌, ◌≤◌, ◌≡◌, true, List, [], ◌∷◌, ◌++◌, map, length, get_or, replicate}
use Rattle.std.proofs.Math.Option.{some}
use Rattle.std.proofs.Math.ListN.{get_elem?}
use Rattle.std.proofs.lemmas.List.Edits.{sets}
use Rattle.ports.specs.Kinds.{kind_of}
use Rattle.ports.specs.Ports.{widths, takes, gives, legal_instruction}
use Rattle.base.specs.Lists.{span}
use Rattle.bytecode.specs.Run.{Instruction, spans}

pub data Origin : Type 0 where
  unwritten : Origin
  argument : ℕ → Origin
  result : ℕ → ℕ → Origin

abbrev pub Known : Origin → Type 0
Known unwritten = ⊥
Known (argument i) = Unit {0}
Known (result k j) = Unit {0}

abbrev pub origin_at : List Origin → ℕ → Origin
origin_at o a = get_or o a unwritten

-- the addresses of all words that an instruction reads
abbrev pub operand_places : Instruction → List ℕ
operand_places i = spans (takes (kind_of i.kind) i.type) i.operands

abbrev pub result_width : Instruction → ℕ
result_width i = widths (gives (kind_of i.kind) i.type)

-- the words that the instruction numbered k gives
abbrev pub made : ℕ → ℕ → List Origin
made k n = map (result k) (span 0 n)

abbrev pub origins : Instruction → List Origin → List Origin
origins i o = map (origin_at o) (operand_places i)

abbrev pub after : ℕ → Instruction → List Origin → List Origin
after k i o = sets o i.result (made k (result_width i))

-- arguments first, the other words not yet written
abbrev pub start : ℕ → ℕ → List Origin
start arguments words = map argument (span 0 arguments) ++ replicate (words - arguments) unwritten

-- an instruction, and where what it reads comes from
pub record Reading : Type 0 where
  pub instruction : Instruction
  pub reads : List Origin

-- of a list's own instructions, numbered from k
abbrev pub readings : ℕ → List Instruction → List Origin → List Reading
readings k [] o = []
readings k (i ∷ is) o = record { instruction = i; reads = origins i o } ∷ readings (suc k) is (after k i o)

abbrev pub final : ℕ → List Instruction → List Origin → List Origin
final k [] o = o
final k (i ∷ is) o = final (suc k) is (after k i o)

-- ---- another list, each instruction of which carries out one of the first

pub record Numbered : Type 0 where
  pub number : ℕ
  pub instruction : Instruction

abbrev pub final_of : List Numbered → List Origin → List Origin
final_of [] o = o
final_of (x ∷ xs) o = final_of xs (after x.number x.instruction o)

-- the same kind, type and constants, on words of the same origin
pub record Carry (rs : List Reading) (o : List Origin) (x : Numbered) : Type 0 where
  pub reading : Reading
  pub at : get_elem? rs x.number ≡ some reading
  pub kind : x.instruction.kind ≡ reading.instruction.kind
  pub type : x.instruction.type ≡ reading.instruction.type
  pub constants : x.instruction.constants ≡ reading.instruction.constants
  pub same : origins x.instruction o ≡ reading.reads

abbrev pub Carries : List Reading → List Origin → List Numbered → Type 0
Carries rs o [] = Unit {0}
Carries rs o (x ∷ xs) = Carry rs o x × Carries rs (after x.number x.instruction o) xs

-- an instruction that a memory of these words has room for
pub record Roomy (words : ℕ) (i : Instruction) : Type 0 where
  pub legal : legal_instruction (kind_of i.kind) i.type ≡ true
  pub count : length i.operands ≡ length (takes (kind_of i.kind) i.type)
  pub room : i.result + result_width i ≤ words
